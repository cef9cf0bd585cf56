use Rattle.eval.specs.Outlooks.{seen}
use Rattle.eval.proofs.Turns.{next_inside}
use Rattle.eval.proofs.outlook.Outlook.next.Goals as goal

pub returns-then-j-self : goal.returns-then-j-self
returns-then-j-self g c =
    let o = c.args.self.now in
    next_inside g.met.K.Truth.laws (seen g.K.Truth.kind o c.args.pending) o.window (g.O.Operand.at c.args.operand.now) o.state c.if-j-self.true
    c.ahead.ensures c.contains.ensures c.read.ensures c.only_if.ensures
