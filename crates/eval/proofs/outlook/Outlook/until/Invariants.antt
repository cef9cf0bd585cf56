use Rattle.std.proofs.Common.{◌≡◌, leb}
use Rattle.eval.specs.Outlooks.{seen}
use Rattle.eval.specs.Truth.{any, all, future}
use Rattle.eval.proofs.Turns.{reached}
use Rattle.eval.proofs.outlook.Outlook.until.Given as goal

abbrev pub invariant-loop-j : goal.invariant-loop-j
invariant-loop-j g l =
    let k = g.K.Truth.kind in
    let i = l.self.state in
    let f = g.F.Operand.at l.first in
    (l.any ≡ any k l.j (future k (seen k l.self l.pending) l.self.window i) (reached k f (g.G.Operand.at l.second) i))
    × (l.held ≡ all k l.j (λ m. leb i m) f)
