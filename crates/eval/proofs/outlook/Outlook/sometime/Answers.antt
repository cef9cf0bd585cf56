use Rattle.std.proofs.Common.{length, leb, sym, ◌∙◌}
use Rattle.eval.specs.Outlooks.{seen}
use Rattle.eval.proofs.Turns.{kept_yes, until_yes}
use Rattle.eval.proofs.outlook.Outlook.sometime.Goals as goal

pub until-requires-clause-keeps : goal.until-requires-clause-keeps
until-requires-clause-keeps g c =
    let o = c.args.self.now in
    c.yes.ensures ∙ sym (kept_yes g.met.K.Truth.laws (length o.stamps.now) (λ m. leb o.state m))

pub returns : goal.returns
returns g c =
    let k = g.K.Truth.kind in
    let o = c.args.self.now in
    c.until.ensures ∙ until_yes g.met.K.Truth.laws (seen k o c.args.pending) o.window (g.O.Operand.at c.args.operand.now) o.state
