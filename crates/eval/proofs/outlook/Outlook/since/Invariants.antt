use Rattle.std.proofs.Common.{◌≡◌, suc, ◌≤◌, leb}
use Rattle.eval.specs.Outlooks.{seen}
use Rattle.eval.specs.Truth.{all}
use Rattle.eval.proofs.Turns.{Back, lasting}
use Rattle.eval.proofs.outlook.Outlook.since.Given as goal

abbrev pub invariant-loop-j : goal.invariant-loop-j
invariant-loop-j g l =
    let k = g.K.Truth.kind in
    let i = l.self.state in
    let f = g.F.Operand.at l.first in
    (l.start ≤ l.j)
    × Back g.met.K.Truth.laws (seen k l.self k.no) l.self.window (lasting k f (g.G.Operand.at l.second) i) i l.j l.any
    × (l.held ≡ all k (suc i) (λ m. leb l.j m) f)
