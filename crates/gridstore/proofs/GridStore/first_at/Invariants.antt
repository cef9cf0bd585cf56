use Rattle.gridstore.specs.Grids.{Passed}
use Rattle.gridstore.proofs.GridStore.first_at.Given as goal

abbrev pub invariant-loop-key : goal.invariant-loop-key
invariant-loop-key l = Passed l.self.words l.self.size l.start l.key
