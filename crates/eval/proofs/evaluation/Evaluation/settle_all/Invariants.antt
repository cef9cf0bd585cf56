use Rattle.eval.specs.Evaluations.{record_in, Fits}
use Rattle.eval.specs.Standing.{Right, stood}
use Rattle.eval.specs.Steps.{Filled}
use Rattle.eval.proofs.evaluation.Evaluation.settle_all.Given as goal

abbrev pub invariant-loop-m : goal.invariant-loop-m
invariant-loop-m g l =
    let k = g.K.Truth.kind in
    let r = record_in g.L.Leaves.leaf l.self in
    Fits l.self l.values
    × Filled k r l.self.nodes.now l.values l.m
    × Right k r l.self.nodes.now l.values (stood (g.S.Standing.from l.self.standing) (g.S.Standing.stays l.self.standing))
