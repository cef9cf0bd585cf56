use Rattle.std.proofs.Common.{◌≡◌, length, get_or}
use Rattle.syntax.specs.declared.Node.TheVariants as node
use Rattle.eval.specs.Evaluations.{record_in, Fits}
use Rattle.eval.specs.Standing.{Right, stood}
use Rattle.eval.specs.Steps.{kept_of, Filled}
use Rattle.eval.proofs.Filling.{truths, Done}
use Rattle.eval.proofs.evaluation.Evaluation.settle_node.Given as goal

abbrev pub invariant-loop-i : goal.invariant-loop-i
invariant-loop-i g l =
    let k = g.K.Truth.kind in
    let r = record_in g.L.Leaves.leaf l.self in
    let nodes = l.self.nodes.now in
    Fits l.self l.values
    × Filled k r nodes l.values l.m
    × Done k r nodes l.m l.values l.i
    × Right k r nodes l.values (stood (g.S.Standing.from l.self.standing) (g.S.Standing.stays l.self.standing))
    × (l.held ≡ kept_of k (truths k r nodes l.m) (length l.self.stamps.now) l.i (get_or nodes l.m node.True))
