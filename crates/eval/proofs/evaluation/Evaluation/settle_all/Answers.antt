use Rattle.eval.specs.Evaluations.{record_in}
use Rattle.eval.proofs.Filling.{filled_all}
use Rattle.eval.proofs.evaluation.Evaluation.settle_all.Goals as goal

pub returns : goal.returns
returns g c =
    let e = c.args.self.now in
    filled_all g.K.Truth.kind (record_in g.L.Leaves.leaf e) e.nodes.now c.loop-m.values c.loop-m.m
    c.loop-m.invariant.0 c.loop-m-test.false c.loop-m.invariant.1
