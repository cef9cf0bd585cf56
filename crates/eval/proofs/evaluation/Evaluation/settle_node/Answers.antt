use Rattle.std.proofs.Common.{◌-◌, length, refl, ◌∙◌, arith}
use Rattle.eval.specs.Evaluations.{record_in}
use Rattle.eval.specs.Standing.{stood}
use Rattle.eval.proofs.Filling.{truths, kept_none, kept_columns, kept_truths, filled_keeps, done_more, right_keeps, filled_more}
use Rattle.eval.proofs.evaluation.Evaluation.settle_node.Goals as goal

pub loop-i-init : goal.loop-i-init
loop-i-init g c =
    let e = c.args.self.now in (
      c.requires.within.1,
      c.requires.filled,
      (λ j le lj. absurd (omega arith)),
      c.requires.right,
      c.yes-held.ensures ∙ kept_none g.met.K.Truth.laws (truths g.K.Truth.kind (record_in g.L.Leaves.leaf e) e.nodes.now c.args.m) (length e.stamps.now) _,
    )

pub kept_at-held-requires : goal.kept_at-held-requires
kept_at-held-requires g c =
    let e = c.args.self.now in
    record {
      within = ((c.requires.within.0, omega arith), c.loop-i.invariant.0);
      keeps = kept_columns g.K.Truth.kind (record_in g.L.Leaves.leaf e) e.nodes.now c.args.m c.requires.within.0 e.ordered c.loop-i.values c.loop-i.invariant.1 c.loop-i.i _ (omega arith) c.loop-i.invariant.4;
    }

pub loop-i-preserved : goal.loop-i-preserved
loop-i-preserved g c =
    let k = g.K.Truth.kind in
    let e = c.args.self.now in
    let r = record_in g.L.Leaves.leaf e in
    let nodes = e.nodes.now in
    let m = c.args.m in
    let old = c.loop-i.values in
    let i = c.loop-i.i - 1 in
    let x = truths k r nodes m m i in
    let new = c.settle.new.values in (
      omega (arith, c.loop-i.invariant.0),
      filled_keeps k r nodes m c.requires.within.0 e.ordered old c.loop-i.invariant.1 c.loop-i.invariant.0 i (omega arith) x new c.settle.ensures,
      done_more k r nodes m c.requires.within.0 e.ordered old c.loop-i.invariant.1 c.loop-i.invariant.0 i (omega arith) x new c.settle.ensures c.loop-i.i (omega arith) refl c.loop-i.invariant.2,
      right_keeps k r nodes m c.requires.within.0 e.ordered old c.loop-i.invariant.1 c.loop-i.invariant.0 i (omega arith) x new c.settle.ensures refl (stood (g.S.Standing.from e.standing) (g.S.Standing.stays e.standing)) c.loop-i.invariant.3,
      kept_truths k r nodes m c.requires.within.0 e.ordered old c.loop-i.invariant.1 i c.kept_at-held.ensures,
    )

pub returns : goal.returns
returns g c =
    let e = c.args.self.now in
    record {
      filled = filled_more g.K.Truth.kind (record_in g.L.Leaves.leaf e) e.nodes.now c.args.m c.loop-i.values c.loop-i.i (g.S.Standing.from e.standing) (g.S.Standing.stays e.standing) (omega (arith, c.first-i-start.ensures)) c.requires.within.0 c.loop-i.invariant.1 c.loop-i.invariant.2 c.loop-i.invariant.3;
      right = c.loop-i.invariant.3;
    }
