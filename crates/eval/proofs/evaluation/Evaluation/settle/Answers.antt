use Rattle.std.proofs.Common.{◌≡◌, ◌+◌, ◌*◌, true, length, set, sym, ap, ◌∙◌}
use lib.Seq.{set-get_or}
use Rattle.std.proofs.lemmas.Bool.{or_right}
use Rattle.eval.specs.Columns.{value_at}
use Rattle.eval.specs.Evaluations.{record_in}
use Rattle.eval.proofs.Filling.{node_truth}
use Rattle.eval.proofs.evaluation.Evaluation.settle.Goals as goal

pub returns-then-stands : goal.returns-then-stands
returns-then-stands g c =
    let e = c.args.self.now in
    let values = c.args.values.now in
    let place = c.args.i * length e.nodes.now + c.args.m in
    let stays : g.S.Standing.stays e.standing c.args.i (value_at g.K.Truth.kind values (length e.nodes.now) c.args.m c.args.i) ≡ true =
    ap (g.S.Standing.stays e.standing c.args.i) (sym c.value.ensures) ∙ sym c.stands.ensures ∙ c.if-stands.true in
    sym (set-get_or values place g.K.Truth.kind.no)
    ∙ ap (set values place) (c.requires.right c.args.m c.args.i c.requires.within.0.0 c.requires.within.0.1 (or_right _ _ stays))

pub returns : goal.returns
returns g c =
    let e = c.args.self.now in
    c.write.ensures
    ∙ ap (set c.args.values.now (c.args.i * length e.nodes.now + c.args.m))
    (node_truth g.K.Truth.kind (record_in g.L.Leaves.leaf e) e.nodes.now c.args.m c.requires.within.0.0 e.ordered c.args.values.now c.requires.filled c.args.i c.requires.within.0.1 c.node_at-value.ensures)
