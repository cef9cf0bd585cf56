use Rattle.std.proofs.Common.{vec_items, ◌∙◌, ap₂, inl}
use Rattle.judgetext.specs.Outputs.{verdicts}
use Rattle.std.proofs.lemmas.Result.{IfOk-weaker}
use Rattle.judgetext.proofs.text.record_text.Goals as goal

pub returns-in-Ok : goal.returns-in-Ok
returns-in-Ok c =
    let r = c.in-Ok.states in
    let read = c.in-Ok.ensures in
    IfOk-weaker c.judged_text.result _ _
    (λ s h.
    inl (record {
      stamps = vec_items r.stamps;
      rows = vec_items r.rows;
      paired = read.0;
      small = read.1;
      is = read.2;
      written = h ∙ ap₂ (verdicts c.args.table.now) c.as_slice.ensures.value c.as_slice-in-Ok.ensures.value;
    }))
    c.judged_text.ensures
