use Rattle.std.proofs.Common.{length, ap, ◌∙◌}
use Rattle.std.proofs.lemmas.Result.{IfOk-weaker}
use Rattle.judging.specs.Answers.{record_refusals}
use Rattle.judging.specs.Judged.{Case, case_from, case_of}
use Rattle.recordtext.specs.Texts.{refused_line}
use Rattle.judgetext.specs.Outputs.{lines_upto}
use Rattle.judgetext.proofs.Answering.{told_lines, told_refusal}
use Rattle.judgetext.proofs.text.judged_text.Goals as goal

pub returns-in-Ok : goal.returns-in-Ok
returns-in-Ok c =
    let stamps = c.args.stamps.now in
    let rows = c.args.rows.now in
    let lines = λ (x : Case). lines_upto x.table x.stamps x.rows (length x.stamps) in
    IfOk-weaker c.all_lines.result _ _
    (λ s h. h ∙ told_lines (record_refusals stamps rows) (case_from c.args.table.now stamps rows) (case_of c.in-Ok.judged) lines c.in-Ok.ensures.answer)
    c.all_lines.ensures

pub returns-in-Err : goal.returns-in-Err
returns-in-Err c =
    let stamps = c.args.stamps.now in
    let rows = c.args.rows.now in
    IfOk-weaker c.refused.result _ _
    (λ s h. h ∙ ap refused_line c.number.ensures ∙ told_refusal (record_refusals stamps rows) (case_from c.args.table.now stamps rows) c.in-Err.refusal.fault _ c.in-Err.ensures.answer)
    c.refused.ensures
