use Rattle.std.proofs.Common.{inr}
use Rattle.std.proofs.lemmas.Result.{IfOk-weaker}
use Rattle.judgetext.proofs.text.output.Goals as goal

pub returns-in-Ok : goal.returns-in-Ok
returns-in-Ok c =
    IfOk-weaker c.record_text.result _ _
    (λ s h. inr (record { table = c.in-Ok.table; is = c.in-Ok.ensures.answer; written = h }))
    c.record_text.ensures
