use Rattle.std.proofs.Common.{◌++◌, string_bytes, sym, refl, ap, ◌∙◌, subst, arith}
use Rattle.std.specs.Result.{IsOk}
use Rattle.std.proofs.lemmas.Slice.{pushed}
use Rattle.syntax.specs.declared.Rule.{Rule}
use Rattle.recordtext.specs.Texts.{verdict_line}
use Rattle.judgetext.specs.Outputs.{lines_upto}
use Rattle.judgetext.proofs.Lines.{same_Ok, truth_known, line_more, lines_all, state_more}
use Rattle.judgetext.proofs.text.all_lines.Goals as goal

pub unwrap-truth-requires : goal.unwrap-truth-requires
unwrap-truth-requires c =
    let d : Rule = record { number = 0; root = 0 } in
    let known = truth_known c.args.judged.now c.rules-rule-items.result.now c.loop-rule.rule-index c.loop-state.state d c.rules-rule-items.ensures c.loop-rule-test.true (omega (arith, c.states-state-end.ensures)) in
    subst IsOk (sym (c.truth.ensures ∙ known)) refl

pub loop-rule-preserved : goal.loop-rule-preserved
loop-rule-preserved c =
    let j = c.args.judged.now in
    let n = c.loop-state.state in
    let rules = c.rules-rule-items.result.now in
    let known = truth_known j rules c.loop-rule.rule-index n _ c.rules-rule-items.ensures c.loop-rule-test.true (omega (arith, c.states-state-end.ensures)) in
    line_more j.table.now j.record.stamps.now j.record.rows.now n rules (lines_upto j.table.now j.record.stamps.now j.record.rows.now n)
    c.loop-rule.rule-index _ (string_bytes c.loop-rule.out) (string_bytes c.push_str.new.self) (string_bytes c.in_ok-line.line) c.loop-rule-test.true c.loop-rule.invariant
    (c.in_ok-line.ensures ∙ ap (verdict_line _ n) (same_Ok _ _ (sym c.unwrap-truth.ensures ∙ c.truth.ensures ∙ known)))
    (pushed {was = string_bytes c.loop-rule.out} c.as_str.result.now refl c.in_ok-push_str.was c.push_str.ensures.bytes ∙ ap (λ xs. string_bytes c.loop-rule.out ++ xs) c.as_str.ensures.value)

pub loop-state-preserved : goal.loop-state-preserved
loop-state-preserved c =
    let j = c.args.judged.now in
    let n = c.loop-state.state in
    let rules = c.rules-rule-items.result.now in
    let start = lines_upto j.table.now j.record.stamps.now j.record.rows.now n in
    let all = lines_all j.table.now j.record.stamps.now j.record.rows.now n rules start c.loop-rule.rule-index (string_bytes c.loop-rule.out) c.loop-rule-test.false c.loop-rule.invariant in
    state_more j.table.now j.record.stamps.now j.record.rows.now n rules start (string_bytes c.loop-rule.out) c.rules-rule-items.ensures refl all
