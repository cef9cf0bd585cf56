use Rattle.std.proofs.Common.{◌≡◌, [], get_or, refl, ap}
use Rattle.syntax.specs.declared.Rule.{Rule}
use Rattle.grammar.specs.TableText.{rule_text, texts}
use Rattle.rules.specs.Tables.{rules_of, entries_of}
use Rattle.writer.proofs.Places.{gains_same, more_gained, all_gained}
use Rattle.writer.proofs.NodeTexts.{rules_are, rule_root}
use Rattle.writer.proofs.sink.Sink.put_rules.Goals as goal

pub put_rule-requires : goal.put_rule-requires
put_rule-requires c = rule_root c.args.table.now c.rules-rule-items.result.now c.loop-rule.rule-index (record { number = 0; root = 0 }) _ c.rules-rule-items.ensures.value c.loop-rule-test.true refl

pub loop-rule-preserved : goal.loop-rule-preserved
loop-rule-preserved c =
    let t = c.args.table.now in
    let none : Rule = record { number = 0; root = 0 } in
    let text = rule_text (texts [] (entries_of t)) in
    let same : text (get_or c.rules-rule-items.result.now c.loop-rule.rule-index none) ≡ text (get_or (rules_of t) c.loop-rule.rule-index none) = ap (λ l. text (get_or l c.loop-rule.rule-index none)) c.rules-rule-items.ensures.value in
    more_gained text (rules_of t) c.loop-rule.rule-index c.loop-rule.invariant none (rw c.rules-rule-items.ensures.value at c.loop-rule-test.true) (gains_same same c.put_rule.ensures)

pub returns : goal.returns
returns c =
    let t = c.args.table.now in
    let text = rule_text (texts [] (entries_of t)) in
    gains_same (rules_are (texts [] (entries_of t)) (rules_of t)) (all_gained text (rules_of t) c.loop-rule.rule-index c.loop-rule.invariant (rw c.rules-rule-items.ensures.value at c.loop-rule-test.false))
