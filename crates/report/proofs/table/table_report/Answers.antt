use Rattle.std.proofs.Common.{◌≡◌, ◌<◌, ◌≤◌, ◌++◌, [], length, get_or, None, sym, refl, ap, ◌∙◌, append_assoc, arith, rules}
use Rattle.grammar.specs.TableText.{rule_text, texts}
use Rattle.syntax.specs.declared.Rule.{Rule}
use Rattle.syntax.specs.Formula.{reach}
use Rattle.syntax.specs.Nodes.{formula_at}
use Rattle.rules.specs.Tables.{nodes_of, rules_of, entries_of}
use Rattle.report.proofs.Known.{own_reach}
use Rattle.report.specs.Reports.{summary}
use Rattle.report.specs.Sizes.{size}
use Rattle.std.specs.Result.{result_unwrap_or}
use Rattle.writer.proofs.NodeTexts.{rule_root, text_of_rule}
use Rattle.report.proofs.Sizes.{next_size}
use Rattle.report.proofs.RuleReports.{none_yet, one_more, all_done}
use Rattle.report.proofs.table.table_report.Goals as goal

pub loop-i-init : goal.loop-i-init
loop-i-init c = rw c.new-out.ensures.items (none_yet c.args.table.now)

pub overflow_add-end : goal.overflow_add-end
overflow_add-end c =
    let t = c.args.table.now in
    let few : length (nodes_of t) ≤ 64 = search rules in
    omega (arith, rule_root t c.rules-rule-items.result.now c.loop-i.i (record { number = 0; root = 0 }) _ c.rules-rule-items.ensures.value c.loop-i-test.true refl)

pub loop-i-preserved : goal.loop-i-preserved
loop-i-preserved c =
    let t = c.args.table.now in
    let i = c.loop-i.i in
    let none : Rule = record { number = 0; root = 0 } in
    let rules = c.rules-rule-items.ensures.value in
    let r : Rule = get_or c.rules-rule-items.result.now i none in
    let is : r ≡ get_or (rules_of t) i none = ap (λ l. get_or l i none) rules in
    let lt : i < length (rules_of t) = omega (arith, ap length rules) in
    let text : c.as_slice.result.now ≡ rule_text (texts [] (entries_of t)) r =
    c.as_slice.ensures.value ∙ c.in_ok-text.ensures ∙ sym (text_of_rule t c.rules-rule-items.result.now i none r rules c.loop-i-test.true refl) in
    let own : c.unwrap_or-reach.result ≡ reach (formula_at (nodes_of t) r.root) =
    c.unwrap_or-reach.ensures ∙ ap (λ o. result_unwrap_or o None) c.reach.ensures ∙ own_reach none t i r is lt in
    let count : c.saturating_sub.result ≡ size (formula_at (nodes_of t) r.root) = c.saturating_sub.ensures ∙ next_size (nodes_of t) c.loop-i.before (rules_of t) i none r is lt c.loop-i.invariant.count in
    let line : c.as_bytes.result.now ≡ summary (size (formula_at (nodes_of t) r.root)) (reach (formula_at (nodes_of t) r.root)) =
    c.as_bytes.ensures.value ∙ c.in_ok-line.ensures ∙ ap (λ n. summary n c.unwrap_or-reach.result) count ∙ ap (summary (size (formula_at (nodes_of t) r.root))) own in
    one_more c.extend_from_slice-in-loop-i.new.self.items r none is lt c.loop-i.invariant
    (c.in_ok-extend_from_slice-2.ensures.items ∙ ap (λ l. l ++ c.as_bytes.result.now) c.in_ok-extend_from_slice.ensures.items ∙ append_assoc c.loop-i.out.items c.as_slice.result.now c.as_bytes.result.now ∙ ap (λ l. c.loop-i.out.items ++ (l ++ c.as_bytes.result.now)) text ∙ ap (λ l. c.loop-i.out.items ++ (rule_text (texts [] (entries_of t)) r ++ l)) line)

pub returns : goal.returns
returns c = all_done (rw c.rules-rule-items.ensures.value at c.loop-i-test.false) c.loop-i.invariant
