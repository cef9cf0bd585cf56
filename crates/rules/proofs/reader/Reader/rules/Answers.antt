use Rattle.std.proofs.Common.{◌≡◌, ◌+◌, length, vec_items, sym, ◌∙◌, subst, arith}
use Rattle.grammar.specs.Reading.{done}
use Rattle.grammar.specs.Files.{rule_opening}
use Rattle.rules.specs.Reads.{state_of}
use Rattle.rules.proofs.RuleLoop.{Sofar, begin, more, number_small, not_empty}
use Rattle.rules.proofs.reader.Reader.rules.Goals as goal

pub loop-self-init : goal.loop-self-init
loop-self-init c = (subst (λ l. Sofar (state_of c.args.self.now) l 1 (state_of c.args.self.now)) (sym c.requires.empty) (begin (state_of c.args.self.now)), c.requires.wide)

pub overflow_add-least : goal.overflow_add-least
overflow_add-least c = omega (arith, number_small c.loop-self.least (state_of c.rule_opening.new.self) c.in_ok-rule.rule (state_of c.rule.new.self) c.in_ok-rule.ensures)

pub loop-self-preserved : goal.loop-self-preserved
loop-self-preserved c =
    let k : c.len.result ≡ length (vec_items c.loop-self.rules) = c.len.ensures ∙ c.loop-self.rules.ok.0 in
    let o = subst (λ n. rule_opening n (state_of c.loop-self.self) ≡ done tt (state_of c.rule_opening.new.self)) k c.in_ok-rule_opening.ensures in
    let m = more _ _ _ _ c.loop-self.invariant.0 (not_empty _ c.loop-self-test.ensures) _ c.in_ok-rule.rule _ o c.in_ok-rule.ensures in
    (subst (λ l. Sofar (state_of c.args.self.now) l (c.in_ok-rule.rule.number + 1) (state_of c.rule.new.self)) (sym c.push_reserved.ensures.items) m, omega (arith, c.loop-self.invariant.1, c.push_reserved.ensures.capacity))
