use Rattle.rules.proofs.Roots.{root_here, root_later, root_none}
use Rattle.rules.proofs.questions.root_in.Goals as goal

pub returns-then-rule-number : goal.returns-then-rule-number
returns-then-rule-number c = root_here _ _ _ _ c.loop-rule.invariant c.loop-rule-test.true c.if-rule-number.true

pub loop-rule-preserved : goal.loop-rule-preserved
loop-rule-preserved c = root_later _ _ _ _ c.loop-rule.invariant c.loop-rule-test.true c.if-rule-number.false

pub returns : goal.returns
returns c = root_none _ _ _ (record { number = 0; root = 0 }) c.loop-rule.invariant c.loop-rule-test.false
