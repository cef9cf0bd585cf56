use Rattle.std.proofs.Common.{◌≡◌, drop}
use Rattle.syntax.specs.Nodes.{root_of}
use Rattle.rules.proofs.questions.root_in.Given as goal

abbrev pub invariant-loop-rule : goal.invariant-loop-rule
invariant-loop-rule l = root_of l.number (drop l.rule-index l.rules) ≡ root_of l.number l.rules
