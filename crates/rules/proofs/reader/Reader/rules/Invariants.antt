use Rattle.std.proofs.Common.{◌-◌, ◌≤◌, vec_items, vec_len, vec_capacity}
use Rattle.rules.specs.Reads.{state_of}
use Rattle.rules.proofs.RuleLoop.{Sofar}
use Rattle.rules.proofs.reader.Reader.rules.Given as goal

abbrev pub invariant-loop-self : goal.invariant-loop-self
invariant-loop-self l = Sofar (state_of l.initial.self) (vec_items l.rules) l.least (state_of l.self) × (16 ≤ vec_capacity l.rules)

abbrev pub decreases-loop-self : goal.decreases-loop-self
decreases-loop-self l = 16 - vec_len l.rules
