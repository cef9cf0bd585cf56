-- The reach of a rule.
use Rattle.std.specs.Prelude.{◌≡◌, ℕ, ◌+◌, ◌*◌, ◌<◌, ◌≤◌, List, length, Some, None, Ok, Err, Option, Result, slice_index_or}
use Rattle.syntax.specs.declared.Node.{Node}
use Rattle.syntax.specs.declared.Node.TheVariants as node
use Rattle.syntax.specs.declared.Rule.{Rule}
use Rattle.syntax.specs.Formula.{greater, plus, reach}
use Rattle.syntax.specs.Nodes.{root_of, formula_at}
use Rattle.rules.specs.declared.refusal.JudgeFault.{JudgeFault}
use Rattle.rules.specs.declared.refusal.JudgeFault.TheVariants.{UnknownRule}

abbrev pub root_reach : List Node → Option ℕ → Result (Option ℕ) JudgeFault
root_reach nodes None = Err UnknownRule
root_reach nodes (Some m) = Ok (reach (formula_at nodes m))

-- the reach of the rule with a number, or the refusal of an unknown one
abbrev pub rule_reach : ℕ → List Node → List Rule → Result (Option ℕ) JudgeFault
rule_reach number nodes rules = root_reach nodes (root_of number rules)

-- the reach of a node, from those of the nodes before it
abbrev pub node_reach : List (Option ℕ) → Node → Option ℕ
node_reach rs node.True = Some 0
node_reach rs (node.Query q) = Some 0
node_reach rs (node.Not a) = slice_index_or rs a (Some 0)
node_reach rs (node.And a b) = greater (slice_index_or rs a (Some 0)) (slice_index_or rs b (Some 0))
node_reach rs (node.Or a b) = greater (slice_index_or rs a (Some 0)) (slice_index_or rs b (Some 0))
node_reach rs (node.Implies a b) = greater (slice_index_or rs a (Some 0)) (slice_index_or rs b (Some 0))
node_reach rs (node.Next w a) = plus w.high (slice_index_or rs a (Some 0))
node_reach rs (node.AllNext w a) = plus w.high (slice_index_or rs a (Some 0))
node_reach rs (node.Sometime w a) = plus w.high (slice_index_or rs a (Some 0))
node_reach rs (node.Always w a) = plus w.high (slice_index_or rs a (Some 0))
node_reach rs (node.Until w a b) = plus w.high (greater (slice_index_or rs a (Some 0)) (slice_index_or rs b (Some 0)))
node_reach rs (node.Previous w a) = slice_index_or rs a (Some 0)
node_reach rs (node.Once w a) = slice_index_or rs a (Some 0)
node_reach rs (node.SoFar w a) = slice_index_or rs a (Some 0)
node_reach rs (node.Since w a b) = greater (slice_index_or rs a (Some 0)) (slice_index_or rs b (Some 0))

-- none, or at most this
abbrev pub Upto : ℕ → Option ℕ → Type 0
Upto m None = Unit {0}
Upto m (Some d) = d ≤ m

-- each reach is at most the widest bound for each node
abbrev pub Small : List (Option ℕ) → Type 0
Small rs = (m : ℕ) → m < length rs → Upto (length rs * 4294967295) (slice_index_or rs m None)

-- the reach of the next node
pub record Reached (rs : List (Option ℕ)) (x : Node) (r : Option ℕ) : Type 0 where
  pub value : r ≡ node_reach rs x
  pub small : Upto ((length rs + 1) * 4294967295) r
