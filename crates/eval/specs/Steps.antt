-- What the evaluator computes for node m at a state, from the columns `of` of the nodes before it.
use Rattle.std.specs.Prelude.{◌≡◌, ℕ, ◌<◌, List, length, nat_le}
use Rattle.truth.specs.Kinds.{Kind}
use Rattle.syntax.specs.declared.Node.{Node}
use Rattle.syntax.specs.declared.Node.TheVariants as node
use Rattle.syntax.specs.Nodes.{formula_at}
use Rattle.eval.specs.Columns.{value_at}
use Rattle.eval.specs.Truth.{all, Record, count, value, next, allnext, sometime, always, until, previous, once, sofar, since}

module _ {K : Type 0} (k : Kind K) (r : Record K) (of : ℕ → ℕ → K) (m : ℕ) where
  abbrev pub node_value : Node → ℕ → K
  node_value node.True i = k.yes
  node_value (node.Query q) i = r.leaf i m
  node_value (node.Not a) i = k.not (of a i)
  node_value (node.And a b) i = k.and (of a i) (of b i)
  node_value (node.Or a b) i = k.or (of a i) (of b i)
  node_value (node.Implies a b) i = k.or (k.not (of a i)) (of b i)
  node_value (node.Next w a) i = next k r w (of a) i
  node_value (node.AllNext w a) i = allnext k r w (of a) i
  node_value (node.Sometime w a) i = sometime k r w (of a) i
  node_value (node.Always w a) i = always k r w (of a) i
  node_value (node.Until w a b) i = until k r w (of a) (of b) i
  node_value (node.Previous w a) i = previous k r w (of a) i
  node_value (node.Once w a) i = once k r w (of a) i
  node_value (node.SoFar w a) i = sofar k r w (of a) i
  node_value (node.Since w a b) i = since k r w (of a) (of b) i

-- for an until, its first operand at every state from i to n - 1
module _ {K : Type 0} (k : Kind K) (of : ℕ → ℕ → K) (n i : ℕ) where
  abbrev pub kept_of : Node → K
  kept_of node.True = k.yes
  kept_of (node.Query q) = k.yes
  kept_of (node.Not a) = k.yes
  kept_of (node.And a b) = k.yes
  kept_of (node.Or a b) = k.yes
  kept_of (node.Implies a b) = k.yes
  kept_of (node.Next w a) = k.yes
  kept_of (node.AllNext w a) = k.yes
  kept_of (node.Sometime w a) = k.yes
  kept_of (node.Always w a) = k.yes
  kept_of (node.Until w a b) = all k n (λ m. nat_le i m) (of a)
  kept_of (node.Previous w a) = k.yes
  kept_of (node.Once w a) = k.yes
  kept_of (node.SoFar w a) = k.yes
  kept_of (node.Since w a b) = k.yes

-- the values of the first m nodes are in their places
abbrev pub Filled : {K : Type 0} → Kind K → Record K → List Node → List K → ℕ → Type 0
Filled k r nodes values m =
    (a i : ℕ) → a < m → i < count r → value_at k values (length nodes) a i ≡ value k r (formula_at nodes a) i
