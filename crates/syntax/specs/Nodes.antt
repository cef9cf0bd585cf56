-- The formula of each node of a table.
use Rattle.std.specs.Prelude.{ℕ, ◌+◌, ◌<◌, ◌≤◌, max, Bool, true, cond, ◌&&◌, List, [], ◌∷◌, ◌++◌, length, Some, None, Option, ◌==◌, nat_lt, slice_index_or}
use Rattle.syntax.specs.declared.Rule.{Rule}
use Rattle.syntax.specs.declared.Node.{Node}
use Rattle.syntax.specs.declared.Node.TheVariants as node
use Rattle.syntax.specs.Formula.{Formula}
use Rattle.syntax.specs.Formula.Formula.{Truth, Query, Not, And, Or, Implies, Next, AllNext, Sometime, Always, Until, Previous, Once, SoFar, Since}

-- the formula of a node, after the formulas of the nodes before it
abbrev pub formula : List Formula → Node → Formula
formula fs node.True = Truth
formula fs (node.Query q) = Query (length fs)
formula fs (node.Not a) = Not (slice_index_or fs a Truth)
formula fs (node.And a b) = And (slice_index_or fs a Truth) (slice_index_or fs b Truth)
formula fs (node.Or a b) = Or (slice_index_or fs a Truth) (slice_index_or fs b Truth)
formula fs (node.Implies a b) = Implies (slice_index_or fs a Truth) (slice_index_or fs b Truth)
formula fs (node.Next w a) = Next w (slice_index_or fs a Truth)
formula fs (node.AllNext w a) = AllNext w (slice_index_or fs a Truth)
formula fs (node.Sometime w a) = Sometime w (slice_index_or fs a Truth)
formula fs (node.Always w a) = Always w (slice_index_or fs a Truth)
formula fs (node.Until w a b) = Until w (slice_index_or fs a Truth) (slice_index_or fs b Truth)
formula fs (node.Previous w a) = Previous w (slice_index_or fs a Truth)
formula fs (node.Once w a) = Once w (slice_index_or fs a Truth)
formula fs (node.SoFar w a) = SoFar w (slice_index_or fs a Truth)
formula fs (node.Since w a b) = Since w (slice_index_or fs a Truth) (slice_index_or fs b Truth)

abbrev pub formulas_after : List Formula → List Node → List Formula
formulas_after fs [] = fs
formulas_after fs (x ∷ xs) = formulas_after (fs ++ formula fs x ∷ []) xs

-- the formula of each node
abbrev pub formulas : List Node → List Formula
formulas xs = formulas_after [] xs

-- the first place at which a node can stand, after its operands
abbrev pub place : Node → ℕ
place node.True = 0
place (node.Query q) = 0
place (node.Not a) = a + 1
place (node.And a b) = max a b + 1
place (node.Or a b) = max a b + 1
place (node.Implies a b) = max a b + 1
place (node.Next w a) = a + 1
place (node.AllNext w a) = a + 1
place (node.Sometime w a) = a + 1
place (node.Always w a) = a + 1
place (node.Until w a b) = max a b + 1
place (node.Previous w a) = a + 1
place (node.Once w a) = a + 1
place (node.SoFar w a) = a + 1
place (node.Since w a b) = max a b + 1

-- every node stands after its operands
abbrev pub Ordered : List Node → Type 0
Ordered xs = (m : ℕ) → m < length xs → place (slice_index_or xs m node.True) ≤ m

-- every rule has one of the n nodes
abbrev pub rooted : ℕ → List Rule → Bool
rooted n [] = true
rooted n (r ∷ rs) = nat_lt r.root n && rooted n rs

-- the node of the rule with a number
abbrev pub root_of : ℕ → List Rule → Option ℕ
root_of number [] = None
root_of number (r ∷ rs) = cond (r.number == number) (Some r.root) (root_of number rs)

-- the formula of a node
abbrev pub formula_at : List Node → ℕ → Formula
formula_at nodes m = slice_index_or (formulas nodes) m Truth
