-- Formulas as trees: their items, their nodes and when they are well formed.
use Rattle.std.specs.Prelude.{◌≡◌, ℕ, zero, suc, ◌+◌, Bool, true, false, ◌&&◌, List, [], ◌∷◌, ◌++◌, length, ℤ, pos, Some, None, int_le}
use Rattle.items.specs.declared.item.Form.{Form}
use Rattle.items.specs.declared.item.Kind.{Kind}
use Rattle.grammar.specs.declared.shape.Slot.{Slot}
use Rattle.grammar.specs.declared.shape.Slot.TheVariants.{Range, Upper, UpperOrEnd}
use Rattle.grammar.specs.declared.shape.Arity.{Arity}
use Rattle.grammar.specs.declared.shape.Arity.TheVariants.{Zero, One, Two}
use Rattle.grammar.specs.Grammar.{slots, arity}
use Rattle.grammar.specs.Entries.{Arg, Entry, entry}
use Rattle.items.specs.declared.item.Kind.TheVariants as kind

-- a formula: its form, its arguments, and the formulas in it
pub data Tree : Type 0 where
  leaf : Form → List Arg → Tree
  unary : Form → List Arg → Tree → Tree
  binary : Form → List Arg → Tree → Tree → Tree

abbrev pub arg_token : Arg → Kind
arg_token (Some z) = kind.Number z
arg_token None = kind.End

-- each after a space, in front of what follows
abbrev pub arg_tokens : List Arg → List Kind → List Kind
arg_tokens [] r = r
arg_tokens (x ∷ xs) r = kind.Space ∷ arg_token x ∷ arg_tokens xs r

-- the opening bracket, the word and the arguments
abbrev pub head_tokens : Form → List Arg → List Kind → List Kind
head_tokens f xs r = kind.Open ∷ kind.Form f ∷ arg_tokens xs r

-- the items of a formula, in front of what follows
abbrev pub tree_tokens : Tree → List Kind → List Kind
tree_tokens (leaf f xs) r = head_tokens f xs (kind.Close ∷ r)
tree_tokens (unary f xs a) r = head_tokens f xs (kind.Space ∷ tree_tokens a (kind.Close ∷ r))
tree_tokens (binary f xs a b) r = head_tokens f xs (kind.Space ∷ tree_tokens a (kind.Space ∷ tree_tokens b (kind.Close ∷ r)))

-- how many formulas are inside
abbrev pub inside : Tree → ℕ
inside (leaf f xs) = 0
inside (unary f xs a) = inside a + 1
inside (binary f xs a b) = inside a + 1 + (inside b + 1)

-- the nodes of a formula, in the order of the closing brackets, after those that stand already
abbrev pub nodes_after : List Entry → Tree → List Entry
nodes_after ns (leaf f xs) = ns ++ (entry f xs [] ∷ [])
nodes_after ns (unary f xs a) = nodes_after ns a ++ (entry f xs ((length ns + inside a) ∷ []) ∷ [])
nodes_after ns (binary f xs a b) =
    nodes_after (nodes_after ns a) b ++ (entry f xs ((length ns + inside a) ∷ (length (nodes_after ns a) + inside b) ∷ []) ∷ [])

abbrev pub in_range : ℤ → ℤ → ℤ → Bool
in_range low high z = int_le low z && int_le z high

-- an argument in its range, and an upper bound not below the bound before it
abbrev pub fits : Slot → ℤ → Arg → Bool
fits (Range low high) before (Some z) = in_range low high z
fits (Range low high) before None = false
fits (Upper low high) before (Some z) = in_range low high z && int_le before z
fits (Upper low high) before None = false
fits (UpperOrEnd low high) before (Some z) = in_range low high z && int_le before z
fits (UpperOrEnd low high) before None = true

abbrev pub bound : Arg → ℤ
bound (Some z) = z
bound None = pos 0

abbrev pub args_fit : List Slot → ℤ → List Arg → Bool
args_fit [] before [] = true
args_fit [] before (x ∷ xs) = false
args_fit (slot ∷ more) before [] = false
args_fit (slot ∷ more) before (x ∷ xs) = fits slot before x && args_fit more (bound x) xs

abbrev pub Heads : Form → List Arg → Arity → Type 0
Heads f xs n = (arity f ≡ n) × (args_fit (slots f) (pos 0) xs ≡ true)

-- well formed, with at most this many levels
abbrev pub Well : ℕ → Tree → Type 0
Well zero t = ⊥
Well (suc l) (leaf f xs) = Heads f xs Zero
Well (suc l) (unary f xs a) = Heads f xs One × Well l a
Well (suc l) (binary f xs a b) = Heads f xs Two × Well l a × Well l b
