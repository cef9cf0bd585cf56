-- The formulas of a rule are the nodes after those of the rules before it, up to its root.
use Rattle.std.proofs.Common.{◌≡◌, ℕ, zero, suc, ◌+◌, ◌-◌, ◌<◌, Bool, true, ◌&&◌, eqb, List, [], ◌∷◌, ◌++◌, map, length, get_or, drop, sym, refl, ap, ◌∙◌, subst, arith, length-append}
use mathlib.Core.Logic.{∥∥₁_elim}
use Rattle.std.proofs.Math.Bool.{Bool-set}
use Rattle.std.proofs.lemmas.List.{get_or_append_left, get_or_at, map-append, at_drop_more}
use Rattle.std.proofs.lemmas.Bool.{and_parts, eq-eqb, eqb-true}
use Rattle.syntax.specs.declared.Node.{Node}
use Rattle.syntax.specs.declared.Node.TheVariants as node
use Rattle.syntax.specs.declared.Query.TheVariants as query
use Rattle.syntax.specs.declared.Rule.{Rule}
use Rattle.syntax.specs.Formula.{Formula}
use Rattle.syntax.specs.Formula.Formula.{Truth}
use Rattle.syntax.specs.Nodes.{formula, formulas_after, formulas, formula_at}
use Rattle.grammar.specs.Entries.{Entry, entry_of}
use Rattle.grammar.specs.Trees.{Tree, leaf, unary, binary, inside, nodes_after}
use Rattle.grammar.specs.Files.{Line, lines_nodes, lines_rules}
use Rattle.grammar.specs.Formed.{Formed}
use Rattle.grammar.proofs.Inversion.{length_after}
use Rattle.rules.specs.declared.table.Table.{Table}
use Rattle.rules.specs.Tables.{nodes_of, rules_of}
use Rattle.report.specs.Sizes.{size}

abbrev total : List ℕ → ℕ
total [] = 0
total (n ∷ ns) = n + total ns

-- the size of a node, from those of the nodes before it
abbrev size_of : List ℕ → Entry → ℕ
size_of ss e = 1 + total (map (λ o. get_or ss o 1) e.operands)

abbrev sizes_after : List ℕ → List Entry → List ℕ
sizes_after ss [] = ss
sizes_after ss (e ∷ es) = sizes_after (ss ++ (size_of ss e ∷ [])) es

abbrev sizes : List Entry → List ℕ
sizes es = sizes_after [] es

-- they are the sizes of the nodes' formulas
size_at : (fs : List Formula) (a : ℕ) → get_or (map size fs) a 1 ≡ size (get_or fs a Truth)
size_at [] a = refl
size_at (f ∷ fs) zero = refl
size_at (f ∷ fs) (suc a) = size_at fs a

one_size : (fs : List Formula) (a : ℕ) → 1 + size (get_or fs a Truth) ≡ 1 + (get_or (map size fs) a 1 + 0)
one_size fs a = omega (arith, size_at fs a)

two_sizes : (fs : List Formula) (a b : ℕ) → 1 + (size (get_or fs a Truth) + size (get_or fs b Truth)) ≡ 1 + (get_or (map size fs) a 1 + (get_or (map size fs) b 1 + 0))
two_sizes fs a b = omega (arith, size_at fs a, size_at fs b)

node_size : (fs : List Formula) (x : Node) → size (formula fs x) ≡ size_of (map size fs) (entry_of x)
node_size fs node.True = refl
node_size fs (node.Query (query.Some a b c)) = refl
node_size fs (node.Query (query.Every a b c)) = refl
node_size fs (node.Query (query.Fact a b c)) = refl
node_size fs (node.Query (query.Number a b c)) = refl
node_size fs (node.Query (query.Refer a b)) = refl
node_size fs (node.Query (query.Level a b)) = refl
node_size fs (node.Not a) = one_size fs a
node_size fs (node.And a b) = two_sizes fs a b
node_size fs (node.Or a b) = two_sizes fs a b
node_size fs (node.Implies a b) = two_sizes fs a b
node_size fs (node.Next w a) = one_size fs a
node_size fs (node.AllNext w a) = one_size fs a
node_size fs (node.Sometime w a) = one_size fs a
node_size fs (node.Always w a) = one_size fs a
node_size fs (node.Until w a b) = two_sizes fs a b
node_size fs (node.Previous w a) = one_size fs a
node_size fs (node.Once w a) = one_size fs a
node_size fs (node.SoFar w a) = one_size fs a
node_size fs (node.Since w a b) = two_sizes fs a b

all_sizes : (fs : List Formula) (xs : List Node) → map size (formulas_after fs xs) ≡ sizes_after (map size fs) (map entry_of xs)
all_sizes fs [] = refl
all_sizes fs (x ∷ xs) =
    all_sizes (fs ++ (formula fs x ∷ [])) xs ∙ ap (λ l. sizes_after l (map entry_of xs)) (map-append size fs (formula fs x ∷ []) ∙ ap (λ n. map size fs ++ (n ∷ [])) (node_size fs x))

-- one more node
sizes_append : (ss : List ℕ) (xs ys : List Entry) → sizes_after ss (xs ++ ys) ≡ sizes_after (sizes_after ss xs) ys
sizes_append ss [] ys = refl
sizes_append ss (x ∷ xs) ys = sizes_append (ss ++ (size_of ss x ∷ [])) xs ys

length_sizes : (ss : List ℕ) (xs : List Entry) → length (sizes_after ss xs) ≡ length ss + length xs
length_sizes ss [] = omega arith
length_sizes ss (x ∷ xs) = omega (arith, length_sizes (ss ++ (size_of ss x ∷ [])) xs, length-append ss (size_of ss x ∷ []))

module _ (ns : List Entry) (e : Entry) where
  more_front : (i : ℕ) → i < length ns → get_or (sizes (ns ++ (e ∷ []))) i 1 ≡ get_or (sizes ns) i 1
  more_front i h = ap (λ l. get_or l i 1) (sizes_append [] ns (e ∷ [])) ∙ get_or_append_left (sizes ns) (size_of (sizes ns) e ∷ []) 1 i (omega (arith, length_sizes [] ns))

  more_last : (i : ℕ) → i ≡ length ns → get_or (sizes (ns ++ (e ∷ []))) i 1 ≡ size_of (sizes ns) e
  more_last i h = ap (λ l. get_or l i 1) (sizes_append [] ns (e ∷ [])) ∙ get_or_at (sizes ns) (size_of (sizes ns) e) [] 1 i (omega (arith, length_sizes [] ns))

-- the nodes of a formula leave those before it as they are, and its own node has its size
tree_front : (ns : List Entry) (tree : Tree) (i : ℕ) → i < length ns → get_or (sizes (nodes_after ns tree)) i 1 ≡ get_or (sizes ns) i 1
tree_front ns (leaf f xs) i h = more_front ns _ i h
tree_front ns (unary f xs a) i h = more_front (nodes_after ns a) _ i (omega (arith, length_after ns a)) ∙ tree_front ns a i h
tree_front ns (binary f xs a b) i h =
    more_front (nodes_after (nodes_after ns a) b) _ i (omega (arith, length_after ns a, length_after (nodes_after ns a) b)) ∙ tree_front (nodes_after ns a) b i (omega (arith, length_after ns a)) ∙ tree_front ns a i h

tree_size : (ns : List Entry) (tree : Tree) → get_or (sizes (nodes_after ns tree)) (length ns + inside tree) 1 ≡ inside tree + 1
tree_size ns (leaf f xs) = more_last ns _ (length ns + 0) (omega arith)
tree_size ns (unary f xs a) =
    let i = length ns + inside a in
    let here : get_or (sizes (nodes_after ns (unary f xs a))) (length ns + (inside a + 1)) 1 ≡ 1 + (get_or (sizes (nodes_after ns a)) i 1 + 0) = more_last (nodes_after ns a) _ (length ns + (inside a + 1)) (omega (arith, length_after ns a)) in
    omega (arith, here, tree_size ns a)
tree_size ns (binary f xs a b) =
    let i = length ns + inside a in
    let j = length (nodes_after ns a) + inside b in
    let k = length ns + (inside a + 1 + (inside b + 1)) in
    let here : get_or (sizes (nodes_after ns (binary f xs a b))) k 1 ≡ 1 + (get_or (sizes (nodes_after (nodes_after ns a) b)) i 1 + (get_or (sizes (nodes_after (nodes_after ns a) b)) j 1 + 0)) =
    more_last (nodes_after (nodes_after ns a) b) _ k (omega (arith, length_after ns a, length_after (nodes_after ns a) b)) in
    let first : get_or (sizes (nodes_after (nodes_after ns a) b)) i 1 ≡ inside a + 1 = tree_front (nodes_after ns a) b i (omega (arith, length_after ns a)) ∙ tree_size ns a in
    omega (arith, here, first, tree_size (nodes_after ns a) b)

lines_front : (ns : List Entry) (ls : List Line) (i : ℕ) → i < length ns → get_or (sizes (lines_nodes ns ls)) i 1 ≡ get_or (sizes ns) i 1
lines_front ns [] i h = refl
lines_front ns (l ∷ ls) i h = lines_front (nodes_after ns l.tree) ls i (omega (arith, length_after ns l.tree)) ∙ tree_front ns l.tree i h

-- each rule's formula has as many formulas as there are nodes from the first of its own to its root
pub counted : List Node → ℕ → List Rule → Bool
counted nodes before [] = true
counted nodes before (r ∷ rs) = eqb (size (formula_at nodes r.root)) (r.root + 1 - before) && counted nodes (r.root + 1) rs

and_true : (a b : Bool) → a ≡ true → b ≡ true → (a && b) ≡ true
and_true a b p q = simp (p, q)

lines_counted : (nodes : List Node) (ns : List Entry) (ls : List Line) → map entry_of nodes ≡ lines_nodes ns ls → counted nodes (length ns) (lines_rules ns ls) ≡ true
unfolding counted
lines_counted nodes ns [] e = refl
lines_counted nodes ns (l ∷ ls) e =
    let root = length ns + inside l.tree in
    let next = nodes_after ns l.tree in
    let of-nodes : size (formula_at nodes root) ≡ get_or (sizes (lines_nodes next ls)) root 1 = sym (size_at (formulas nodes) root) ∙ ap (λ x. get_or x root 1) (all_sizes [] nodes ∙ ap sizes e) in
    let own : size (formula_at nodes root) ≡ inside l.tree + 1 = of-nodes ∙ lines_front next ls root (omega (arith, length_after ns l.tree)) ∙ tree_size ns l.tree in
    let long : length next ≡ root + 1 = omega (arith, length_after ns l.tree) in
    and_true _ _ (eq-eqb (size (formula_at nodes root)) (root + 1 - length ns) (own ∙ omega arith)) (subst (λ n. counted nodes n (lines_rules next ls) ≡ true) long (lines_counted nodes next ls e))

formed_counted : (nodes : List Node) (rs : List Rule) → Formed (map entry_of nodes) rs → counted nodes 0 rs ≡ true
formed_counted nodes rs f = ap (counted nodes 0) f.are_rules ∙ lines_counted nodes [] f.lines f.are_nodes

pub table_counted : (t : Table) → counted (nodes_of t) 0 (rules_of t) ≡ true
table_counted t = ∥∥₁_elim t.formed (Bool-set _ _) (formed_counted (nodes_of t) (rules_of t))

-- the next rule, and those after it
module _ (nodes : List Node) (before : ℕ) (rs : List Rule) (i : ℕ) (d r : Rule) (is : r ≡ get_or rs i d) (lt : i < length rs) (h : counted nodes before (drop i rs) ≡ true) where
  split : (eqb (size (formula_at nodes r.root)) (r.root + 1 - before) && counted nodes (r.root + 1) (drop (i + 1) rs)) ≡ true
  unfolding counted
  split = sym (at_drop_more (counted nodes before) rs i d lt ∙ ap (λ q. counted nodes before (q ∷ drop (i + 1) rs)) (sym is)) ∙ h

  pub next_size : r.root + 1 - before ≡ size (formula_at nodes r.root)
  next_size = sym (eqb-true _ _ (and_parts _ _ split).0)

  pub next_counted : counted nodes (r.root + 1) (drop (i + 1) rs) ≡ true
  next_counted = (and_parts (eqb (size (formula_at nodes r.root)) (r.root + 1 - before)) _ split).1
