-- What well-formed rules make true of their nodes and rules.
use Rattle.std.proofs.Common.{◌≡◌, ℕ, zero, suc, ◌+◌, ◌<◌, ◌≤◌, true, cond, eqb, ltb, List, [], ◌∷◌, ◌++◌, length, pos, sym, refl, ap, subst, arith, le-ltb, lt-ltb, le-leb}
use Rattle.std.proofs.lemmas.Bool.{and_parts, and_from}
use Rattle.std.proofs.lemmas.Bool.Decides.{nat_tests}
use Rattle.syntax.specs.declared.Rule.{Rule}
use Rattle.syntax.specs.Nodes.{rooted}
use Rattle.grammar.specs.Entries.{Entry, entry}
use Rattle.grammar.specs.Grammar.{slots}
use Rattle.grammar.specs.Trees.{Tree, leaf, unary, binary, inside, nodes_after, args_fit, Well}
use Rattle.grammar.specs.Files.{Line, lines_nodes, lines_rules, formulas, WellLines}
use Rattle.grammar.specs.Formed.{Formed}
use Rattle.grammar.specs.Invariants.{times, all_operands, all_roots, UsedOnce, in_bounds, rising}
use Rattle.grammar.proofs.Inversion.{length_after}

-- as many nodes as formulas
count : (ns : List Entry) (ls : List Line) → length (lines_nodes ns ls) ≡ length ns + formulas ls
count ns [] = omega arith
count ns (l ∷ ls) = omega (arith, count (nodes_after ns l.tree) ls, length_after ns l.tree)

-- at most as many rules as there may be lines
lines_count : (k least : ℕ) (ns : List Entry) (ls : List Line) → WellLines k least ls → length (lines_rules ns ls) ≤ k
lines_count k least ns [] w = omega arith
lines_count zero least ns (l ∷ ls) w = absurd w
lines_count (suc k) least ns (l ∷ ls) w = omega (arith, lines_count k (l.number + 1) (nodes_after ns l.tree) ls w.2)

lines_roots : (ns : List Entry) (ls : List Line) → rooted (length (lines_nodes ns ls)) (lines_rules ns ls) ≡ true
lines_roots ns [] = refl
lines_roots ns (l ∷ ls) =
    let all = lines_nodes (nodes_after ns l.tree) ls in
    let n = count (nodes_after ns l.tree) ls in
    and_from _ _ (lt-ltb (length ns + inside l.tree) (length all) (omega (arith, n, length_after ns l.tree))) (lines_roots (nodes_after ns l.tree) ls)

-- numbers in range
bounds_more : (ns : List Entry) (e : Entry) → in_bounds ns ≡ true → args_fit (slots e.word) (pos 0) e.args ≡ true → in_bounds (ns ++ (e ∷ [])) ≡ true
bounds_more [] e h f = and_from _ _ f refl
bounds_more (x ∷ ns) e h f =
    let p = and_parts (args_fit (slots x.word) (pos 0) x.args) (in_bounds ns) h in
    and_from _ _ p.0 (bounds_more ns e p.1 f)

tree_bounds : (levels : ℕ) (ns : List Entry) (tree : Tree) → Well levels tree → in_bounds ns ≡ true → in_bounds (nodes_after ns tree) ≡ true
tree_bounds zero ns tree w h = absurd w
tree_bounds (suc l) ns (leaf f xs) w h = bounds_more ns _ h w.1
tree_bounds (suc l) ns (unary f xs a) w h = bounds_more (nodes_after ns a) _ (tree_bounds l ns a w.1 h) w.0.1
tree_bounds (suc l) ns (binary f xs a b) w h = bounds_more (nodes_after (nodes_after ns a) b) _ (tree_bounds l (nodes_after ns a) b w.2 (tree_bounds l ns a w.1 h)) w.0.1

lines_bounds : (k least : ℕ) (ns : List Entry) (ls : List Line) → WellLines k least ls → in_bounds ns ≡ true → in_bounds (lines_nodes ns ls) ≡ true
lines_bounds k least ns [] w h = h
lines_bounds zero least ns (l ∷ ls) w h = absurd w
lines_bounds (suc k) least ns (l ∷ ls) w h = lines_bounds k (l.number + 1) (nodes_after ns l.tree) ls w.2 (tree_bounds 12 ns l.tree w.1 h)

-- rising numbers
lines_rising : (k least : ℕ) (ns : List Entry) (ls : List Line) → WellLines k least ls → rising least (lines_rules ns ls) ≡ true
lines_rising k least ns [] w = refl
lines_rising zero least ns (l ∷ ls) w = absurd w
lines_rising (suc k) least ns (l ∷ ls) w = and_from _ _ (le-leb least l.number w.0.2) (and_from _ _ (le-leb l.number 99 w.0.1) (lines_rising k (l.number + 1) (nodes_after ns l.tree) ls w.2))

-- every node once: all numbers below a bound stand once among the operands and roots below it
abbrev is_below : ℕ → ℕ → ℕ
is_below m k = cond (ltb m k) 1 0

one_more : (m k : ℕ) → cond (eqb k m) 1 0 + is_below m k ≡ is_below m (k + 1)
one_more m k = grind (arith, nat_tests)

times_append : (m : ℕ) (xs ys : List ℕ) → times m (xs ++ ys) ≡ times m xs + times m ys
times_append m [] ys = omega arith
times_append m (x ∷ xs) ys = omega (arith, times_append m xs ys)

times_more : (m : ℕ) (ns : List Entry) (e : Entry) → times m (all_operands (ns ++ (e ∷ []))) ≡ times m (all_operands ns) + times m e.operands
times_more m [] e = omega (arith, times_append m e.operands [])
times_more m (x ∷ ns) e = omega (arith, times_append m x.operands (all_operands (ns ++ (e ∷ []))), times_append m x.operands (all_operands ns), times_more m ns e)

tree_uses : (m : ℕ) (ns : List Entry) (tree : Tree) → times m (all_operands (nodes_after ns tree)) + is_below m (length ns) ≡ times m (all_operands ns) + is_below m (length ns + inside tree)
tree_uses m ns (leaf f xs) =
    let z : length ns ≡ length ns + 0 = omega arith in
    omega (arith, times_more m ns (entry f xs []), ap (is_below m) z)
tree_uses m ns (unary f xs a) =
    let k = length ns + inside a in
    let z : k + 1 ≡ length ns + (inside a + 1) = omega arith in
    omega (arith, times_more m (nodes_after ns a) (entry f xs (k ∷ [])), tree_uses m ns a, one_more m k, ap (is_below m) z)
tree_uses m ns (binary f xs a b) =
    let j = length ns + inside a in
    let k = length (nodes_after ns a) + inside b in
    let y : j + 1 ≡ length (nodes_after ns a) = omega (arith, length_after ns a) in
    let z : k + 1 ≡ length ns + (inside a + 1 + (inside b + 1)) = omega (arith, length_after ns a) in
    omega (arith, times_more m (nodes_after (nodes_after ns a) b) (entry f xs (j ∷ k ∷ [])), tree_uses m ns a, tree_uses m (nodes_after ns a) b, one_more m j, one_more m k, ap (is_below m) y, ap (is_below m) z)

lines_uses : (m : ℕ) (ns : List Entry) (ls : List Line) → times m (all_operands (lines_nodes ns ls)) + times m (all_roots (lines_rules ns ls)) + is_below m (length ns) ≡ times m (all_operands ns) + is_below m (length ns + formulas ls)
lines_uses m ns [] =
    let z : length ns ≡ length ns + 0 = omega arith in
    omega (arith, ap (is_below m) z)
lines_uses m ns (l ∷ ls) =
    let k = length ns + inside l.tree in
    let y : k + 1 ≡ length (nodes_after ns l.tree) = omega (arith, length_after ns l.tree) in
    let z : length (nodes_after ns l.tree) + formulas ls ≡ length ns + (inside l.tree + 1 + formulas ls) = omega (arith, length_after ns l.tree) in
    omega (arith, lines_uses m (nodes_after ns l.tree) ls, tree_uses m ns l.tree, one_more m k, ap (is_below m) y, ap (is_below m) z)

lines_once : (ls : List Line) (m : ℕ) → m < length (lines_nodes [] ls) → times m (all_operands (lines_nodes [] ls)) + times m (all_roots (lines_rules [] ls)) ≡ 1
lines_once ls m lt =
    let z : length (lines_nodes [] ls) ≡ 0 + formulas ls = count [] ls in
    let none : is_below m 0 ≡ 0 = rw (le-ltb m 0 (omega arith)) refl in
    let full : is_below m (0 + formulas ls) ≡ 1 = rw (lt-ltb m (0 + formulas ls) (omega (arith, z))) refl in
    omega (arith, lines_uses m [] ls, none, full)

module _ (ns : List Entry) (rs : List Rule) (h : Formed ns rs) where
  pub few : length ns ≤ 64
  few = omega (arith, ap length h.are_nodes, count [] h.lines, h.few)

  pub short : length rs ≤ 16
  short = subst (λ x. length x ≤ 16) (sym h.are_rules) (lines_count 16 1 [] h.lines h.well)

  pub roots : rooted (length ns) rs ≡ true
  roots = subst (λ x. rooted (length x) rs ≡ true) (sym h.are_nodes) (subst (λ x. rooted (length (lines_nodes [] h.lines)) x ≡ true) (sym h.are_rules) (lines_roots [] h.lines))

  pub once : UsedOnce ns rs
  once = subst (λ x. UsedOnce x rs) (sym h.are_nodes) (subst (UsedOnce (lines_nodes [] h.lines)) (sym h.are_rules) (lines_once h.lines))

  pub bounds : in_bounds ns ≡ true
  bounds = subst (λ x. in_bounds x ≡ true) (sym h.are_nodes) (lines_bounds 16 1 [] h.lines h.well refl)

  pub risen : rising 1 rs ≡ true
  risen = subst (λ x. rising 1 x ≡ true) (sym h.are_rules) (lines_rising 16 1 [] h.lines h.well)

-- no rules
pub none_formed : Formed [] []
none_formed = record { lines = []; well = tt; few = omega arith; are_nodes = refl; are_rules = refl }
