-- The nodes of well-formed rules stand after their operands.
use Rattle.std.proofs.Common.{◌≡◌, ℕ, ◌+◌, ◌≤◌, max, true, ◌&&◌, ltb, List, map, get_or, subst, arith, ltb-true}
use Rattle.std.proofs.lemmas.List.{length-map, get_or-map}
use Rattle.std.proofs.lemmas.Bool.{and_parts}
use Rattle.syntax.specs.declared.Node.{Node}
use Rattle.syntax.specs.declared.Rule.{Rule}
use Rattle.syntax.specs.Nodes.{place, Ordered}
use Rattle.grammar.specs.Entries.{entry_of}
use Rattle.grammar.specs.Formed.{Formed}
use Rattle.grammar.specs.Ordered.{all_below}
use Rattle.grammar.proofs.OrderedNodes.{formed_ordered, below}
use Rattle.syntax.specs.declared.Node.TheVariants as node

-- a node whose operands are below a number can stand there
one_below : (a k : ℕ) → ltb a k && true ≡ true → a + 1 ≤ k
one_below a k h = let p = ltb-true a k (and_parts (ltb a k) true h).0 in omega arith

two_below : (a b k : ℕ) → ltb a k && (ltb b k && true) ≡ true → max a b + 1 ≤ k
two_below a b k h =
    let p = and_parts (ltb a k) (ltb b k && true) h in
    let q = ltb-true a k p.0 in
    let r = ltb-true b k (and_parts (ltb b k) true p.1).0 in
    omega arith

placed : (x : Node) (k : ℕ) → all_below k (entry_of x).operands ≡ true → place x ≤ k
placed node.True k h = omega arith
placed (node.Query q) k h = omega arith
placed (node.Not a) k h = one_below a k h
placed (node.And a b) k h = two_below a b k h
placed (node.Or a b) k h = two_below a b k h
placed (node.Implies a b) k h = two_below a b k h
placed (node.Next w a) k h = one_below a k h
placed (node.AllNext w a) k h = one_below a k h
placed (node.Sometime w a) k h = one_below a k h
placed (node.Always w a) k h = one_below a k h
placed (node.Until w a b) k h = two_below a b k h
placed (node.Previous w a) k h = one_below a k h
placed (node.Once w a) k h = one_below a k h
placed (node.SoFar w a) k h = one_below a k h
placed (node.Since w a b) k h = two_below a b k h

pub ordered : (xs : List Node) (rs : List Rule) → Formed (map entry_of xs) rs → Ordered xs
ordered xs rs h m lt =
    let all = below (map entry_of xs) m (entry_of node.True) (formed_ordered (map entry_of xs) rs h) (omega (arith, length-map xs entry_of)) in
    placed (get_or xs m node.True) m (subst (λ e. all_below m e.operands ≡ true) (get_or-map entry_of xs m node.True (entry_of node.True) lt) all)
