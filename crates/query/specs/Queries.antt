-- The six queries, on the set of facts of one state. A set stands as the list of its facts.
use Rattle.std.specs.Prelude.{Bool, false, not, ◌&&◌, ◌||◌, List, length, ◌==◌, int_le, nat_le}
use Rattle.std.specs.List.{list_any, list_all}
use Rattle.store.specs.declared.facts.Fact.{Fact}
use Rattle.store.specs.Facts.{fact_of, holds, of_relation, value_in}
use Rattle.syntax.specs.declared.Query.{Query}
use Rattle.syntax.specs.declared.Query.TheVariants as query
use Rattle.syntax.specs.declared.Node.{Node}
use Rattle.syntax.specs.declared.Node.TheVariants as node

-- some fact passes; every fact passes
abbrev pub any_of : (Fact → Bool) → List Fact → Bool
any_of p xs = list_any p xs

abbrev pub all_of : (Fact → Bool) → List Fact → Bool
all_of p xs = list_all p xs

abbrev pub same_key : Fact → Fact → Bool
same_key x y = y.key == x.key

abbrev pub at_most : Fact → Fact → Bool
at_most x y = int_le x.value y.value

-- the key of x is a key of ys
abbrev pub has_key_of : Fact → List Fact → Bool
has_key_of x ys = any_of (same_key x) ys

-- the value of x is at most every value of ys at the key of x
abbrev pub level_with : Fact → List Fact → Bool
level_with x ys = all_of (λ y. not (same_key x y) || at_most x y) ys

abbrev pub answer : Query → List Fact → Bool
answer (query.Some r low high) facts = any_of (value_in low high) (of_relation r facts)
answer (query.Every r low high) facts = all_of (value_in low high) (of_relation r facts)
answer (query.Fact r k v) facts = holds (fact_of r k v) facts
answer (query.Number r low high) facts = nat_le low (length (of_relation r facts)) && nat_le (length (of_relation r facts)) high
answer (query.Refer r s) facts = all_of (λ x. has_key_of x (of_relation s facts)) (of_relation r facts)
answer (query.Level r s) facts = all_of (λ x. level_with x (of_relation s facts)) (of_relation r facts)

-- what a node answers: a query node its query, every other node no
abbrev pub node_answer : Node → List Fact → Bool
node_answer (node.Query q) facts = answer q facts
node_answer node.True facts = false
node_answer (node.Not a) facts = false
node_answer (node.And a b) facts = false
node_answer (node.Or a b) facts = false
node_answer (node.Implies a b) facts = false
node_answer (node.Next w a) facts = false
node_answer (node.AllNext w a) facts = false
node_answer (node.Sometime w a) facts = false
node_answer (node.Always w a) facts = false
node_answer (node.Until w a b) facts = false
node_answer (node.Previous w a) facts = false
node_answer (node.Once w a) facts = false
node_answer (node.SoFar w a) facts = false
node_answer (node.Since w a b) facts = false
