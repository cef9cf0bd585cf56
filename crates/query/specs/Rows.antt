-- Rows of answers: one bit for each node.
use Rattle.std.specs.Prelude.{◌≡◌, ℕ, ◌+◌, ◌*◌, ◌<◌, false, cond, List, [], ◌∷◌, length, ◌≢◌, slice_index_or}
use Rattle.store.specs.declared.facts.Fact.{Fact}
use Rattle.syntax.specs.Rows.{bit_of}
use Rattle.syntax.specs.declared.Query.{Query}
use Rattle.syntax.specs.declared.Node.{Node}
use Rattle.syntax.specs.declared.Node.TheVariants as node
use Rattle.query.specs.Queries.{answer, node_answer}

-- the row whose bit m is what node m answers
abbrev pub row_of : List Node → List Fact → ℕ
row_of [] facts = 0
row_of (x ∷ xs) facts = cond (node_answer x facts) 1 0 + 2 * row_of xs facts

-- bit m is the answer of query node m, and every other bit is 0
pub record Answers (nodes : List Node) (facts : List Fact) (row : ℕ) : Type 0 where
  pub queries : (m : ℕ) (q : Query) → m < length nodes → slice_index_or nodes m node.True ≡ node.Query q → bit_of row m ≡ answer q facts
  pub others : (m : ℕ) → ((q : Query) → m < length nodes → slice_index_or nodes m node.True ≢ node.Query q) → bit_of row m ≡ false
