-- Records whose queries are answered by rows of bits.
use Rattle.std.specs.Prelude.{ℕ, Bool, cond, List, slice_index}
use Rattle.syntax.specs.Rows.{bit_of}
use Rattle.truth.specs.Kinds.{Kind}
use Rattle.eval.specs.Truth.{Record}
use Rattle.eval.specs.Stamps.{record_of}

module _ {K : Type 0} (k : Kind K) where
  -- a plain truth value in a kind
  abbrev pub truth_of : Bool → K
  truth_of b = cond b k.yes k.no

  -- the leaves that rows give: the bit of a state's row at the query node's number
  abbrev pub row_leaf : List ℕ → ℕ → ℕ → K
  row_leaf rows i m = truth_of (bit_of (slice_index rows i) m)

  abbrev pub row_record : List ℕ → List ℕ → K → Record K
  row_record stamps rows pending = record_of stamps (row_leaf rows) pending
