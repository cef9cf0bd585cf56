-- What is evaluated, and where the values are put.
use Rattle.std.specs.Prelude.{◌≡◌, ℕ, ◌*◌, ◌<◌, List, length, slice_index_or}
use Rattle.truth.specs.Kinds.{Kind}
use Rattle.syntax.specs.declared.Node.TheVariants.{True}
use Rattle.eval.specs.Columns.{value_at}
use Rattle.eval.specs.Steps.{kept_of}
use Rattle.eval.specs.declared.evaluation.Evaluation.{Evaluation}
use Rattle.eval.specs.Stamps.{record_of}
use Rattle.eval.specs.Truth.{Record}

-- the record, where queries have the values that `leaf` gives
abbrev pub record_in : {K L S : Type 0} → (L → ℕ → ℕ → K) → Evaluation K L S → Record K
record_in leaf e = record_of e.stamps.now (leaf e.leaves.now) e.pending

-- there are the node and the state
abbrev pub Has : {K L S : Type 0} → Evaluation K L S → ℕ → ℕ → Type 0
Has e m i = (m < length e.nodes.now) × (i < length e.stamps.now)

-- what an until keeps from state i on, if node m is one
abbrev pub kept_in : {K L S : Type 0} → Kind K → Evaluation K L S → List K → ℕ → ℕ → K
kept_in k e values m i = kept_of k (value_at k values (length e.nodes.now)) (length e.stamps.now) i (slice_index_or e.nodes.now m True)

-- there is a place for each node at each state
abbrev pub Fits : {K L S : Type 0} → Evaluation K L S → List K → Type 0
Fits e values = length values ≡ length e.stamps.now * length e.nodes.now
