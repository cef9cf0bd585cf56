-- The values of one node at each state, where the values of all nodes are kept state by state.
use Rattle.std.specs.Prelude.{ℕ, ◌+◌, ◌*◌, List, slice_index_or}
use Rattle.truth.specs.Kinds.{Kind}

-- the value of a node at a state, among the values of all nodes at all states
abbrev pub value_at : {K : Type 0} → Kind K → List K → ℕ → ℕ → ℕ → K
value_at k values nodes m i = slice_index_or values (i * nodes + m) k.no
