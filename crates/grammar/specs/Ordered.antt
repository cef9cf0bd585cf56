-- Operands stand before operators.
use Rattle.std.specs.Prelude.{ℕ, suc, Bool, true, ◌&&◌, List, [], ◌∷◌, nat_lt}
use Rattle.grammar.specs.Entries.{Entry}

abbrev pub all_below : ℕ → List ℕ → Bool
all_below k [] = true
all_below k (o ∷ os) = nat_lt o k && all_below k os

-- each node's operands have smaller numbers, where the first node has this number
abbrev pub ordered : ℕ → List Entry → Bool
ordered k [] = true
ordered k (e ∷ es) = all_below k e.operands && ordered (suc k) es
