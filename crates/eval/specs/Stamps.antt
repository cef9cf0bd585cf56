-- Stamps of states.
use Rattle.std.specs.Prelude.{ℕ, ◌-◌, Bool, true, ◌&&◌, List, [], ◌∷◌, nat_lt, slice_index}
use Rattle.truth.specs.Kinds.{Kind}
use Rattle.eval.specs.Truth.{Record}

-- each stamp is later than the one before
abbrev pub rising : List ℕ → Bool
rising [] = true
rising (x ∷ []) = true
rising (x ∷ (y ∷ rest)) = nat_lt x y && rising (y ∷ rest)

-- the distance from state i to state j, 0 if j comes first
abbrev pub span : List ℕ → ℕ → ℕ → ℕ
span stamps i j = slice_index stamps j - slice_index stamps i

-- a record as the temporal operators see it, which look at no query
abbrev pub timed : {K : Type 0} → Kind K → List ℕ → K → Record K
timed k stamps pending = record { stamps = stamps; leaf = λ i m. k.no; pending = pending }

-- a record from its parts
abbrev pub record_of : {K : Type 0} → List ℕ → (ℕ → ℕ → K) → K → Record K
record_of stamps leaf pending = record { stamps = stamps; leaf = leaf; pending = pending }
