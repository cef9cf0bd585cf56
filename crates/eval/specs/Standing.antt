-- Values that stand in their places from before.
use Rattle.std.specs.Prelude.{◌≡◌, ℕ, ◌<◌, Bool, true, false, ◌&&◌, ◌||◌, List, length, nat_lt}
use Rattle.truth.specs.Kinds.{Kind}
use Rattle.truth.specs.Kleene.{three}
use Rattle.truth.specs.declared.Three.{Three}
use Rattle.truth.specs.declared.Three.TheVariants.{True, False, Undecided}
use Rattle.syntax.specs.declared.Node.{Node}
use Rattle.syntax.specs.Nodes.{formula_at}
use Rattle.eval.specs.Columns.{value_at}
use Rattle.eval.specs.Truth.{Record, count, value}

abbrev pub decided : Three → Bool
decided True = true
decided False = true
decided Undecided = false

-- true and false stand at the first n states
abbrev pub stays_decided : ℕ → ℕ → Three → Bool
stays_decided n i x = nat_lt i n && decided x

-- every value stands before the state `from`, and the others as `stays` tells
abbrev pub stood : {K : Type 0} → ℕ → (ℕ → K → Bool) → ℕ → K → Bool
stood from stays i x = nat_lt i from || stays i x

-- no value at the first n states is undecided
abbrev pub Settled : List Node → List Three → ℕ → Type 0
Settled nodes values n = (a i : ℕ) → a < length nodes → i < n → decided (value_at three values (length nodes) a i) ≡ true

-- each value that stands, as `stays` tells, is that of its node's formula
abbrev pub Right : {K : Type 0} → Kind K → Record K → List Node → List K → (ℕ → K → Bool) → Type 0
Right k r nodes values stays =
    (a i : ℕ) → a < length nodes → i < count r → stays i (value_at k values (length nodes) a i) ≡ true
    → value_at k values (length nodes) a i ≡ value k r (formula_at nodes a) i
