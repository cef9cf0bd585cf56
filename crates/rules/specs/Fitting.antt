-- Arguments that fit the slots of a form.
use Rattle.std.specs.Prelude.{List, [], ◌∷◌, ℤ, Some, None, ◌≤ℤ◌}
use Rattle.grammar.specs.declared.shape.Slot.{Slot}
use Rattle.grammar.specs.declared.shape.Slot.TheVariants.{Range, Upper, UpperOrEnd}
use Rattle.grammar.specs.Entries.{Arg}

-- a number in the range
pub record Numeral (low high z : ℤ) : Type 0 where
  pub above : low ≤ℤ z
  pub below : z ≤ℤ high

abbrev pub FitsSlot : Slot → Arg → Type 0
FitsSlot (Range low high) (Some z) = Numeral low high z
FitsSlot (Range low high) None = ⊥
FitsSlot (Upper low high) (Some z) = Numeral low high z
FitsSlot (Upper low high) None = ⊥
FitsSlot (UpperOrEnd low high) (Some z) = Numeral low high z
FitsSlot (UpperOrEnd low high) None = Unit {0}

-- an argument for each slot
abbrev pub Fitting : List Slot → List Arg → Type 0
Fitting [] [] = Unit {0}
Fitting [] (x ∷ xs) = ⊥
Fitting (slot ∷ more) [] = ⊥
Fitting (slot ∷ more) (x ∷ xs) = FitsSlot slot x × Fitting more xs
