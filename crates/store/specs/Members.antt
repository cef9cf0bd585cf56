-- What a store's calls do, in the words of sets.
use Rattle.std.specs.Prelude.{◌≡◌, ◌+◌, Bool, true, false, ◌⊎◌, List, [], ◌∷◌, length, Some, None, Ok, Err, Option, Result, ◌≢◌}
use Rattle.store.specs.declared.facts.Fact.{Fact}
use Rattle.store.specs.declared.stores.StoreFault.{StoreFault}
use Rattle.store.specs.declared.stores.StoreFault.TheVariants.{NotTaken, Full}
use Rattle.store.specs.Facts.{before, rising, at_or_after}
use Rattle.store.specs.Stores.{Meaning, answer_number}

infix 30 ◌∈◌
infix 10 ◌⇔◌
-- f is one of the facts
abbrev pub ◌∈◌ : Fact → List Fact → Type 0
f ∈ [] = ⊥
f ∈ (x ∷ xs) = (f ≡ x) ⊎ (f ∈ xs)

abbrev pub ◌⇔◌ : Type 0 → Type 0 → Type 0
P ⇔ Q = (P → Q) × (Q → P)

-- xs is the set of the facts with the property P, and its only form: no other rising list has the same members
pub record SetOf (P : Fact → Type 0) (xs : List Fact) : Type 0 where
  pub rises : rising xs ≡ true
  pub members : (g : Fact) → (g ∈ xs) ⇔ P g
  pub only : (ys : List Fact) → rising ys ≡ true → ((g : Fact) → (g ∈ ys) ⇔ P g) → ys ≡ xs

-- what never changes
pub record SameStore (m n : Meaning) : Type 0 where
  pub takes : n.takes ≡ m.takes
  pub room : n.room ≡ m.room

-- a put of f answered r, and the store went from m to n
abbrev pub PutDid : Fact → Meaning → Meaning → Result Bool StoreFault → Type 0
PutDid f m n (Ok new) =
    (m.takes f ≡ true) × ((new ≡ true) ⇔ (f ∈ m.facts → ⊥)) × SetOf (λ g. (g ≡ f) ⊎ (g ∈ m.facts)) n.facts
    × (length n.facts ≡ length m.facts + answer_number new)
PutDid f m n (Err NotTaken) = (m.takes f ≡ false) × (n.facts ≡ m.facts)
PutDid f m n (Err Full) =
    (m.takes f ≡ true) × (f ∈ m.facts → ⊥) × (length m.facts ≡ m.room) × (n.facts ≡ m.facts)

-- the cases of PutDid exclude each other, so they also say when each answer comes
pub record PutResult (f : Fact) (m n : Meaning) (r : Result Bool StoreFault) : Type 0 where
  pub did : PutDid f m n r
  pub same_store : SameStore m n

-- a drop of f answered r, and the store went from m to n
pub record DropResult (f : Fact) (m n : Meaning) (r : Bool) : Type 0 where
  pub present : (r ≡ true) ⇔ (f ∈ m.facts)
  pub set : SetOf (λ g. (g ≢ f) × (g ∈ m.facts)) n.facts
  pub counted : length n.facts + answer_number r ≡ length m.facts
  pub same_store : SameStore m n

-- a walk from the start met r: of the facts of its relation that are at or after it, the one that no other is before
abbrev pub WalkResult : Fact → List Fact → Option Fact → Type 0
WalkResult start xs None = (g : Fact) → g ∈ xs → at_or_after start g ≡ false
WalkResult start xs (Some x) =
    (x ∈ xs) × (at_or_after start x ≡ true) × ((g : Fact) → g ∈ xs → at_or_after start g ≡ true → before g x ≡ false)
