-- Places in a rising list of facts, and the meaning of a store that keeps one.
use Rattle.std.specs.Prelude.{◌≡◌, ℕ, suc, ◌<◌, ◌≤◌, Bool, true, false, cond, ◌&&◌, List, [], ◌∷◌, length, Some, None, Option, ◌==◌}
use Rattle.std.specs.List.{slice_get, insert, remove}
use Rattle.store.specs.declared.facts.Fact.{Fact}
use Rattle.store.specs.Facts.{in_range, before, holds, with_fact, without_fact, first_from}
use Rattle.store.specs.Stores.{Meaning}

-- every fact in range is taken, and each place is room for one
abbrev pub list_meaning : List Fact → ℕ → Meaning
list_meaning facts places = record { facts = facts; takes = in_range; room = places }

abbrev pub all_in_range : List Fact → Bool
all_in_range [] = true
all_in_range (x ∷ xs) = in_range x && all_in_range xs

-- how many facts at the front come before f
abbrev pub position : Fact → List Fact → ℕ
position f [] = 0
position f (x ∷ xs) = cond (before x f) (suc (position f xs)) 0

-- what a walk from s answers if x is what stands at its place
abbrev pub of_start : Fact → Option Fact → Option Fact
of_start s None = None
of_start s (Some x) = cond (x.relation == s.relation) (Some x) None

-- i is the place of f, or where it would stand
pub record Place (f : Fact) (xs : List Fact) (i : ℕ) : Type 0 where
  pub is : i ≡ position f xs
  pub first : first_from f xs ≡ of_start f (slice_get xs i)

-- f stands at the place i of the list
pub record FoundAt (f : Fact) (xs : List Fact) (i : ℕ) : Type 0 where
  pub within : i < length xs
  pub held : holds f xs ≡ true
  pub stays : with_fact f xs ≡ xs
  pub out : without_fact f xs ≡ remove xs i

-- f is not in the list, and its place would be i
pub record AbsentAt (f : Fact) (xs : List Fact) (i : ℕ) : Type 0 where
  pub within : i ≤ length xs
  pub missing : holds f xs ≡ false
  pub stays : without_fact f xs ≡ xs
  pub into : with_fact f xs ≡ insert xs i f
