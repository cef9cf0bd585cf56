-- What the queries ask, in the words of sets.
use Rattle.std.specs.Prelude.{◌≡◌, ℕ, ◌≤◌, Bool, true, List, length, ℤ, ◌≤ℤ◌}
use Rattle.store.specs.declared.facts.Fact.{Fact}
use Rattle.store.specs.Facts.{fact_of, holds, of_relation}
use Rattle.syntax.specs.declared.Query.{Query}
use Rattle.syntax.specs.declared.Query.TheVariants as query

-- f is a fact of the relation r in the set
abbrev pub Has : List Fact → ℕ → Fact → Type 0
Has facts r f = (holds f facts ≡ true) × (f.relation ≡ r)

abbrev pub FromTo : ℤ → ℤ → ℤ → Type 0
FromTo low high value = (low ≤ℤ value) × (value ≤ℤ high)

abbrev pub Meant : Query → List Fact → Type 0
Meant (query.Some r low high) facts = (f : Fact) × (Has facts r f × FromTo low high f.value)
Meant (query.Every r low high) facts = (f : Fact) → Has facts r f → FromTo low high f.value
Meant (query.Fact r k v) facts = holds (fact_of r k v) facts ≡ true
Meant (query.Number r low high) facts = (low ≤ length (of_relation r facts)) × (length (of_relation r facts) ≤ high)
Meant (query.Refer r s) facts = (f : Fact) → Has facts r f → (g : Fact) × (Has facts s g × (g.key ≡ f.key))
Meant (query.Level r s) facts = (f g : Fact) → Has facts r f → Has facts s g → g.key ≡ f.key → f.value ≤ℤ g.value

-- the answer is true exactly if what is meant holds
pub record Says (answer : Bool) (P : Type 0) : Type 0 where
  pub sound : answer ≡ true → P
  pub complete : P → answer ≡ true
