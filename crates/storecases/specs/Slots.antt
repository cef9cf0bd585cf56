-- A store with one place: what it means.
use Rattle.std.specs.Prelude.{Bool, true, List, [], ◌∷◌, Some, None, Option}
use Rattle.store.specs.declared.facts.Fact.{Fact}
use Rattle.store.specs.Facts.{in_range}
use Rattle.store.specs.Stores.{Meaning}

abbrev pub slot_facts : Option Fact → List Fact
slot_facts None = []
slot_facts (Some f) = f ∷ []

abbrev pub slot_meaning : Option Fact → Meaning
slot_meaning held = record { facts = slot_facts held; takes = in_range; room = 1 }

abbrev pub slot_ranged : Option Fact → Bool
slot_ranged None = true
slot_ranged (Some f) = in_range f
