-- What the place of a fault means.
use Rattle.std.specs.Prelude.{◌≡◌, ℕ, ◌⊎◌, List, ◌∷◌, ◌++◌}
use Rattle.items.specs.declared.item.Item.{Item}
use Rattle.items.specs.Items.{items, end_of}
use Rattle.grammar.specs.declared.fault.ReadFault.{ReadFault}
use Rattle.grammar.specs.Reading.{stop}
use Rattle.grammar.specs.RoundTrip.{reading}

-- an item of the text stands at the place, and every text with the same items up to and with it is refused with the same fault
pub record Faulty (text : List ℕ) (f : ReadFault) : Type 0 where
  pub before : List Item
  pub item : Item
  pub after : List Item
  pub are : items text ≡ before ++ (item ∷ after)
  pub here : item.place ≡ f.place
  pub refused : (other : List ℕ) (more : List Item) → items other ≡ before ++ (item ∷ more) → reading other ≡ stop f

-- a fault stands at its item, or past the end
abbrev pub Placed : List ℕ → ReadFault → Type 0
Placed text f = (f.place ≡ end_of text) ⊎ Faulty text f
