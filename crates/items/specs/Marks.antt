-- Items that are one byte, by which they are known.
use Rattle.std.specs.Prelude.{◌≡◌, ℕ, Bool, true, false, not, ◌||◌, List, [], ◌∷◌}
use Rattle.items.specs.declared.item.Item.{Item}
use Rattle.items.specs.declared.item.Kind.{Kind}
use Rattle.items.specs.declared.item.Place.{Place}
use Rattle.items.specs.Items.{class_of, is_letter, is_digit}
use Rattle.items.specs.Cursors.{place_of}

-- a byte that joins no other
abbrev pub stands_alone : ℕ → Bool
stands_alone b = not (is_letter (class_of b) || is_digit (class_of b))

-- a text does not begin with the byte
abbrev pub StartsOtherwise : ℕ → List ℕ → Type 0
StartsOtherwise b [] = Unit {0}
StartsOtherwise b (c ∷ cs) = c ≡ b → ⊥

-- no item of this kind comes first
abbrev pub BeginsOtherwise : Kind → List Item → Type 0
BeginsOtherwise k [] = Unit {0}
BeginsOtherwise k (it ∷ more) = it.kind ≡ k → ⊥

-- the first of the items, which end at a place, is of the kind and is taken, or it is not and all of them are left
abbrev pub TakesIf : Kind → List Item → Place → Bool → List Item → Type 0
TakesIf k items end true others = items ≡ record { kind = k; place = place_of items end } ∷ others
TakesIf k items end false others = BeginsOtherwise k items × (others ≡ items)
