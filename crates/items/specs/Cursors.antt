-- What is left of a text.
use Rattle.std.specs.Prelude.{List, [], ◌∷◌, Some, None, Option}
use Rattle.items.specs.declared.item.Item.{Item}
use Rattle.items.specs.declared.item.Place.{Place}
use Rattle.items.specs.declared.cursor.Cursor.{Cursor}
use Rattle.items.specs.Items.{runs, items_from, end_from}

-- the items left, and the place past the last of them
abbrev pub items_left : Cursor → List Item
items_left c = items_from c.place (runs c.rest.now)

abbrev pub end_left : Cursor → Place
end_left c = end_from c.place (runs c.rest.now)

abbrev pub first_item : List Item → Option Item
first_item [] = None
first_item (it ∷ more) = Some it

abbrev pub other_items : List Item → List Item
other_items [] = []
other_items (it ∷ more) = more

-- the place of the first item, or the one past the end
abbrev pub place_of : List Item → Place → Place
place_of [] p = p
place_of (it ∷ more) p = it.place
