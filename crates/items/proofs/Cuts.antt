-- The item at the front of what is left, and the rest.
use Rattle.std.proofs.Common.{◌≡◌, ℕ, ◌<◌, Bool, true, false, cond, eqb, List, [], ◌∷◌, length, sym, refl, ◌∙◌, arith, ne_eqb}
use Rattle.items.specs.declared.item.Place.{Place}
use Rattle.items.specs.Items.{runs, before, joins, items_from, end_from}
use Rattle.items.specs.Cursors.{place_of}

-- what is left begins at its place
pub begins : (p : Place) (rs : List (List ℕ)) → p ≡ place_of (items_from p rs) (end_from p rs)
begins p [] = refl
begins p (run ∷ rs) = refl

-- an item is left as long as a byte is
some_before : (b : ℕ) (rs : List (List ℕ)) (p : Place) → 0 < length (items_from p (before b rs))
some_before b [] p = omega arith
some_before b ([] ∷ rs) p = omega arith
some_before b ((c ∷ cs) ∷ rs) p = some-by (joins b c)
  where
    some-by : (t : Bool) → 0 < length (items_from p (cond t ((b ∷ c ∷ cs) ∷ rs) ((b ∷ []) ∷ (c ∷ cs) ∷ rs)))
    some-by true = omega arith
    some-by false = omega arith

pub none_left : (p : Place) (text : List ℕ) → eqb (length text) 0 ≡ eqb (length (items_from p (runs text))) 0
none_left p [] = refl
none_left p (b ∷ bs) =
    let some = some_before b (runs bs) p in
    ne_eqb (length (b ∷ bs)) 0 (λ e. omega arith) ∙ sym (ne_eqb (length (items_from p (runs (b ∷ bs)))) 0 (λ e. omega (arith, some)))
