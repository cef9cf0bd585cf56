-- What the loop over the slots of a form keeps.
use Rattle.std.proofs.Common.{◌≡◌, ℕ, ◌+◌, ◌<◌, ◌≤◌, List, [], ◌∷◌, ◌++◌, map, length, get_or, drop, ℤ, pos, sym, refl, ap, subst, ◌∙◌, append_assoc, append-nil, add-one, arith, length-append, drop_of_length-le, drop-cons}
use Rattle.items.specs.declared.item.Item.{Item}
use Rattle.items.specs.declared.item.Kind.TheVariants.{Space}
use Rattle.items.specs.Items.{item_number}
use Rattle.grammar.specs.declared.fault.ReadFault.{ReadFault}
use Rattle.grammar.specs.declared.shape.Slot.{Slot}
use Rattle.grammar.specs.declared.shape.Slot.TheVariants.{Range}
use Rattle.grammar.specs.Entries.{Arg}
use Rattle.grammar.specs.Reading.{State, Outcome, done, stop, then, next, is, arg, argument, arguments}
use Rattle.grammar.proofs.Inversion.{both}
use Rattle.rules.specs.Fitting.{Fitting}
use Rattle.rules.specs.Reads.{args_from}
use Rattle.rules.proofs.Fits.{fitting}

abbrev behind : List Arg → Outcome (List Arg) → Outcome (List Arg)
behind xs o = then o (λ ys s. done (xs ++ ys) s)

abbrev pub no_slot : Slot
no_slot = Range (pos 0) (pos 0)

-- the arguments for the first i slots were read, and this state and number stand before the others
pub record Sofar (all : List Slot) (s : State) (i : ℕ) (before : ℤ) (xs : List Arg) (t : State) : Type 0 where
  pub count : length xs ≡ i
  pub whole : args_from all (pos 0) s ≡ behind xs (args_from (drop i all) before t)

behind_one : (xs : List Arg) (it : Item) (o : Outcome (List Item)) → behind xs (then (then o (λ its w. done (it ∷ its) w)) (λ its w. done (map arg its) w)) ≡ behind (xs ++ arg it ∷ []) (then o (λ its w. done (map arg its) w))
behind_one xs it (done ys s) = ap (λ l. done l s) (sym (append_assoc xs (arg it ∷ []) (map arg ys)))
behind_one xs it (stop e) = refl

module _ (all : List Slot) (s : State) (i : ℕ) (before : ℤ) (xs : List Arg) (t : State) (h : Sofar all s i before xs t) (d : Slot) (lt : i < length all) where
  front : drop i all ≡ get_or all i d ∷ drop (i + 1) all
  front = rw add-one (drop-cons all i d lt)

  pub space_stops : (e : ReadFault) → next (is Space) t ≡ stop e → args_from all (pos 0) s ≡ stop e
  space_stops e p = h.whole ∙ rw (front, p)

  module _ (u : State) (spaced : next (is Space) t ≡ done tt u) where
    pub more : (it : Item) (v : State) → next (argument (get_or all i d) before) u ≡ done it v → Sofar all s (i + 1) (item_number it) (xs ++ arg it ∷ []) v
    more it v e =
        let step : args_from (drop i all) before t ≡ then (then (arguments (drop (i + 1) all) (item_number it) v) (λ its w. done (it ∷ its) w)) (λ its w. done (map arg its) w) = rw (front, spaced, e) in
        record {
          count = simp length-append (omega (arith, h.count));
          whole = h.whole ∙ ap (behind xs) step ∙ behind_one xs it (arguments (drop (i + 1) all) (item_number it) v);
        }

pub all_read : (all : List Slot) (s : State) (i : ℕ) (before : ℤ) (xs : List Arg) (t : State) → Sofar all s i before xs t → length all ≤ i → args_from all (pos 0) s ≡ done xs t
all_read all s i before xs t h le =
    let none : drop i all ≡ [] = drop_of_length-le all le in
    h.whole ∙ rw none (ap (λ l. done l t) (append-nil xs))

-- arguments that were read fit
args_same : (all : List Slot) (xs ys : List Arg) (s t : State) → done xs s ≡ done ys t → Fitting all xs → Fitting all ys
args_same all xs ys s t e h = let p : xs ≡ ys = cc in subst (Fitting all) p h

pub args_fit : (all : List Slot) (s : State) (xs : List Arg) (t : State) → args_from all (pos 0) s ≡ done xs t → Fitting all xs
args_fit all s xs t h =
    let a = both (arguments all (pos 0) s) _ xs t h in
    args_same all (map arg a.value) xs a.state t a.then_done (fitting all (pos 0) s a.value a.state a.first)
