-- The alterations of the open change are as many as its calls say.
use Rattle.std.proofs.Common.{◌≡◌, ℕ, ◌+◌, true, false, List, [], ◌∷◌, ◌++◌, length, Some, None, Ok, Err, sym, refl, ap, ◌∙◌, length-append}
use Rattle.std.proofs.lemmas.Bool.{both_ways}
use Rattle.session.specs.declared.alterations.Alteration.{Alteration}
use Rattle.session.specs.View as view
use Rattle.session.specs.View.{View, Event, Did}
use Rattle.session.specs.Book.{Run, rest, then, Past, counted, count_of}

abbrev Counted : View → ℕ → Type 0
Counted v n = v.changing ≡ true → length v.undo ≡ n

-- a call that left the session as u: with the same alterations, with one more, with no change open
same : (v u w : View) (n : ℕ) → w ≡ u → u.changing ≡ v.changing → u.undo ≡ v.undo → Counted v n → Counted w n
same v u w n e c s h opened =
    ap (λ (x : View). length x.undo) e ∙ ap length s ∙ h (sym c ∙ sym (ap (λ (x : View). x.changing) e) ∙ opened)

more : (v u w : View) (n : ℕ) (a : Alteration) → w ≡ u → u.changing ≡ v.changing → u.undo ≡ v.undo ++ (a ∷ []) → Counted v n → Counted w (n + 1)
more v u w n a e c s h opened =
    ap (λ (x : View). length x.undo) e ∙ ap length s ∙ length-append v.undo (a ∷ [])
    ∙ ap (λ (k : ℕ). k + 1) (h (sym c ∙ sym (ap (λ (x : View). x.changing) e) ∙ opened))

shut : (u w : View) (n : ℕ) → w ≡ u → u.changing ≡ false → Counted w n
shut u w n e c opened = absurd (both_ways _ (ap (λ (x : View). x.changing) e ∙ c) opened)

step : (v w : View) (e : Event) (n : ℕ) → Did v e w → Counted v n → Counted w (counted n e)
step v w (view.began (Ok s)) n d h = λ opened. ap (λ (x : View). length x.undo) d.after
step v w (view.began (Err x)) n d h = same v v w n d.after refl refl h
step v w (view.put s f (Ok true)) n d h = more v _ w n _ d.after refl refl h
step v w (view.put s f (Ok false)) n d h = same v _ w n d.after refl refl h
step v w (view.put s f (Err x)) n d h = same v v w n d.after refl refl h
step v w (view.dropped s f (Ok true)) n d h = more v _ w n _ d.after refl refl h
step v w (view.dropped s f (Ok false)) n d h = same v _ w n d.after refl refl h
step v w (view.dropped s f (Err x)) n d h = same v v w n d.after refl refl h
step v w (view.committed s t (Ok x)) n d h = shut _ w n d.after refl
step v w (view.committed s t (Err x)) n d h = same v v w n d.after refl refl h
step v w (view.withdrew s (Some k)) n d h = shut _ w n d.after refl
step v w (view.withdrew s None) n d h = same v v w n d.after refl refl h
step v w (view.ended (Ok x)) n d h = same v _ w n d.after refl refl h
step v w (view.ended (Err x)) n d h = same v v w n d.after refl refl h
step v w (view.asked rule i r) n d h = same v v w n d.after refl refl h

along : {v w : View} {es : List Event} (n : ℕ) → Run v es w → Counted v n → Counted w (count_of n es)
along n rest h = h
along n (then {v} {w} {x} {e} d r) h = along (counted n e) r (step v w e n d h)

-- whatever was called since the opening
pub how_altered : {v : View} (past : Past v) → v.changing ≡ true → length v.undo ≡ count_of 0 past.calls
how_altered past = along 0 past.run (λ opened. absurd (both_ways _ past.opening.shut opened))
