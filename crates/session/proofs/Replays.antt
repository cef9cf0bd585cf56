-- Alterations taken back one by one.
use Rattle.std.proofs.Common.{◌≡◌, List, [], ◌∷◌, ◌++◌, sym, refl, ap, ◌∙◌}
use Rattle.store.specs.Stores.{Meaning}
use Rattle.session.specs.declared.alterations.Alteration.{Alteration}
use Rattle.session.specs.View.{View, undone, replay, with_store, with_change}
use Rattle.session.specs.Steps.{restored}

pub replay_snoc : (steps : List Alteration) (a : Alteration) (m : Meaning) → replay (steps ++ (a ∷ [])) m ≡ replay steps (undone a m)
replay_snoc [] a m = refl
replay_snoc (b ∷ steps) a m = ap (undone b) (replay_snoc steps a m)

pub back_one :
    (v : View) (m : Meaning) (u : List Alteration) (a : Alteration) → v.undo ≡ u ++ (a ∷ []) → m ≡ undone a v.store
    → restored (with_change v.begins v.changing u (with_store m v)) ≡ restored v
back_one v m u a last stored =
    ap (λ (n : Meaning). with_change v.begins v.changing [] (with_store n v))
    (ap (replay u) stored ∙ sym (replay_snoc u a v.store) ∙ ap (λ (s : List Alteration). replay s v.store) (sym last))
