-- What a put or a drop leaves of a store, and what takes it back.
use Rattle.std.proofs.Common.{◌≡◌, ◌≤◌, Bool, true, false, not, ◌&&◌, ◌||◌, eqb, List, [], ◌∷◌, length, is_ok, Ok, sym, refl, ap, ◌∙◌, subst, ⊎_elim, arith}
use Rattle.std.proofs.lemmas.Bool.{cases_Bool, cond-true, cond-false, and_parts, ne_eqb}
use Rattle.std.proofs.lemmas.Bool.Decides.{nat_tests}
use Rattle.store.specs.declared.facts.Fact.{Fact}
use Rattle.store.specs.Facts.{same, rising, holds, with_fact, without_fact}
use Rattle.store.specs.Stores.{Meaning, Lawful, put_answer, after_put, after_drop}
use Rattle.store.proofs.Order.{same_refl, same_eq}
use Rattle.store.proofs.Members.{same_members, holds_with, holds_without}
use Rattle.store.proofs.Sets.{with_present, without_absent, rising_with, rising_without, length_with_absent, length_without_present}
use Rattle.session.specs.declared.alterations.Alteration.{Alteration}
use Rattle.session.specs.declared.alterations.Alteration.TheVariants.{Added, Removed}
use Rattle.session.specs.View.{undone, replay}

-- ---- sets of facts

same_fact : (f g : Fact) (s : List Fact) → same g f ≡ true → holds g s ≡ holds f s
same_fact f g s e = ap (λ (x : Fact). holds x s) (same_eq g f e)

-- what was absent, put in and taken out again
pub without_with : (f : Fact) (s : List Fact) → rising s ≡ true → holds f s ≡ false → without_fact f (with_fact f s) ≡ s
without_with f s r h =
    same_members (without_fact f (with_fact f s)) s (rising_without f (with_fact f s) (rising_with f s r)) r
    (λ g. holds_without g f (with_fact f s) ∙ ap (λ (b : Bool). not (same g f) && b) (holds_with g f s) ∙ out g (same g f) refl)
  where
    out : (g : Fact) (b : Bool) → same g f ≡ b → (not b && (b || holds g s)) ≡ holds g s
    out g true e = sym (same_fact f g s e ∙ h)
    out g false e = refl

-- what was present, taken out and put in again
pub with_without : (f : Fact) (s : List Fact) → rising s ≡ true → holds f s ≡ true → with_fact f (without_fact f s) ≡ s
with_without f s r h =
    same_members (with_fact f (without_fact f s)) s (rising_with f (without_fact f s) (rising_without f s r)) r
    (λ g. holds_with g f (without_fact f s) ∙ ap (λ (b : Bool). same g f || b) (holds_without g f s) ∙ back g (same g f) refl)
  where
    back : (g : Fact) (b : Bool) → same g f ≡ b → (b || (not b && holds g s)) ≡ holds g s
    back g true e = sym (same_fact f g s e ∙ h)
    back g false e = refl

gone : (f : Fact) (s : List Fact) → holds f (without_fact f s) ≡ false
gone f s = holds_without f f s ∙ ap (λ (b : Bool). not b && holds f s) (same_refl f)

-- ---- stores

abbrev pub holding : List Fact → Meaning → Meaning
holding fs m = record { facts = fs; takes = m.takes; room = m.room }

put_takes : (f : Fact) (m : Meaning) → is_ok (put_answer f m) ≡ true → m.takes f ≡ true
put_takes f m e = grind (arith, nat_tests)

put_room : (f : Fact) (m : Meaning) → is_ok (put_answer f m) ≡ true → holds f m.facts ≡ false → eqb (length m.facts) m.room ≡ false
put_room f m e h = grind (arith, nat_tests)

pub put_new : (f : Fact) (m : Meaning) (b : Bool) → put_answer f m ≡ Ok b → holds f m.facts ≡ not b
put_new f m b e = grind (arith, nat_tests)

pub put_ok : (f : Fact) (m : Meaning) (b : Bool) → put_answer f m ≡ Ok b → after_put f m ≡ holding (with_fact f m.facts) m
put_ok f m b e = ap (λ (u : List Fact). holding u m) (cond-true (is_ok (put_answer f m)) _ _ (ap is_ok e))

lawful_with : (f : Fact) (m : Meaning) → is_ok (put_answer f m) ≡ true → Lawful m → Lawful (holding (with_fact f m.facts) m)
lawful_with f m e s = record {
  rises = rising_with f m.facts s.rises;
  taken = λ g h.
      ⊎_elim (λ q. ap m.takes (same_eq g f q) ∙ put_takes f m e)
      (λ q. s.taken g (sym (holds_with g f m.facts ∙ ap (λ (b : Bool). b || holds g m.facts) q) ∙ h))
      (cases_Bool (same g f));
  ranged = s.ranged;
  fits =
      ⊎_elim (λ h. subst (λ (u : List Fact). length u ≤ m.room) (sym (with_present f m.facts s.rises h)) s.fits)
      (λ h. let room = put_room f m e h in let long = length_with_absent f m.facts h in grind (arith, nat_tests, s.fits))
      (cases_Bool (holds f m.facts));
  small = s.small;
}

pub sound_put : (f : Fact) (m : Meaning) → Lawful m → Lawful (after_put f m)
sound_put f m s =
    ⊎_elim (λ e. subst (λ (u : List Fact). Lawful (holding u m)) (sym (cond-true (is_ok (put_answer f m)) (with_fact f m.facts) m.facts e)) (lawful_with f m e s))
    (λ e. subst (λ (u : List Fact). Lawful (holding u m)) (sym (cond-false (is_ok (put_answer f m)) (with_fact f m.facts) m.facts e)) s)
    (cases_Bool (is_ok (put_answer f m)))

pub sound_drop : (f : Fact) (m : Meaning) → Lawful m → Lawful (after_drop f m)
sound_drop f m s = record {
  rises = rising_without f m.facts s.rises;
  taken = λ g h. s.taken g (and_parts _ _ (sym (holds_without g f m.facts) ∙ h)).1;
  ranged = s.ranged;
  fits =
      ⊎_elim (λ h. omega (arith, length_without_present f m.facts s.rises h, s.fits))
      (λ h. subst (λ (u : List Fact). length u ≤ m.room) (sym (without_absent f m.facts h)) s.fits)
      (cases_Bool (holds f m.facts));
  small = s.small;
}

pub sound_undone : (a : Alteration) (m : Meaning) → Lawful m → Lawful (undone a m)
sound_undone (Added f) m s = sound_drop f m s
sound_undone (Removed f) m s = sound_put f m s

pub sound_replay : (steps : List Alteration) (m : Meaning) → Lawful m → Lawful (replay steps m)
sound_replay [] m s = s
sound_replay (a ∷ rest) m s = sound_undone a (replay rest m) (sound_replay rest m s)

-- a put that found the fact
pub put_idle : (f : Fact) (m : Meaning) → Lawful m → put_answer f m ≡ Ok false → after_put f m ≡ m
put_idle f m s e =
    put_ok f m false e ∙ ap (λ (u : List Fact). holding u m) (with_present f m.facts s.rises (put_new f m false e))

-- a put that added the fact
pub put_undone : (f : Fact) (m : Meaning) → Lawful m → put_answer f m ≡ Ok true → undone (Added f) (after_put f m) ≡ m
put_undone f m s e =
    ap (after_drop f) (put_ok f m true e) ∙ ap (λ (u : List Fact). holding u m) (without_with f m.facts s.rises (put_new f m true e))

pub drop_idle : (f : Fact) (m : Meaning) → holds f m.facts ≡ false → after_drop f m ≡ m
drop_idle f m h = ap (λ (u : List Fact). holding u m) (without_absent f m.facts h)

pub drop_undone : (f : Fact) (m : Meaning) → Lawful m → holds f m.facts ≡ true → undone (Removed f) (after_drop f m) ≡ m
drop_undone f m s h =
    let taken : m.takes f ≡ true = s.taken f h in
    let short = length_without_present f m.facts s.rises h in
    let room : eqb (length (without_fact f m.facts)) m.room ≡ false = ne_eqb _ _ (λ e. omega (arith, short, s.fits, e)) in
    let missing = gone f m.facts in
    let goes : put_answer f (after_drop f m) ≡ Ok true = grind (arith, taken, room, missing) in
    put_ok f (after_drop f m) true goes ∙ ap (λ (u : List Fact). holding u m) (with_without f m.facts s.rises h)
