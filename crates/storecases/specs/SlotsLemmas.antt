-- A store with one place is lawful.
use Rattle.std.specs.Prelude.{◌≡◌, true, false, Some, None, Option, refl}
use Rattle.std.proofs.Common.{sym, subst, ⊎_elim, zero-le, le_refl, lit<}
use Rattle.std.proofs.lemmas.Bool.{both_ways, or_cases}
use Rattle.store.specs.declared.facts.Fact.{Fact}
use Rattle.store.specs.Facts.{in_range}
use Rattle.store.specs.Stores.{Lawful}
use Rattle.store.proofs.Order.{same_eq}
use Rattle.storecases.specs.Slots.{slot_meaning, slot_ranged}

pub slot_lawful : (held : Option Fact) → slot_ranged held ≡ true → Lawful (slot_meaning held)
slot_lawful None r = record {
  rises = refl;
  taken = λ f h. absurd (both_ways false refl h);
  ranged = λ f t. t;
  fits = zero-le;
  small = lit< tt;
}
slot_lawful (Some x) r = record {
  rises = refl;
  taken = λ f h.
      ⊎_elim (λ s. subst (λ (y : Fact). in_range y ≡ true) (sym (same_eq f x s)) r) (λ n. absurd (both_ways false refl n))
      (or_cases _ _ h);
  ranged = λ f t. t;
  fits = le_refl _;
  small = lit< tt;
}
