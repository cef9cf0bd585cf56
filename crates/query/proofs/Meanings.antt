-- The answers say what the queries mean.
use Rattle.std.proofs.Common.{◌≡◌, ℕ, Bool, true, false, not, ◌||◌, eqb, List, [], ◌∷◌, ℤ, ◌≤ℤ◌, sym, refl, ◌∙◌, ⊎_elim, arith}
use Rattle.std.proofs.lemmas.Bool.{both_ways, and_parts, and_from, or_cases, or_left, or_right, eq-eqb, eqb-true, leb-true, le-leb}
use Rattle.std.proofs.lemmas.Bool.Decides.{nat_tests}
use Rattle.std.proofs.lemmas.Int.{ints}
use Rattle.store.specs.declared.facts.Fact.{Fact}
use Rattle.store.specs.Facts.{of_relation, value_in}
use Rattle.store.proofs.Order.{same_refl, same_eq}
use Rattle.store.proofs.Sets.{by_bool}
use Rattle.syntax.specs.declared.Query.{Query}
use Rattle.syntax.specs.declared.Query.TheVariants as query
use Rattle.query.specs.Queries.{any_of, all_of, answer, has_key_of, level_with, same_key, at_most}
use Rattle.query.specs.Meanings.{Has, FromTo, Meant, Says}

-- ---- some and every fact of a relation

here : (r : ℕ) (x : Fact) (xs : List Fact) → eqb x.relation r ≡ true → Has (x ∷ xs) r x
here r x xs q = (or_left _ _ (same_refl x), eqb-true _ _ q)

there : (r : ℕ) (x f : Fact) (xs : List Fact) → Has xs r f → Has (x ∷ xs) r f
there r x f xs h = (or_right _ _ h.0, h.1)

module _ (p : Fact → Bool) (r : ℕ) where
  pub some_found : (xs : List Fact) → any_of p (of_relation r xs) ≡ true → (f : Fact) × (Has xs r f × (p f ≡ true))
  some_found [] e = absurd (both_ways false refl e)
  some_found (x ∷ xs) e =
      let later : any_of p (of_relation r xs) ≡ true → (f : Fact) × (Has (x ∷ xs) r f × (p f ≡ true)) = λ k. let t = some_found xs k in (t.0, (there r x t.0 xs t.1.0, t.1.1)) in
      by_bool (eqb x.relation r)
      (λ q. ⊎_elim (λ k. (x, (here r x xs q, k))) later (or_cases _ _ (rw q at e)))
      (λ q. later (rw q at e))

  pub found_some : (xs : List Fact) (f : Fact) → Has xs r f → p f ≡ true → any_of p (of_relation r xs) ≡ true
  found_some [] f h k = absurd (both_ways false refl h.0)
  found_some (x ∷ xs) f h k = let rest = found_some xs f in let same = same_eq f x in grind (arith, nat_tests)

  pub every_passes : (xs : List Fact) → all_of p (of_relation r xs) ≡ true → (f : Fact) → Has xs r f → p f ≡ true
  every_passes [] e f h = absurd (both_ways false refl h.0)
  every_passes (x ∷ xs) e f h = let rest = every_passes xs in let same = same_eq f x in grind (arith, nat_tests)

  pub passes_every : (xs : List Fact) → ((f : Fact) → Has xs r f → p f ≡ true) → all_of p (of_relation r xs) ≡ true
  passes_every [] h = refl
  passes_every (x ∷ xs) h = let rest = passes_every xs (λ f m. h f (there r x f xs m)) in let first : eqb x.relation r ≡ true → p x ≡ true = λ q. h x (here r x xs q) in grind (arith, nat_tests)

-- ---- tests and what they decide

value_from : (low high : ℤ) (f : Fact) → value_in low high f ≡ true → FromTo low high f.value
unfolding value_in
value_from low high f e = (grind (arith, nat_tests, ints), grind (arith, nat_tests, ints))

from_value : (low high : ℤ) (f : Fact) → FromTo low high f.value → value_in low high f ≡ true
unfolding value_in
from_value low high f h = let a = h.0 in let b = h.1 in grind (arith, nat_tests, ints)

level_from : (f g : Fact) → (not (same_key f g) || at_most f g) ≡ true → g.key ≡ f.key → f.value ≤ℤ g.value
level_from f g e k = grind (arith, nat_tests, ints)

from_level : (f g : Fact) → (g.key ≡ f.key → f.value ≤ℤ g.value) → (not (same_key f g) || at_most f g) ≡ true
from_level f g h = grind (arith, nat_tests, ints)

-- ---- the six queries

pub says : (q : Query) (facts : List Fact) {b : Bool} → b ≡ answer q facts → Says b (Meant q facts)
says q facts {b} e = record { sound = λ t. sound q facts (sym e ∙ t); complete = λ m. e ∙ complete q facts m }
  where
    sound : (q : Query) (facts : List Fact) → answer q facts ≡ true → Meant q facts
    sound (query.Some r low high) facts t = let s = some_found (value_in low high) r facts t in (s.0, (s.1.0, value_from low high s.0 s.1.1))
    sound (query.Every r low high) facts t = λ f h. value_from low high f (every_passes (value_in low high) r facts t f h)
    sound (query.Fact r k v) facts t = t
    sound (query.Number r low high) facts t = (leb-true _ _ (and_parts _ _ t).0, leb-true _ _ (and_parts _ _ t).1)
    sound (query.Refer r s) facts t =
        λ f h. let g = some_found (same_key f) s facts (every_passes (λ x. has_key_of x (of_relation s facts)) r facts t f h) in (g.0, (g.1.0, eqb-true _ _ g.1.1))
    sound (query.Level r s) facts t =
        λ f g h k e. level_from f g (every_passes (λ y. not (same_key f y) || at_most f y) s facts (every_passes (λ x. level_with x (of_relation s facts)) r facts t f h) g k) e

    complete : (q : Query) (facts : List Fact) → Meant q facts → answer q facts ≡ true
    complete (query.Some r low high) facts m = found_some (value_in low high) r facts m.0 m.1.0 (from_value low high m.0 m.1.1)
    complete (query.Every r low high) facts m = passes_every (value_in low high) r facts (λ f h. from_value low high f (m f h))
    complete (query.Fact r k v) facts m = m
    complete (query.Number r low high) facts m = and_from _ _ (le-leb _ _ m.0) (le-leb _ _ m.1)
    complete (query.Refer r s) facts m =
        passes_every (λ x. has_key_of x (of_relation s facts)) r facts (λ f h. let g = m f h in found_some (same_key f) s facts g.0 g.1.0 (eq-eqb _ _ g.1.1))
    complete (query.Level r s) facts m =
        passes_every (λ x. level_with x (of_relation s facts)) r facts (λ f h. passes_every (λ y. not (same_key f y) || at_most f y) s facts (λ g k. from_level f g (λ e. m f g h k e)))
