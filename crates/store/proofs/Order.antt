-- `before` is a strict total order on facts, and `same` is equality.
use Rattle.std.proofs.Common.{◌≡◌, ℕ, true, false, ℤ, ap, ◌∙◌, arith}
use lib.Signed.{le_z}
use Rattle.std.proofs.lemmas.Bool.Decides.{nat_tests}
use Rattle.std.proofs.lemmas.Int.{ints}
use Rattle.store.specs.declared.facts.Fact.{Fact}
use Rattle.store.specs.Facts.{before, same, fact_of, StrictTotalOrder, Equality}

leZ_antisym : (a b : ℤ) → le_z a b ≡ true → le_z b a ≡ true → a ≡ b
leZ_antisym a b p q = grind (arith, ints)

pub fact_same : (a b : Fact) → a.relation ≡ b.relation → a.key ≡ b.key → a.value ≡ b.value → a ≡ b
fact_same a b p q r =
    ap (λ (n : ℕ). fact_of n a.key a.value) p ∙ ap (λ (n : ℕ). fact_of b.relation n a.value) q ∙ ap (λ (z : ℤ). fact_of b.relation b.key z) r

pub before_irrefl : (a : Fact) → before a a ≡ false
unfolding before
before_irrefl a = grind (arith, nat_tests, ints)

pub before_trans : (a b c : Fact) → before a b ≡ true → before b c ≡ true → before a c ≡ true
unfolding before
before_trans a b c p q = grind (arith, nat_tests, ints)

pub before_connex : (a b : Fact) → before a b ≡ false → before b a ≡ false → a ≡ b
unfolding before
before_connex a b p q = fact_same a b (grind (arith, nat_tests, ints)) (grind (arith, nat_tests, ints)) (grind (arith, nat_tests, ints))

pub same_refl : (a : Fact) → same a a ≡ true
unfolding same
same_refl a = grind (arith, nat_tests, ints)

pub same_eq : (a b : Fact) → same a b ≡ true → a ≡ b
unfolding same
same_eq a b p = fact_same a b (grind (arith, nat_tests)) (grind (arith, nat_tests)) (leZ_antisym _ _ (grind (arith, nat_tests)) (grind (arith, nat_tests)))

pub order : StrictTotalOrder before
order = record { irreflexive = before_irrefl; transitive = before_trans; connected = before_connex }

pub equality : Equality same
equality = record { reflexive = same_refl; sound = same_eq }
