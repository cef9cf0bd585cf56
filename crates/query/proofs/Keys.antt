-- The first fact at a key has the least value there.
use Rattle.std.proofs.Common.{◌≡◌, ℕ, true, false, cond, not, ◌||◌, eqb, List, [], ◌∷◌, negsuc, is_some, Some, None, Option, refl, arith}
use Rattle.std.proofs.lemmas.Bool.{and_parts, or_left, or_right}
use Rattle.std.proofs.lemmas.Bool.Decides.{nat_tests}
use Rattle.std.proofs.lemmas.Int.{ints}
use Rattle.store.specs.declared.facts.Fact.{Fact}
use Rattle.store.specs.Facts.{before, in_range, before_all, rising, holds, at_or_after, first_from, fact_of, of_relation}
use Rattle.store.specs.Stores.{Meaning, Lawful}
use Rattle.store.proofs.Order.{same_refl}
use Rattle.query.specs.Queries.{same_key, at_most, has_key_of, level_with}
use Rattle.query.specs.Walks.{level_beside}

-- where a walk through the facts at a key begins: the least value that 32 bits hold
abbrev pub key_start : ℕ → ℕ → Fact
key_start r k = fact_of r k (negsuc 2147483647)

-- the fact found, if it has the key of x
abbrev pub at_same_key : Fact → Option Fact → Option Fact
at_same_key x None = None
at_same_key x (Some y) = cond (same_key x y) (Some y) None

-- a fact of the relation before the start has a smaller key
early : (s : ℕ) (x y : Fact) → in_range y ≡ true → at_or_after (key_start s x.key) y ≡ false → eqb y.relation s ≡ true → eqb y.key x.key ≡ false
unfolding at_or_after before in_range
early s x y h e q = grind (arith, nat_tests, ints)

-- what comes after a first fact that is past the key is past the key; and a value that is level with the first is level with what comes after
later_key : (s : ℕ) (x y z : Fact) → at_or_after (key_start s x.key) y ≡ true → before y z ≡ true → eqb z.relation s ≡ true → same_key x y ≡ false → same_key x z ≡ false
unfolding at_or_after before
later_key s x y z e b q k = grind (arith, nat_tests, ints)

later_level : (s : ℕ) (x y z : Fact) → at_or_after (key_start s x.key) y ≡ true → before y z ≡ true → eqb z.relation s ≡ true → (not (same_key x y) || at_most x y) ≡ true → (not (same_key x z) || at_most x z) ≡ true
unfolding at_or_after before
later_level s x y z e b q k = grind (arith, nat_tests, ints)

of_start : (s k : ℕ) (y : Fact) → at_or_after (key_start s k) y ≡ true → eqb y.relation s ≡ true
unfolding at_or_after
of_start s k y e = (and_parts _ _ e).0

module _ (s : ℕ) (x y : Fact) (e : at_or_after (key_start s x.key) y ≡ true) where
  key_gone : (zs : List Fact) → before_all y zs ≡ true → same_key x y ≡ false → has_key_of x (of_relation s zs) ≡ false
  key_gone [] b k = refl
  key_gone (z ∷ zs) b k = let rest = key_gone zs in let later = later_key s x y z e in grind (arith, nat_tests)

  level_kept : (zs : List Fact) → before_all y zs ≡ true → (not (same_key x y) || at_most x y) ≡ true → level_with x (of_relation s zs) ≡ true
  level_kept [] b k = refl
  level_kept (z ∷ zs) b k = let rest = level_kept zs in let later = later_level s x y z e in grind (arith, nat_tests)

abbrev pub Ranged : List Fact → Type 0
Ranged xs = (f : Fact) → holds f xs ≡ true → in_range f ≡ true

ranged_head : (x : Fact) (xs : List Fact) → Ranged (x ∷ xs) → in_range x ≡ true
ranged_head x xs h = h x (or_left _ _ (same_refl x))

ranged_tail : (x : Fact) (xs : List Fact) → Ranged (x ∷ xs) → Ranged xs
ranged_tail x xs h f m = h f (or_right _ _ m)

-- what a lawful store holds is in range
pub ranged : {m : Meaning} → Lawful m → Ranged m.facts
ranged lawful f held = lawful.ranged f (lawful.taken f held)

module _ (s : ℕ) (x : Fact) where
  -- the fact beside x is there if and only if its key is
  pub beside_key : (ys : List Fact) → rising ys ≡ true → Ranged ys → is_some (at_same_key x (first_from (key_start s x.key) ys)) ≡ has_key_of x (of_relation s ys)
  beside_key [] r h = refl
  beside_key (y ∷ ys) r h =
      let rises : (before_all y ys ≡ true) × (rising ys ≡ true) = and_parts _ _ r in
      let rest = beside_key ys rises.1 (ranged_tail y ys h) in
      let start = of_start s x.key y in
      let first = early s x y (ranged_head y ys h) in
      let gone : at_or_after (key_start s x.key) y ≡ true → same_key x y ≡ false → has_key_of x (of_relation s ys) ≡ false = λ k. key_gone s x y k ys rises.0 in
      grind (arith, nat_tests)

  -- x is level with the fact beside it if and only if it is level with all
  pub beside_level : (ys : List Fact) → rising ys ≡ true → Ranged ys → level_beside x (at_same_key x (first_from (key_start s x.key) ys)) ≡ level_with x (of_relation s ys)
  beside_level [] r h = refl
  beside_level (y ∷ ys) r h =
      let rises : (before_all y ys ≡ true) × (rising ys ≡ true) = and_parts _ _ r in
      let rest = beside_level ys rises.1 (ranged_tail y ys h) in
      let start = of_start s x.key y in
      let first = early s x y (ranged_head y ys h) in
      let kept : at_or_after (key_start s x.key) y ≡ true → (not (same_key x y) || at_most x y) ≡ true → level_with x (of_relation s ys) ≡ true = λ k. level_kept s x y k ys rises.0 in
      grind (arith, nat_tests)
