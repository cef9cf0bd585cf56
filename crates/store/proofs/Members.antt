-- A set of facts by its members: two rising lists with the same members are one.
use Rattle.std.proofs.Common.{◌≡◌, Bool, true, false, not, ◌&&◌, ◌||◌, List, [], ◌∷◌, ◌++◌, Some, None, sym, refl, ap, ◌∙◌, subst, ⊎_elim}
use Rattle.std.proofs.lemmas.Bool.{and_parts, and_from, both_ways, or_cases, or_left, or_right}
use Rattle.store.specs.declared.facts.Fact.{Fact}
use Rattle.store.specs.Facts.{before, same, before_all, rising, holds, with_fact, without_fact, at_or_after, first_from}
use Rattle.store.proofs.Order.{before_irrefl, before_trans, before_connex, same_refl, same_eq}
use Rattle.store.proofs.Sets.{by_bool, absent_before_all}

pub same_bool : (a b : Bool) → (a ≡ true → b ≡ true) → (b ≡ true → a ≡ true) → a ≡ b
same_bool true b f g = sym (f refl)
same_bool false true f g = g refl
same_bool false false f g = refl

pub holds_append : (f : Fact) (xs ys : List Fact) → holds f (xs ++ ys) ≡ (holds f xs || holds f ys)
holds_append f [] ys = refl
holds_append f (x ∷ xs) ys = elim (same f x) as (λ b. (b || holds f (xs ++ ys)) ≡ ((b || holds f xs) || holds f ys)) [ true ↦ refl | false ↦ holds_append f xs ys ]

pub before_member : (f g : Fact) (xs : List Fact) → before_all f xs ≡ true → holds g xs ≡ true → before f g ≡ true
before_member f g [] h m = absurd (both_ways false refl m)
before_member f g (x ∷ xs) h m =
    by_bool (same g x) (λ k. rw (same_eq g x k) (and_parts _ _ h).0) (λ k. before_member f g xs (and_parts _ _ h).1 (rw k at m))

pub before_all_members : (f : Fact) (xs : List Fact) → ((g : Fact) → holds g xs ≡ true → before f g ≡ true) → before_all f xs ≡ true
before_all_members f [] h = refl
before_all_members f (x ∷ xs) h = and_from _ _ (h x (or_left _ _ (same_refl x))) (before_all_members f xs (λ g m. h g (or_right _ _ m)))

pub rising_append : (xs ys : List Fact) → rising xs ≡ true → rising ys ≡ true → ((f g : Fact) → holds f xs ≡ true → holds g ys ≡ true → before f g ≡ true) → rising (xs ++ ys) ≡ true
rising_append [] ys r q h = q
rising_append (x ∷ xs) ys r q h =
    and_from _ _
    (before_all_members x (xs ++ ys) (λ g m.
    ⊎_elim (λ k. before_member x g xs (and_parts _ _ r).0 k) (λ k. h x g (or_left _ _ (same_refl x)) k) (or_cases _ _ (rw (holds_append g xs ys) at m))))
    (rising_append xs ys (and_parts _ _ r).1 q (λ f g a b. h f g (or_right _ _ a) b))

-- the least fact of a rising list comes before the others
head_least : (x y : Fact) (xs : List Fact) → before_all x xs ≡ true → (same y x || holds y xs) ≡ true → before y x ≡ false
head_least x y xs h m =
    by_bool (before y x)
    (λ k. ⊎_elim
    (λ s. absurd (both_ways (before x x) (before_irrefl x) (subst (λ (w : Fact). before w x ≡ true) (same_eq y x s) k)))
    (λ s. absurd (both_ways (before y y) (before_irrefl y) (before_trans y x y k (before_member x y xs h s)))) (or_cases _ _ m))
    (λ k. k)

not_in_tail : (x : Fact) (xs : List Fact) → before_all x xs ≡ true → (f : Fact) → holds f xs ≡ true → same f x ≡ false
not_in_tail x xs h f m =
    by_bool (same f x)
    (λ s. absurd (both_ways (holds f xs) (absent_before_all f xs (subst (λ (w : Fact). before_all w xs ≡ true) (sym (same_eq f x s)) h)) m)) (λ s. s)

pub same_members : (xs ys : List Fact) → rising xs ≡ true → rising ys ≡ true → ((f : Fact) → holds f xs ≡ holds f ys) → xs ≡ ys
same_members [] [] r q h = refl
same_members [] (y ∷ ys) r q h = absurd (both_ways false refl (h y ∙ or_left _ _ (same_refl y)))
same_members (x ∷ xs) [] r q h = absurd (both_ways false refl (sym (h x) ∙ or_left _ _ (same_refl x)))
same_members (x ∷ xs) (y ∷ ys) r q h =
    let rx = and_parts _ _ r in
    let ry = and_parts _ _ q in
    let e : x ≡ y = before_connex x y
    (head_least y x ys ry.0 (sym (h x) ∙ or_left _ _ (same_refl x)))
    (head_least x y xs rx.0 (h y ∙ or_left _ _ (same_refl y))) in
    let tails : xs ≡ ys = same_members xs ys rx.1 ry.1 (λ f. same_bool (holds f xs) (holds f ys)
    (λ m. let n : same f y ≡ false = subst (λ (w : Fact). same f w ≡ false) e (not_in_tail x xs rx.0 f m) in rw n at (sym (h f) ∙ or_right _ _ m))
    (λ m. let n : same f x ≡ false = subst (λ (w : Fact). same f w ≡ false) (sym e) (not_in_tail y ys ry.0 f m) in rw n at (h f ∙ or_right _ _ m))) in
    ap (λ (w : Fact). w ∷ xs) e ∙ ap (λ (ws : List Fact). y ∷ ws) tails

-- ---- the members after an insertion and a removal

pub holds_with : (g f : Fact) (xs : List Fact) → holds g (with_fact f xs) ≡ (same g f || holds g xs)
holds_with g f [] = refl
holds_with g f (x ∷ xs) =
    by_bool (before x f)
    (λ k. rw (k, holds_with g f xs) (swap_or (same g x) (same g f) (holds g xs)))
    (λ k. by_bool (same f x)
    (λ j. rw (k, j) (subst (λ (w : Fact). (same g x || holds g xs) ≡ (same g w || (same g x || holds g xs))) (sym (same_eq f x j)) (twice-or (same g x) (holds g xs))))
    (λ j. rw (k, j)))
  where
    swap_or : (a b c : Bool) → (a || (b || c)) ≡ (b || (a || c))
    swap_or true true c = refl
    swap_or true false c = refl
    swap_or false b c = refl

    twice-or : (a c : Bool) → (a || c) ≡ (a || (a || c))
    twice-or true c = refl
    twice-or false c = refl

pub holds_without : (g f : Fact) (xs : List Fact) → holds g (without_fact f xs) ≡ (not (same g f) && holds g xs)
holds_without g f [] = sym (and_false (not (same g f)))
  where
    and_false : (a : Bool) → (a && false) ≡ false
    and_false true = refl
    and_false false = refl
holds_without g f (x ∷ xs) =
    by_bool (same f x)
    (λ j. rw (j, holds_without g f xs) (subst (λ (w : Fact). (not (same g w) && holds g xs) ≡ (not (same g w) && (same g x || holds g xs))) (sym (same_eq f x j)) (skip (same g x) (holds g xs))))
    (λ j. rw (j, holds_without g f xs) (keep (same g x) (same g f) (holds g xs) (λ a b. both_ways (same f x) j (subst (λ (w : Fact). same w x ≡ true) (same_eq g f b) a))))
  where
    skip : (a c : Bool) → (not a && c) ≡ (not a && (a || c))
    skip true c = refl
    skip false c = refl

    keep : (a b c : Bool) → (a ≡ true → b ≡ true → ⊥) → (a || (not b && c)) ≡ (not b && (a || c))
    keep true true c h = absurd (h refl refl)
    keep true false c h = refl
    keep false b c h = refl

-- ---- the walk's answer, by its members

pub first_is : (s x : Fact) (xs : List Fact) → rising xs ≡ true → holds x xs ≡ true → at_or_after s x ≡ true → ((y : Fact) → holds y xs ≡ true → at_or_after s y ≡ true → before y x ≡ false) → Some x ≡ first_from s xs
first_is s x [] r m e h = absurd (both_ways false refl m)
first_is s x (y ∷ ys) r m e h =
    by_bool (same x y)
    (λ k.
    let q : x ≡ y = same_eq x y k in
    let t : at_or_after s y ≡ true = subst (λ (w : Fact). at_or_after s w ≡ true) q e in
    rw t (ap Some q))
    (λ k.
    let i : holds x ys ≡ true = rw k at m in
    let n : at_or_after s y ≡ false = by_bool (at_or_after s y) (λ t. absurd (both_ways (before y x) (h y (or_left _ _ (same_refl y)) t) (before_member y x ys (and_parts _ _ r).0 i))) (λ t. t) in
    rw n (first_is s x ys (and_parts _ _ r).1 i e (λ z a b. h z (or_right _ _ a) b)))

pub first_none : (s : Fact) (xs : List Fact) → ((y : Fact) → holds y xs ≡ true → at_or_after s y ≡ false) → None ≡ first_from s xs
first_none s [] h = refl
first_none s (y ∷ ys) h =
    let n : at_or_after s y ≡ false = h y (or_left _ _ (same_refl y)) in
    rw n (first_none s ys (λ z a. h z (or_right _ _ a)))
