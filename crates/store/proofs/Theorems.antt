-- What the equations of a store's calls come to in the words of sets.
use Rattle.std.proofs.Common.{◌≡◌, ◌+◌, Bool, true, false, not, eqb, ◌⊎◌, List, [], ◌∷◌, length, Some, None, Option, Result, sym, refl, ap, ◌∙◌, subst, inl, inr, ⊎_elim, arith}
use Rattle.std.proofs.lemmas.Bool.{both_ways, or_cases, or_left, or_right, and_parts, and_from, eqb-true}
use Rattle.store.specs.declared.facts.Fact.{Fact}
use Rattle.store.specs.declared.stores.StoreFault.{StoreFault}
use Rattle.store.specs.Facts.{before, same, rising, holds, with_fact, without_fact, at_or_after, first_from}
use Rattle.store.specs.Stores.{Meaning, Lawful, put_answer, after_put, after_drop}
use Rattle.store.specs.Members.{◌∈◌, ◌⇔◌, SetOf, SameStore, PutDid, PutResult, DropResult, WalkResult}
use Rattle.store.proofs.Order.{before_irrefl, same_refl, same_eq}
use Rattle.store.proofs.Sets.{by_bool, not_same, before_asym, rising_with, rising_without, with_present, without_absent, length_with_absent, length_without_present}
use Rattle.store.proofs.Members.{same_bool, same_members, holds_with, holds_without, before_member}

pub member : (f : Fact) (xs : List Fact) → holds f xs ≡ true → f ∈ xs
member f [] h = absurd (both_ways false refl h)
member f (x ∷ xs) h = ⊎_elim (λ s. inl (same_eq f x s)) (λ s. inr (member f xs s)) (or_cases _ _ h)

pub held : (f : Fact) (xs : List Fact) → f ∈ xs → holds f xs ≡ true
held f [] h = absurd h
held f (x ∷ xs) h =
    ⊎_elim (λ e. or_left _ _ (subst (λ (y : Fact). same f y ≡ true) e (same_refl f))) (λ m. or_right _ _ (held f xs m)) h

missing : (f : Fact) (xs : List Fact) → holds f xs ≡ false → f ∈ xs → ⊥
missing f xs h m = both_ways (holds f xs) h (held f xs m)

-- a rising list with the members that P asks for is the only one
set_of : (P : Fact → Type 0) (xs : List Fact) → rising xs ≡ true → ((g : Fact) → (g ∈ xs) ⇔ P g) → SetOf P xs
set_of P xs r h = record {
  rises = r;
  members = h;
  only = λ ys q k.
      same_members ys xs q r (λ g.
      same_bool (holds g ys) (holds g xs)
      (λ m. held g xs ((h g).1 ((k g).0 (member g ys m))))
      (λ m. held g ys ((k g).1 ((h g).0 (member g xs m)))));
}

pub set_with : (f : Fact) (xs : List Fact) → rising xs ≡ true → SetOf (λ g. (g ≡ f) ⊎ (g ∈ xs)) (with_fact f xs)
set_with f xs r =
    set_of (λ g. (g ≡ f) ⊎ (g ∈ xs)) (with_fact f xs) (rising_with f xs r) (λ g. (
      λ m. ⊎_elim (λ s. inl (same_eq g f s)) (λ s. inr (member g xs s)) (or_cases _ _ (sym (holds_with g f xs) ∙ held g (with_fact f xs) m)),
      λ m. member g (with_fact f xs) (holds_with g f xs ∙ ⊎_elim (λ e. or_left _ _ (subst (λ (y : Fact). same g y ≡ true) e (same_refl g))) (λ s. or_right _ _ (held g xs s)) m),
    ))

pub set_without : (f : Fact) (xs : List Fact) → rising xs ≡ true → SetOf (λ g. (g ≡ f → ⊥) × (g ∈ xs)) (without_fact f xs)
set_without f xs r =
    set_of (λ g. (g ≡ f → ⊥) × (g ∈ xs)) (without_fact f xs) (rising_without f xs r) (λ g. (
      λ m.
          let both = and_parts (not (same g f)) (holds g xs) (sym (holds_without g f xs) ∙ held g (without_fact f xs) m) in
          (λ e. not-both (same g f) (subst (λ (y : Fact). same g y ≡ true) e (same_refl g)) both.0, member g xs both.1),
      λ m. member g (without_fact f xs) (holds_without g f xs ∙ and_from _ _ (ap not (not_same g f m.0)) (held g xs m.1)),
    ))
  where
    not-both : (b : Bool) → b ≡ true → not b ≡ true → ⊥
    not-both true p q = both_ways false refl q
    not-both false p q = both_ways false refl p

-- ---- put

same_store : (m : Meaning) (xs : List Fact) → SameStore m (record { facts = xs; takes = m.takes; room = m.room })
same_store m xs = record { takes = refl; room = refl }

pub put_did : (m : Meaning) (f : Fact) → Lawful m → PutDid f m (after_put f m) (put_answer f m)
put_did m f l =
    by_bool (m.takes f)
    (λ t. by_bool (holds f m.facts)
    (λ h. rw (t, h) (
      t,
      ((λ e. absurd (both_ways false refl e)), (λ a. absurd (a (member f m.facts h)))),
      set_with f m.facts l.rises,
      ap length (with_present f m.facts l.rises h) ∙ omega arith,
    ))
    (λ h. by_bool (eqb (length m.facts) m.room)
    (λ e. rw (t, h, e) (t, missing f m.facts h, eqb-true _ _ e, refl))
    (λ e. rw (t, h, e) (
      t,
      ((λ _. missing f m.facts h), (λ _. refl)),
      set_with f m.facts l.rises,
      length_with_absent f m.facts h ∙ omega arith,
    ))))
    (λ t. rw t (t, refl))

pub put_result : (m n : Meaning) (f : Fact) (r : Result Bool StoreFault) → Lawful m → r ≡ put_answer f m → n ≡ after_put f m → PutResult f m n r
put_result m n f r l e k = rw (e, k) (record { did = put_did m f l; same_store = same_store m _ })

-- ---- drop

pub drop_result : (m n : Meaning) (f : Fact) (r : Bool) → Lawful m → r ≡ holds f m.facts → n ≡ after_drop f m → DropResult f m n r
drop_result m n f r l e k =
    rw (e, k) (record {
      present = (member f m.facts, held f m.facts);
      set = set_without f m.facts l.rises;
      counted = by_bool (holds f m.facts) (λ h. rw h (omega (arith, length_without_present f m.facts l.rises h))) (λ h. rw h (ap (λ n. n + 0) (ap length (without_absent f m.facts h)) ∙ omega arith));
      same_store = same_store m _;
    })

-- ---- walk

pub walk_result : (s : Fact) (xs : List Fact) → rising xs ≡ true → WalkResult s xs (first_from s xs)
walk_result s [] r = λ g m. absurd m
walk_result s (y ∷ ys) r =
    by_bool (at_or_after s y)
    (λ t. rw t (inl refl, t, λ g m _. ⊎_elim (λ e. subst (λ (x : Fact). before x y ≡ false) (sym e) (before_irrefl y)) (λ k. before_asym y g (before_member y g ys (and_parts _ _ r).0 (held g ys k))) m))
    (λ t. rw t (later t (first_from s ys) (walk_result s ys (and_parts _ _ r).1)))
  where
    later : at_or_after s y ≡ false → (o : Option Fact) → WalkResult s ys o → WalkResult s (y ∷ ys) o
    later t None h = λ g m. ⊎_elim (λ e. subst (λ (x : Fact). at_or_after s x ≡ false) (sym e) t) (λ k. h g k) m
    later t (Some x) h = (
      inr h.0,
      h.1,
      λ g m a. ⊎_elim (λ e. absurd (both_ways (at_or_after s y) t (subst (λ (x : Fact). at_or_after s x ≡ true) e a))) (λ k. h.2 g k a) m,
    )
