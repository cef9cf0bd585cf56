-- A fact's place in a rising list.
use Rattle.std.specs.Prelude.{◌≡◌, ℕ, zero, suc, ◌+◌, ◌-◌, ◌++◌, take, drop, ◌<◌, ◌≤◌, true, false, cond, ◌||◌, List, [], ◌∷◌, length, None, Some, Ok, Err, Result, MatchResult, ◌==◌, slice_index_or, refl}
use Rattle.std.proofs.Common.{sym, ap, ◌∙◌, subst, ⊎_elim, zero-le, suc-le-suc, le_of_suc-le-suc, not-suc-le-zero, le_refl, arith}
use Rattle.std.specs.List.{insert, remove, slice_get}
use Rattle.std.proofs.Math.Seq.{take-append-add, take-append_seam}
use Rattle.std.proofs.lemmas.Option.{none-some, get_or_from_slice_get, slice_get-get_or, slice_get_cases, slice_get_within}
use Rattle.std.proofs.lemmas.List.{append_assoc, take_all, length-append, length-take, length-drop}
use Rattle.std.specs.List.Sorted.{IsNonDecreasingBy, IsPartitionPoint, IsPartitionedBy, IsBinarySearchResult, IsSearchInRange}
use Rattle.std.specs.declared.cmp.Ordering.{Ordering}
use Rattle.std.specs.declared.cmp.Ordering.TheVariants.{Less, Equal, Greater}
use Rattle.store.specs.contracts.facts.FactPartialOrd.TheImpl as FactPartialOrd
use Rattle.std.specs.Ordering.{partial_lt, nat_cmp, int_cmp, is_lt, ordering_reverse, ordering_then, ordering_index}
use Rattle.std.specs.Cmp.{IsTotalOrder}
use Rattle.std.proofs.lemmas.Cmp.{nat_cmp_total, int_cmp_total, on_total, then_total}
use Rattle.std.proofs.lemmas.List.Sorted.{searchable_from_sorted}
use Rattle.std.proofs.lemmas.Bool.{and_parts, and_from, both_ways, or_from, or_left, or_right, and_right, cases_eq}
use Rattle.std.proofs.lemmas.Bool.Decides.{nat_tests}
use Rattle.std.proofs.lemmas.Int.{ints}
use Rattle.store.specs.declared.facts.Fact.{Fact}
use Rattle.store.specs.Facts.{before, same, before_all, rising, holds, with_fact, without_fact, at_or_after, first_from, in_range}
use Rattle.liststore.specs.Places.{position, all_in_range, of_start, Place, FoundAt, AbsentAt}
use Rattle.store.proofs.Order.{before_irrefl, before_trans, before_connex, same_refl, same_eq}
use Rattle.store.proofs.Sets.{by_bool, before_asym, before_not_same, after_not_same, otherwise_before, before_all_trans, absent_before_all, with_present, without_absent}

pub position_le : (f : Fact) (xs : List Fact) → position f xs ≤ length xs
position_le f [] = zero-le
position_le f (x ∷ xs) = elim (before x f) as (λ b. cond b (suc (position f xs)) 0 ≤ suc (length xs)) [ true ↦ suc-le-suc (position_le f xs) | false ↦ zero-le ]

pub before_all_getD : (f : Fact) (xs : List Fact) (i : ℕ) (d : Fact) → i < length xs → before_all f xs ≡ true → before f (slice_index_or xs i d) ≡ true
before_all_getD f [] i d h e = absurd (not-suc-le-zero h)
before_all_getD f (x ∷ xs) zero d h e = (and_parts _ _ e).0
before_all_getD f (x ∷ xs) (suc i) d h e = before_all_getD f xs i d (le_of_suc-le-suc h) (and_parts _ _ e).1

pub holds_at : (f : Fact) (xs : List Fact) (d : Fact) → position f xs < length xs → same f (slice_index_or xs (position f xs) d) ≡ true → holds f xs ≡ true
holds_at f [] d l e = absurd (not-suc-le-zero l)
holds_at f (x ∷ xs) d l e =
    elim (before x f) as (λ b. cond b (suc (position f xs)) 0 < suc (length xs) → same f (slice_index_or (x ∷ xs) (cond b (suc (position f xs)) 0) d) ≡ true → (same f x || holds f xs) ≡ true)
    [ true ↦ λ l e. or_right _ _ (holds_at f xs d (le_of_suc-le-suc l) e) | false ↦ λ l e. or_left _ _ e ] l e

pub absent_at : (f : Fact) (xs : List Fact) (d : Fact) → rising xs ≡ true → (position f xs < length xs → same f (slice_index_or xs (position f xs) d) ≡ false) → holds f xs ≡ false
absent_at f [] d r e = refl
absent_at f (x ∷ xs) d r e =
    by_bool (before x f)
    (λ k. or_from _ _ (after_not_same x f k) (absent_at f xs d (and_parts _ _ r).1 (λ l. rw k at e (suc-le-suc l))))
    (λ k.
    let n : same f x ≡ false = rw k at e (suc-le-suc zero-le) in
    or_from _ _ n (absent_before_all f xs (before_all_trans f x xs (otherwise_before x f k n) (and_parts _ _ r).0)))

pub with_absent : (f : Fact) (xs : List Fact) (d : Fact) → (position f xs < length xs → same f (slice_index_or xs (position f xs) d) ≡ false) → with_fact f xs ≡ insert xs (position f xs) f
with_absent f [] d e = refl
with_absent f (x ∷ xs) d e =
    elim (before x f) as (λ b. (cond b (suc (position f xs)) 0 < suc (length xs) → same f (slice_index_or (x ∷ xs) (cond b (suc (position f xs)) 0) d) ≡ false)
    → cond b (x ∷ with_fact f xs) (cond (same f x) (x ∷ xs) (f ∷ x ∷ xs)) ≡ insert (x ∷ xs) (cond b (suc (position f xs)) 0) f)
    [ true ↦ λ e. ap (λ ys. x ∷ ys) (with_absent f xs d (λ l. e (suc-le-suc l))) | false ↦ λ e. let n : same f x ≡ false = e (suc-le-suc zero-le) in rw n ] e

pub without_at : (f : Fact) (xs : List Fact) (d : Fact) → rising xs ≡ true → position f xs < length xs → same f (slice_index_or xs (position f xs) d) ≡ true → without_fact f xs ≡ remove xs (position f xs)
without_at f [] d r l e = absurd (not-suc-le-zero l)
without_at f (x ∷ xs) d r l e =
    by_bool (before x f)
    (λ k.
    let n : same f x ≡ false = after_not_same x f k in
    let l' : position f xs < length xs = le_of_suc-le-suc (rw k at l) in
    rw (k, n) (ap (λ ys. x ∷ ys) (without_at f xs d (and_parts _ _ r).1 l' (rw k at e))))
    (λ k.
    let s : same f x ≡ true = rw k at e in
    let a : before_all f xs ≡ true = rw (same_eq f x s) (and_parts _ _ r).0 in
    rw (k, s) (without_absent f xs (absent_before_all f xs a)))

one_more : {X : Type 0} (xs : List X) (i : ℕ) → drop 1 (drop i xs) ≡ drop (suc i) xs
one_more xs zero = refl
one_more [] (suc i) = refl
one_more (x ∷ xs) (suc i) = one_more xs i

-- what stands before the last of n
all_but_last : {X : Type 0} (p w : List X) (n : ℕ) → n ≡ length p + 1 → take (n - 1) (take n (p ++ w)) ≡ p
all_but_last p w n e =
    let less : n - 1 ≡ length p = omega (arith, e) in
    ap (λ k. take (n - 1) (take k (p ++ w))) e ∙ ap (take (n - 1)) (take-append-add p w 1) ∙ ap (λ k. take k (p ++ take 1 w)) less ∙ take-append_seam p (take 1 w)

-- the elements from the i-th on, turned so that it stands last, and the last one let go
pub turned_out : {X : Type 0} (xs r post rest : List X) (i n : ℕ) → i < length xs → n ≡ length xs → r ≡ drop 1 (take (length xs - i) (drop i xs)) ++ take 1 (take (length xs - i) (drop i xs))
    → take (n - 1) (take n ((take i xs ++ (r ++ post)) ++ rest)) ≡ remove xs i
turned_out {X = X} xs r post rest i n h m e =
    let behind : take (length xs - i) (drop i xs) ≡ drop i xs = take_all (length xs - i) (drop i xs) (omega (length-drop i xs, arith)) in
    let next : drop 1 (drop i xs) ≡ drop (suc i) xs = one_more xs i in
    let b : List X = drop (suc i) xs in
    let t : List X = take 1 (drop i xs) in
    let r' : r ≡ b ++ t = e ∙ ap (λ ys. drop 1 ys ++ take 1 ys) behind ∙ ap (λ ys. ys ++ t) next in
    let parts : (take i xs ++ (r ++ post)) ++ rest ≡ remove xs i ++ (t ++ (post ++ rest)) =
    ap (λ ys. (take i xs ++ (ys ++ post)) ++ rest) r'
    ∙ append_assoc (take i xs) ((b ++ t) ++ post) rest
    ∙ ap (λ ys. take i xs ++ ys) (append_assoc (b ++ t) post rest ∙ append_assoc b t (post ++ rest))
    ∙ sym (append_assoc (take i xs) b (t ++ (post ++ rest))) in
    let one_less : n ≡ length (remove xs i) + 1 = omega (m, length-append (take i xs) b, length-take i xs, length-drop (suc i) xs, arith) in
    ap (λ ys. take (n - 1) (take n ys)) parts ∙ all_but_last (remove xs i) (t ++ (post ++ rest)) n one_less

-- ---- the steps of a binary search

pub position_above : (f : Fact) (xs : List Fact) (m : ℕ) (x : Fact) → rising xs ≡ true → m < length xs → x ≡ slice_index_or xs m x → before x f ≡ true → m < position f xs
position_above f [] m x r l e h = absurd (not-suc-le-zero l)
position_above f (y ∷ ys) zero x r l e h = let k : before y f ≡ true = rw e at h in rw k (suc-le-suc zero-le)
position_above f (y ∷ ys) (suc m) x r l e h =
    let l' : m < length ys = le_of_suc-le-suc l in
    let above : before y x ≡ true = rw (sym e) at (before_all_getD y ys m x l' (and_parts _ _ r).0) in
    let k : before y f ≡ true = before_trans y x f above h in
    rw k (suc-le-suc (position_above f ys m x (and_parts _ _ r).1 l' e h))

pub position_below : (f : Fact) (xs : List Fact) (m : ℕ) (x : Fact) → m < length xs → x ≡ slice_index_or xs m x → before x f ≡ false → position f xs ≤ m
position_below f [] m x l e h = absurd (not-suc-le-zero l)
position_below f (y ∷ ys) zero x l e h = let k : before y f ≡ false = rw e at h in rw k zero-le
position_below f (y ∷ ys) (suc m) x l e h =
    let rest = position_below f ys m x (le_of_suc-le-suc l) e h in
    elim (before y f) as (λ b. cond b (suc (position f ys)) 0 ≤ suc m) [ true ↦ suc-le-suc rest | false ↦ zero-le ]

-- ---- what an insertion and a removal keep

pub in_range_with : (f : Fact) (xs : List Fact) → in_range f ≡ true → all_in_range xs ≡ true → all_in_range (with_fact f xs) ≡ true
in_range_with f [] e h = and_from _ _ e refl
in_range_with f (x ∷ xs) e h =
    by_bool (before x f) (λ k. rw k (and_from _ _ (and_parts _ _ h).0 (in_range_with f xs e (and_parts _ _ h).1)))
    (λ k. by_bool (same f x) (λ j. rw (k, j) h) (λ j. rw (k, j) (and_from _ _ e h)))

pub in_range_without : (f : Fact) (xs : List Fact) → all_in_range xs ≡ true → all_in_range (without_fact f xs) ≡ true
in_range_without f [] h = refl
in_range_without f (x ∷ xs) h =
    let rest = in_range_without f xs (and_parts _ _ h).1 in
    by_bool (same f x) (λ j. rw j rest) (λ j. rw j (and_from _ _ (and_parts _ _ h).0 rest))

pub in_range_held : (f : Fact) (xs : List Fact) → all_in_range xs ≡ true → holds f xs ≡ true → in_range f ≡ true
in_range_held f [] h m = absurd (both_ways false refl m)
in_range_held f (x ∷ xs) h m =
    by_bool (same f x) (λ j. rw (same_eq f x j) (and_parts _ _ h).0) (λ j. in_range_held f xs (and_parts _ _ h).1 (rw j at m))

-- ---- the walk

before_not_at : (s x : Fact) → before x s ≡ true → at_or_after s x ≡ false
unfolding at_or_after
before_not_at s x e = rw e (and_right (x.relation == s.relation) false refl)

is_at : (s x : Fact) → before x s ≡ false → (x.relation == s.relation) ≡ true → at_or_after s x ≡ true
unfolding at_or_after
is_at s x e q = rw (e, q)

other_not_at : (s x : Fact) → (x.relation == s.relation) ≡ false → at_or_after s x ≡ false
unfolding at_or_after
other_not_at s x q = rw q

-- past a fact of a later relation, no fact of the relation is left
later_relation : (s x y : Fact) → before x s ≡ false → (x.relation == s.relation) ≡ false → before x y ≡ true → (y.relation == s.relation) ≡ false
unfolding before
later_relation s x y e q h = grind (arith, nat_tests)

none_later : (s x : Fact) (xs : List Fact) → before x s ≡ false → (x.relation == s.relation) ≡ false → before_all x xs ≡ true → first_from s xs ≡ None
none_later s x [] e q h = refl
none_later s x (y ∷ ys) e q h =
    let n : at_or_after s y ≡ false = other_not_at s y (later_relation s x y e q (and_parts _ _ h).0) in
    rw n (none_later s x ys e q (and_parts _ _ h).1)

-- ---- what stands at a fact's place

pub nth_is : (xs : List Fact) (n : ℕ) (x : Fact) → slice_get xs n ≡ Some x → x ≡ slice_index_or xs n x
nth_is xs n x e = sym (get_or_from_slice_get xs n x x e)

pub nth_none : (xs : List Fact) (n : ℕ) → slice_get xs n ≡ None → n < length xs → ⊥
nth_none xs n e l = ⊎_elim (λ p. none-some p.0 (sym e ∙ p.2)) (λ p. omega (arith, p.0)) (slice_get_cases xs n).1

first_here : (s : Fact) (xs : List Fact) → rising xs ≡ true → first_from s xs ≡ of_start s (slice_get xs (position s xs))
first_here s [] r = refl
first_here s (x ∷ xs) r =
    by_bool (before x s)
    (λ k.
    let n : at_or_after s x ≡ false = before_not_at s x k in
    rw (k, n) (first_here s xs (and_parts _ _ r).1))
    (λ k.
    by_bool (x.relation == s.relation)
    (λ q. let n : at_or_after s x ≡ true = is_at s x k q in rw (k, n, q))
    (λ q. let n : at_or_after s x ≡ false = other_not_at s x q in rw (k, n, q) (none_later s x xs k q (and_parts _ _ r).0)))

pub place : (f : Fact) (xs : List Fact) (n : ℕ) → rising xs ≡ true → n ≡ position f xs → Place f xs n
place f xs n r e = rw e (record { is = refl; first = first_here f xs r })

pub found_at : (f : Fact) (xs : List Fact) (n : ℕ) (x : Fact) → rising xs ≡ true → n ≡ position f xs → slice_get xs n ≡ Some x → same f x ≡ true → FoundAt f xs n
found_at f xs n x r e g s =
    let g' : slice_get xs (position f xs) ≡ Some x = rw e at g in
    let l : position f xs < length xs = slice_get_within xs (position f xs) x g' in
    let s' : same f (slice_index_or xs (position f xs) x) ≡ true = subst (λ (y : Fact). same f y ≡ true) (nth_is xs (position f xs) x g') s in
    let h = holds_at f xs x l s' in
    rw e (record {
      within = l;
      held = h;
      stays = with_present f xs r h;
      out = without_at f xs x r l s';
    })

pub absent_here : (f : Fact) (xs : List Fact) (n : ℕ) (d : Fact) → rising xs ≡ true → n ≡ position f xs → (n < length xs → same f (slice_index_or xs n d) ≡ false) → AbsentAt f xs n
absent_here f xs n d r e s =
    let h = absent_at f xs d r (rw e at s) in
    rw e (record {
      within = position_le f xs;
      missing = h;
      stays = without_absent f xs h;
      into = with_absent f xs d (rw e at s);
    })

-- ---- what the library's searches answer

rising_at : (xs : List Fact) (i j : ℕ) (d : Fact) → rising xs ≡ true → i < j → j < length xs → before (slice_index_or xs i d) (slice_index_or xs j d) ≡ true
rising_at [] i j d r l h = absurd (not-suc-le-zero h)
rising_at (x ∷ xs) i zero d r l h = absurd (not-suc-le-zero l)
rising_at (x ∷ xs) zero (suc j) d r l h = before_all_getD x xs j d (le_of_suc-le-suc h) (and_parts _ _ r).0
rising_at (x ∷ xs) (suc i) (suc j) d r l h = rising_at xs i j d (and_parts _ _ r).1 (le_of_suc-le-suc l) (le_of_suc-le-suc h)

-- the facts below i come before f, and the one at i does not
position_at : (f : Fact) (xs : List Fact) (i : ℕ) → i ≤ length xs → ((k : ℕ) → k < i → before (slice_index_or xs k f) f ≡ true) → (i < length xs → before (slice_index_or xs i f) f ≡ false) → i ≡ position f xs
position_at f [] i l low high = omega arith
position_at f (x ∷ xs) zero l low high = let n : before x f ≡ false = high (suc-le-suc zero-le) in rw n
position_at f (x ∷ xs) (suc i) l low high =
    let k : before x f ≡ true = low 0 (suc-le-suc zero-le) in
    rw k (ap suc (position_at f xs i (le_of_suc-le-suc l) (λ k h. low (suc k) (suc-le-suc h)) (λ h. high (suc-le-suc h))))

pub partitioned : (f : Fact) (xs : List Fact) → rising xs ≡ true → IsPartitionedBy (λ y. before y f) xs
partitioned f xs r i j d l h e =
    ⊎_elim (λ q. rw q e) (λ n. before_trans _ _ f (rising_at xs i j d r (grind arith) h) e) (cases_eq i j)

pub place_of_point : (f : Fact) (xs : List Fact) (i : ℕ) → rising xs ≡ true → i ≤ length xs → IsPartitionPoint (λ y. before y f ≡ true) (λ y. before y f ≡ false) xs i → Place f xs i
place_of_point f xs i r l p = place f xs i r (position_at f xs i l (λ k h. p.0 k f zero-le h) (λ h. p.1 i f (le_refl i) h))

-- the order that `Fact` derives
abbrev pub fact_cmp : Fact → Fact → Ordering
fact_cmp a b = ordering_then (nat_cmp a.relation b.relation) (ordering_then (nat_cmp a.key b.key) (int_cmp a.value b.value))

fact_cmp_total : IsTotalOrder fact_cmp
fact_cmp_total = then_total (on_total (λ (x : Fact). x.relation) nat_cmp_total) (then_total (on_total (λ (x : Fact). x.key) nat_cmp_total) (on_total (λ (x : Fact). x.value) int_cmp_total))

is_lt_before : (a b : Fact) → is_lt (fact_cmp a b) ≡ before a b
unfolding before
is_lt_before a b = grind (arith, nat_tests, ints)

pub lt_before : (a b : Fact) → partial_lt FactPartialOrd.partial_cmp-value.it a b ≡ before a b
unfolding before
lt_before a b = grind (arith, nat_tests, ints)

less_before : (a b : Fact) → fact_cmp a b ≡ Less → before a b ≡ true
less_before a b e = sym (is_lt_before a b) ∙ ap is_lt e

greater_before : (a b : Fact) → fact_cmp a b ≡ Greater → before b a ≡ true
greater_before a b e = sym (is_lt_before b a) ∙ ap is_lt (fact_cmp_total.antisymm b a ∙ ap ordering_reverse e)

equal_is : (a b : Fact) → fact_cmp a b ≡ Equal → a ≡ b
equal_is a b e =
    before_connex a b (sym (is_lt_before a b) ∙ ap is_lt e)
    (sym (is_lt_before b a) ∙ ap is_lt (fact_cmp_total.antisymm b a ∙ ap ordering_reverse e))

searchable : (f : Fact) (xs : List Fact) → rising xs ≡ true → IsNonDecreasingBy (λ y. ordering_index (fact_cmp y f)) xs
searchable f xs r =
    searchable_from_sorted fact_cmp_total (λ x. x) xs f
    (λ k d _ h. is_lt_before _ _ ∙ before_asym _ _ (rising_at xs k (k + 1) d r (omega arith) h))

found_where : (f : Fact) (xs : List Fact) (n : ℕ) → rising xs ≡ true → n < length xs → slice_index_or xs n f ≡ f → FoundAt f xs n
found_where f xs n r l e =
    let p : n ≡ position f xs = position_at f xs n (omega arith)
    (λ k h. subst (λ (x : Fact). before (slice_index_or xs k f) x ≡ true) e (rising_at xs k n f r h l))
    (λ _. subst (λ (x : Fact). before x f ≡ false) (sym e) (before_irrefl f)) in
    found_at f xs n f r p (slice_get-get_or xs n f l ∙ ap Some e) (same_refl f)

absent_at_place : (f : Fact) (xs : List Fact) (n : ℕ) → rising xs ≡ true → n ≤ length xs → IsPartitionPoint (λ y. fact_cmp y f ≡ Less) (λ y. fact_cmp y f ≡ Greater) xs n → AbsentAt f xs n
absent_at_place f xs n r l at =
    let after : n < length xs → before f (slice_index_or xs n f) ≡ true = λ h. greater_before _ f (at.1 n f (le_refl n) h) in
    let p : n ≡ position f xs = position_at f xs n l (λ k h. less_before _ f (at.0 k f zero-le h)) (λ h. before_asym f _ (after h)) in
    absent_here f xs n f r p (λ h. before_not_same f _ (after h))

pub searched : (f : Fact) (xs : List Fact) (r : Result ℕ ℕ) → rising xs ≡ true → IsSearchInRange r (length xs) → IsBinarySearchResult (λ y. fact_cmp y f) xs r → MatchResult r (FoundAt f xs) (AbsentAt f xs)
searched f xs (Ok n) r l at = found_where f xs n r l (equal_is _ f (at f))
searched f xs (Err n) r l at = absent_at_place f xs n r l (at (searchable f xs r))
