-- A value is decided once the last stamp has come as far as the reach.
use Rattle.std.proofs.Common.{◌≡◌, ℕ, zero, suc, ◌+◌, ◌-◌, ◌<◌, ◌≤◌, Bool, true, false, cond, ltb, leb, Some, None, Option, sym, refl, subst, ⊎_elim, true≢false, arith}
use Rattle.std.proofs.lemmas.Bool.{leb-true, le-leb, lt-ltb, le-ltb, cases_lt, and_parts, or_parts}
use Rattle.truth.specs.Kinds.{Kind}
use Rattle.truth.specs.Kleene.{three, Definite}
use Rattle.syntax.specs.Formula.{Formula, reach, ahead, greater, plus}
use Rattle.syntax.specs.declared.Window.{Window}
use Rattle.syntax.specs.Formula.Formula.{Truth, Query, Not, And, Or, Implies, Next, AllNext, Sometime, Always, Until, Previous, Once, SoFar, Since}
use Rattle.eval.specs.Truth.{any, all, Record, count, stamp, below, closed, within, future, past, mark, sometime, until, next, since, previous, value}
use Rattle.eval.proofs.Theorems.{Rising, Decidedness, PastDefinite}
use Rattle.eval.proofs.Stamps.{rising_le}
use Rattle.eval.proofs.Related.{Respects, Absorbs, cond_related, any_related, all_related}
use Rattle.eval.proofs.Growing.{three_absorbs, settled_respects}

-- The stamp x and a reach, at most the last stamp.
abbrev pub Covered : ℕ → Option ℕ → ℕ → Type 0
Covered last None x = ⊥
Covered last (Some d) x = x + d ≤ last

covered_left : (last : ℕ) (o p : Option ℕ) (x : ℕ) → Covered last (greater o p) x → Covered last o x
covered_left last None None x h = h
covered_left last None (Some e) x h = h
covered_left last (Some d) None x h = absurd h
covered_left last (Some d) (Some e) x h = omega arith

covered_right : (last : ℕ) (o p : Option ℕ) (x : ℕ) → Covered last (greater o p) x → Covered last p x
covered_right last None None x h = h
covered_right last None (Some e) x h = absurd h
covered_right last (Some d) None x h = h
covered_right last (Some d) (Some e) x h = omega arith

covered_back : (last : ℕ) (o : Option ℕ) (x y : ℕ) → y ≤ x → Covered last o x → Covered last o y
covered_back last None x y le h = h
covered_back last (Some d) x y le h = omega arith

-- a stamp within the bound has the operand's reach covered, and the window is closed
covered_within : (last : ℕ) (b : Option ℕ) (o : Option ℕ) (x y : ℕ) → below b (y - x) ≡ true → Covered last (plus b o) x → Covered last o y
covered_within last None None x y i h = h
covered_within last None (Some d) x y i h = absurd h
covered_within last (Some b) None x y i h = h
covered_within last (Some b) (Some d) x y i h = omega (arith, leb-true (y - x) b i)

covered_closed : (last : ℕ) (b : Option ℕ) (o : Option ℕ) (x : ℕ) → Covered last (plus b o) x → closed b (last - x) ≡ true
covered_closed last None None x h = absurd h
covered_closed last None (Some d) x h = absurd h
covered_closed last (Some b) None x h = absurd h
covered_closed last (Some b) (Some d) x h = le-leb b (last - x) (omega arith)

-- D is any property of truth values that the operations keep.
module _ {K : Type 0} (k : Kind K) (D : K → Type 0) (s : Respects k k (λ x y. D x)) (r : Record K) (leaves : (i m : ℕ) → i < count r → D (r.leaf i m)) where
  keeps_and : (x y : K) → D x → D y → D (k.and x y)
  keeps_and x y d e = s.and x y x y d e

  keeps_or : (x y : K) → D x → D y → D (k.or x y)
  keeps_or x y d e = s.or x y x y d e

  keeps_not : (x : K) → D x → D (k.not x)
  keeps_not x d = s.not x x d

  keeps_cond : (b : Bool) (x y : K) → (b ≡ true → D x) → D y → D (cond b x y)
  keeps_cond b x y d e = cond_related k k (λ x y. D x) s b x y x y d e

  keeps_any : (n : ℕ) (p : ℕ → Bool) (f : ℕ → K) → ((j : ℕ) → j < n → p j ≡ true → D (f j)) → D (any k n p f)
  keeps_any n p f h = any_related k k (λ x y. D x) s n p p f f (λ j lj. refl) h

  keeps_all : (n : ℕ) (p : ℕ → Bool) (f : ℕ → K) → ((j : ℕ) → j < n → p j ≡ true → D (f j)) → D (all k n p f)
  keeps_all n p f h = all_related k k (λ x y. D x) s n p f f h

  -- the past operators look at states up to i alone
  keeps_since : (w : Window) (f g : ℕ → K) (i : ℕ) → ((j : ℕ) → j ≤ i → D (f j)) → ((j : ℕ) → j ≤ i → D (g j)) → D (since k r w f g i)
  keeps_since w f g i h h' =
      keeps_any (suc i) (past k r w i) _
      (λ j lj _. keeps_and _ _ (h' j (omega arith)) (keeps_all (suc i) (λ m. ltb j m) f (λ m lm _. h m (omega arith))))

  keeps_previous : (w : Window) (f : ℕ → K) (i : ℕ) → ((j : ℕ) → j ≤ i → D (f j)) → D (previous k r w f i)
  keeps_previous w f zero h = s.no
  keeps_previous w f (suc i) h = keeps_cond (past k r w (suc i) i) _ _ (λ _. h i (omega arith)) s.no

  -- a formula without a future operator
  pub settled_past : (f : Formula) → ahead f ≡ false → (i : ℕ) → i < count r → D (value k r f i)
  settled_past Truth e i li = s.yes
  settled_past (Query m) e i li = leaves i m li
  settled_past (Not f) e i li = keeps_not _ (settled_past f e i li)
  settled_past (And f g) e i li = keeps_and _ _ (settled_past f (or_parts _ _ e).0 i li) (settled_past g (or_parts _ _ e).1 i li)
  settled_past (Or f g) e i li = keeps_or _ _ (settled_past f (or_parts _ _ e).0 i li) (settled_past g (or_parts _ _ e).1 i li)
  settled_past (Implies f g) e i li =
      keeps_or _ _ (keeps_not _ (settled_past f (or_parts _ _ e).0 i li)) (settled_past g (or_parts _ _ e).1 i li)
  settled_past (Next w f) e i li = absurd (true≢false e)
  settled_past (AllNext w f) e i li = absurd (true≢false e)
  settled_past (Sometime w f) e i li = absurd (true≢false e)
  settled_past (Always w f) e i li = absurd (true≢false e)
  settled_past (Until w f g) e i li = absurd (true≢false e)
  settled_past (Previous w f) e i li = keeps_previous w _ i (λ j le. settled_past f e j (omega arith))
  settled_past (Once w f) e i li = keeps_since w _ _ i (λ _ _. s.yes) (λ j le. settled_past f e j (omega arith))
  settled_past (SoFar w f) e i li = keeps_not _ (keeps_since w _ _ i (λ _ _. s.yes) (λ j le. keeps_not _ (settled_past f e j (omega arith))))
  settled_past (Since w f g) e i li =
      keeps_since w _ _ i (λ j le. settled_past f (or_parts _ _ e).0 j (omega arith)) (λ j le. settled_past g (or_parts _ _ e).1 j (omega arith))

  module _ (ak : Absorbs k) (up : Rising r) where
    -- the reach o is covered at state i; D holds of f wherever that is so
    abbrev At : Option ℕ → ℕ → Type 0
    At o i = Covered (stamp r (count r - 1)) o (stamp r i)

    abbrev Decided : Option ℕ → (ℕ → K) → Type 0
    Decided o f = (j : ℕ) → j < count r → At o j → D (f j)

    mark_closed : (w : Window) (o : Option ℕ) (i : ℕ) → At (plus w.high o) i → mark k r w i ≡ k.no
    mark_closed w o i c = rw (covered_closed (stamp r (count r - 1)) w.high o (stamp r i) c)

    in_window : (w : Window) (o : Option ℕ) (i j : ℕ) → future k r w i j ≡ true → At (plus w.high o) i → At o j
    in_window w o i j e c =
        let parts = and_parts (leb i j) (within w (stamp r j - stamp r i)) e in
        let b = and_parts (leb w.low (stamp r j - stamp r i)) (below w.high (stamp r j - stamp r i)) parts.1 in
        covered_within _ w.high o (stamp r i) (stamp r j) b.1 c

    back : (o : Option ℕ) (i j : ℕ) → j ≤ i → i < count r → At o i → At o j
    back o i j le lt c = covered_back _ o (stamp r i) (stamp r j) (rising_le r up j i le lt) c

    sometime_decided : (w : Window) (o : Option ℕ) (f : ℕ → K) → Decided o f → Decided (plus w.high o) (sometime k r w f)
    sometime_decided w o f h i li c =
        keeps_or _ _ (keeps_any (count r) (future k r w i) f (λ j lj e. h j lj (in_window w o i j e c))) (rw (mark_closed w o i c) s.no)

    next_decided : (w : Window) (o : Option ℕ) (f : ℕ → K) → Decided o f → Decided (plus w.high o) (next k r w f)
    next_decided w o f h i li c =
        ⊎_elim
        (λ lt. rw (lt-ltb (suc i) (count r) lt) (keeps_cond (future k r w i (suc i)) _ _ (λ e. h (suc i) lt (in_window w o i (suc i) e c)) s.no))
        (λ le. rw (le-ltb (suc i) (count r) le, mark_closed w o i c) s.no)
        (cases_lt (suc i) (count r))

    until_decided : (w : Window) (o : Option ℕ) (f g : ℕ → K) → Decided o f → Decided o g → Decided (plus w.high o) (until k r w f g)
    until_decided w o f g h h' i li c =
        keeps_or _ _
        (keeps_any (count r) (future k r w i) _
        (λ j lj e.
        let here = in_window w o i j e c in
        keeps_and _ _ (h' j lj here) (keeps_all j (λ m. leb i m) f (λ m lm _. h m (omega arith) (back o j m (omega arith) lj here)))))
        (rw (mark_closed w o i c, ak.and_no (all k (count r) (λ m. leb i m) f)) s.no)

    since_decided : (w : Window) (o : Option ℕ) (f g : ℕ → K) → Decided o f → Decided o g → Decided o (since k r w f g)
    since_decided w o f g h h' i li c =
        keeps_since w f g i (λ j le. h j (omega arith) (back o i j le li c)) (λ j le. h' j (omega arith) (back o i j le li c))

    previous_decided : (w : Window) (o : Option ℕ) (f : ℕ → K) → Decided o f → Decided o (previous k r w f)
    previous_decided w o f h i li c = keeps_previous w f i (λ j le. h j (omega arith) (back o i j le li c))

    negated_decided : (o : Option ℕ) (f : ℕ → K) → Decided o f → Decided o (λ i. k.not (f i))
    negated_decided o f h i li c = keeps_not _ (h i li c)

    first : (o p : Option ℕ) (f : ℕ → K) → Decided o f → Decided (greater o p) f
    first o p f h j lj c = h j lj (covered_left _ o p (stamp r j) c)

    second : (o p : Option ℕ) (f : ℕ → K) → Decided p f → Decided (greater o p) f
    second o p f h j lj c = h j lj (covered_right _ o p (stamp r j) c)

    pub decided : (f : Formula) → Decided (reach f) (value k r f)
    decided Truth i li c = s.yes
    decided (Query m) i li c = leaves i m li
    decided (Not f) i li c = keeps_not _ (decided f i li c)
    decided (And f g) i li c = keeps_and _ _ (first (reach f) (reach g) _ (decided f) i li c) (second (reach f) (reach g) _ (decided g) i li c)
    decided (Or f g) i li c = keeps_or _ _ (first (reach f) (reach g) _ (decided f) i li c) (second (reach f) (reach g) _ (decided g) i li c)
    decided (Implies f g) i li c = keeps_or _ _ (keeps_not _ (first (reach f) (reach g) _ (decided f) i li c)) (second (reach f) (reach g) _ (decided g) i li c)
    decided (Next w f) i li c = next_decided w (reach f) _ (decided f) i li c
    decided (AllNext w f) i li c = keeps_not _ (next_decided w (reach f) _ (negated_decided (reach f) _ (decided f)) i li c)
    decided (Sometime w f) i li c = sometime_decided w (reach f) _ (decided f) i li c
    decided (Always w f) i li c = keeps_not _ (sometime_decided w (reach f) _ (negated_decided (reach f) _ (decided f)) i li c)
    decided (Until w f g) i li c =
        until_decided w (greater (reach f) (reach g)) _ _ (first (reach f) (reach g) _ (decided f)) (second (reach f) (reach g) _ (decided g)) i li c
    decided (Previous w f) i li c = previous_decided w (reach f) _ (decided f) i li c
    decided (Once w f) i li c = since_decided w (reach f) _ _ (λ _ _ _. s.yes) (decided f) i li c
    decided (SoFar w f) i li c = keeps_not _ (since_decided w (reach f) _ _ (λ _ _ _. s.yes) (negated_decided (reach f) _ (decided f)) i li c)
    decided (Since w f g) i li c =
        since_decided w (greater (reach f) (reach g)) _ _ (first (reach f) (reach g) _ (decided f)) (second (reach f) (reach g) _ (decided g)) i li c

pub decidedness : Decidedness
decidedness r leaves up f d i e li le =
    decided three Definite settled_respects r leaves three_absorbs up f i li
    (subst (λ (o : Option ℕ). Covered (stamp r (count r - 1)) o (stamp r i)) (sym e) le)

pub past_definite : PastDefinite
past_definite r leaves f i e li = settled_past three Definite settled_respects r leaves f e i li
