-- Two kinds with a relation that the operations respect, and two records of which the second begins with the states
-- of the first: the values of a formula are related too.
use Rattle.std.proofs.Common.{◌≡◌, ℕ, zero, suc, ◌-◌, ◌<◌, ◌≤◌, Bool, true, false, cond, leb, ◌⊎◌, refl, subst, ⊎_elim, arith}
use native.Mathlib.Decide.{le_ind}
use Rattle.std.proofs.lemmas.Bool.{lt-ltb, le-ltb, cases_lt, cases_Bool, and_right}
use Rattle.truth.specs.Kinds.{Kind, Laws}
use Rattle.syntax.specs.Formula.{Formula}
use Rattle.syntax.specs.declared.Window.{Window}
use Rattle.syntax.specs.Formula.Formula.{Truth, Query, Not, And, Or, Implies, Next, AllNext, Sometime, Always, Until, Previous, Once, SoFar, Since}
use Rattle.eval.specs.Truth.{any, all, Record, count, stamp, closed, within, future, past, mark, sometime, until, next, since, previous, value}
use Rattle.eval.proofs.Theorems.{Rising, Begins}
use Rattle.eval.proofs.Stamps.{rising_le, closed_far, closed_out}

pub record Respects {K L : Type 0} (k : Kind K) (l : Kind L) (R : K → L → Type 0) : Type 0 where
  pub yes : R k.yes l.yes
  pub no : R k.no l.no
  pub and : (x x' : K) (y y' : L) → R x y → R x' y' → R (k.and x x') (l.and y y')
  pub or : (x x' : K) (y y' : L) → R x y → R x' y' → R (k.or x x') (l.or y y')
  pub not : (x : K) (y : L) → R x y → R (k.not x) (l.not y)

-- what is used of a kind besides: no absorbs under and, and a value or itself is that value
pub record Absorbs {K : Type 0} (k : Kind K) : Type 0 where
  pub and_no : (x : K) → k.and x k.no ≡ k.no
  pub or_self : (x : K) → k.or x x ≡ x

module _ {K L : Type 0} (k : Kind K) (l : Kind L) (R : K → L → Type 0) (s : Respects k l R) where
  pub cond_related : (b : Bool) (x x' : K) (y y' : L) → (b ≡ true → R x y) → R x' y' → R (cond b x x') (cond b y y')
  cond_related true x x' y y' h h' = h refl
  cond_related false x x' y y' h h' = h'

  pub any_related : (n : ℕ) (p q : ℕ → Bool) (f : ℕ → K) (g : ℕ → L) → ((j : ℕ) → j < n → p j ≡ q j) → ((j : ℕ) → j < n → q j ≡ true → R (f j) (g j)) → R (any k n p f) (any l n q g)
  any_related zero p q f g e h = s.no
  any_related (suc n) p q f g e h =
      s.or _ _ _ _
      (any_related n p q f g (λ j lt. e j (omega arith)) (λ j lt. h j (omega arith)))
      (rw (e n (omega arith)) (cond_related (q n) (f n) k.no (g n) l.no (h n (omega arith)) s.no))

  pub all_related : (n : ℕ) (p : ℕ → Bool) (f : ℕ → K) (g : ℕ → L) → ((j : ℕ) → j < n → p j ≡ true → R (f j) (g j)) → R (all k n p f) (all l n p g)
  all_related zero p f g h = s.yes
  all_related (suc n) p f g h =
      s.and _ _ _ _
      (all_related n p f g (λ j lt. h j (omega arith)))
      (cond_related (p n) (f n) k.yes (g n) l.yes (h n (omega arith)) s.yes)

  module _ (ak : Absorbs k) (al : Absorbs l) (ll : Laws l) where
    -- the or over more states: x, or'ed in on the left, is related to each term that the right has gained
    pub any_grow :
        (n m : ℕ) → n ≤ m → (p q : ℕ → Bool) (f : ℕ → K) (g : ℕ → L)
        → ((j : ℕ) → j < n → p j ≡ q j) → ((j : ℕ) → j < n → q j ≡ true → R (f j) (g j))
        → (x : K) → ((j : ℕ) → n ≤ j → j < m → R x (cond (q j) (g j) l.no))
        → (y : L) → R x y → R (k.or (any k n p f) x) (l.or (any l m q g) y)
    any_grow n m le p q f g e h x out = le_ind P (λ _ y xy. s.or _ _ _ _ (any_related n p q f g e h) xy) step m le (omega arith)
      where
        P : ℕ → Type 0
        P v = v ≤ m → (y : L) → R x y → R (k.or (any k n p f) x) (l.or (any l v q g) y)

        step : (v : ℕ) → n ≤ v → P v → P (suc v)
        step v nv ih vm y xy =
            let t : L = cond (q v) (g v) l.no in
            rw (ll.or_assoc (any l v q g) t y)
            (ih (omega arith) (l.or t y) (rw (ak.or_self x) at (s.or x x t y (out v nv vm) xy)))

    -- the and over more states, together with a value o that is related to everything
    pub all_grow :
        (n m : ℕ) → n ≤ m → (p : ℕ → Bool) (f : ℕ → K) (g : ℕ → L)
        → ((j : ℕ) → j < n → p j ≡ true → R (f j) (g j))
        → (o : K) → ((y : L) → R o y) → (y : L) → R (k.and (all k n p f) o) (l.and (all l m p g) y)
    all_grow n m le p f g h o free = le_ind P (λ y. s.and _ _ _ _ (all_related n p f g h) (free y)) step m le
      where
        P : ℕ → Type 0
        P v = (y : L) → R (k.and (all k n p f) o) (l.and (all l v p g) y)

        step : (v : ℕ) → n ≤ v → P v → P (suc v)
        step v nv ih y =
            let t : L = cond (p v) (g v) l.yes in
            rw (ll.and_assoc (all l v p g) t y) (ih (l.and t y))

    -- The two records.
    module _ (r : Record K) (t : Record L) (begins : Begins R r t) (opens : R r.pending t.pending) (growth : (count r ≡ count t) ⊎ (Rising t × ((y : L) → R r.pending y))) where
      stamp_same : (i : ℕ) → i < count r → stamp t i ≡ stamp r i
      stamp_same i lt = (begins.1 i lt).0

      future_same : (w : Window) (i j : ℕ) → i < count r → j < count r → future k r w i j ≡ future l t w i j
      future_same w i j li lj = rw (stamp_same i li, stamp_same j lj)

      past_same : (w : Window) (i j : ℕ) → i < count r → j < count r → past k r w i j ≡ past l t w i j
      past_same w i j li lj = rw (stamp_same i li, stamp_same j lj)

      -- How the open marks of state i compare: both are no, and no later state is in the window; or no state has
      -- come; or the first is related to everything.
      data Marks (w : Window) (i : ℕ) : Type 0 where
        Shut : mark k r w i ≡ k.no → mark l t w i ≡ l.no → ((j : ℕ) → count r ≤ j → j < count t → future l t w i j ≡ false) → Marks w i
        Same : count r ≡ count t → R (mark k r w i) (mark l t w i) → Marks w i
        Free : ((y : L) → R (mark k r w i) y) → Marks w i

      marks_of : (w : Window) (i : ℕ) → i < count r → Marks w i
      marks_of w i li = ⊎_elim same grown growth
        where
          here : stamp t i ≡ stamp r i
          here = stamp_same i li

          there : stamp t (count r - 1) ≡ stamp r (count r - 1)
          there = stamp_same (count r - 1) (omega arith)

          distance : ℕ
          distance = stamp r (count r - 1) - stamp r i

          same : count r ≡ count t → Marks w i
          same e =
              let ends : stamp t (count t - 1) ≡ stamp r (count r - 1) = rw (← e) there in
              Same e (rw (ends, here) (cond_related (closed w.high distance) _ _ _ _ (λ _. s.no) opens))

          grown : Rising t × ((y : L) → R r.pending y) → Marks w i
          grown (up, free) = ⊎_elim shut (λ c. Free (λ y. rw c (free y))) (cases_Bool (closed w.high distance))
            where
              shut : closed w.high distance ≡ true → Marks w i
              shut c =
                  let le = rising_le t up i (count r - 1) (omega arith) (omega (arith, begins.0)) in
                  let later = rising_le t up (count r - 1) (count t - 1) (omega (arith, begins.0)) (omega (arith, begins.0)) in
                  let far : distance ≤ stamp t (count t - 1) - stamp t i = omega (arith, here, there) in
                  Shut (rw c) (rw (closed_far w.high _ _ c far))
                  (λ j nj jm.
                  let beyond = up (count r - 1) j (omega arith) jm in
                  and_right (leb i j) (within w (stamp t j - stamp t i)) (closed_out w _ _ c (omega (arith, here, there))))

      marks_related : (w : Window) (i : ℕ) → i < count r → R (mark k r w i) (mark l t w i)
      marks_related w i li = go (marks_of w i li)
        where
          go : Marks w i → R (mark k r w i) (mark l t w i)
          go (Shut a b c) = rw (a, b) s.no
          go (Same e h) = h
          go (Free h) = h _

      -- the mark stands for each state that may come
      mark_covers : (w : Window) (i : ℕ) → i < count r → (g : ℕ → L) (j : ℕ) → count r ≤ j → j < count t → R (mark k r w i) (cond (future l t w i j) (g j) l.no)
      mark_covers w i li g j nj jm = go (marks_of w i li)
        where
          go : Marks w i → R (mark k r w i) (cond (future l t w i j) (g j) l.no)
          go (Shut a b c) = rw (a, c j nj jm) s.no
          go (Same e h) = absurd (omega arith)
          go (Free h) = h _

      -- The operators, over operands whose values are related at each state of the first record.
      Operands : (ℕ → K) → (ℕ → L) → Type 0
      Operands f g = (j : ℕ) → j < count r → R (f j) (g j)

      sometime_related : (w : Window) (f : ℕ → K) (g : ℕ → L) → Operands f g → Operands (sometime k r w f) (sometime l t w g)
      unfolding Operands
      sometime_related w f g h i li =
          any_grow (count r) (count t) begins.0 _ _ f g (λ j lj. future_same w i j li lj) (λ j lj _. h j lj)
          (mark k r w i) (mark_covers w i li g) (mark l t w i) (marks_related w i li)

      next_related : (w : Window) (f : ℕ → K) (g : ℕ → L) → Operands f g → Operands (next k r w f) (next l t w g)
      unfolding Operands
      next_related w f g h i li = ⊎_elim inside edge (cases_lt (suc i) (count r))
        where
          inside : suc i < count r → R (next k r w f i) (next l t w g i)
          inside lt =
              rw (lt-ltb (suc i) (count r) lt, lt-ltb (suc i) (count t) (omega (arith, begins.0)), future_same w i (suc i) li lt)
              (cond_related (future l t w i (suc i)) (f (suc i)) k.no (g (suc i)) l.no (λ _. h (suc i) lt) s.no)

          edge : count r ≤ suc i → R (next k r w f i) (next l t w g i)
          edge le =
              ⊎_elim
              (λ lt. rw (le-ltb (suc i) (count r) le, lt-ltb (suc i) (count t) lt) (mark_covers w i li g (suc i) le lt))
              (λ none. rw (le-ltb (suc i) (count r) le, le-ltb (suc i) (count t) none) (marks_related w i li))
              (cases_lt (suc i) (count t))

      until_related : (w : Window) (f f' : ℕ → K) (g g' : ℕ → L) → Operands f g → Operands f' g' → Operands (until k r w f f') (until l t w g g')
      unfolding Operands
      until_related w f f' g g' h h' i li =
          any_grow (count r) (count t) begins.0 _ _ _ _ (λ j lj. future_same w i j li lj)
          (λ j lj _. s.and _ _ _ _ (h' j lj) (all_related j _ f g (λ m lm _. h m (omega arith))))
          (k.and so_far (mark k r w i)) (λ j nj jm. covers j nj jm (marks_of w i li))
          (l.and (all l (count t) from g) (mark l t w i)) (ends (marks_of w i li))
        where
          from : ℕ → Bool
          from m = leb i m

          so_far : K
          so_far = all k (count r) from f

          so-far' : L
          so-far' = all l (count r) from g

          so-far-related : R so_far so-far'
          so-far-related = all_related (count r) from f g (λ j lj _. h j lj)

          term : ℕ → L
          term j = l.and (g' j) (all l j from g)

          ends : Marks w i → R (k.and so_far (mark k r w i)) (l.and (all l (count t) from g) (mark l t w i))
          ends (Shut a b c) = rw (a, b, ak.and_no so_far, al.and_no (all l (count t) from g)) s.no
          ends (Same e m) = subst (λ (n : ℕ). R (k.and so_far (mark k r w i)) (l.and (all l n from g) (mark l t w i))) e (s.and _ _ _ _ so-far-related m)
          ends (Free m) = all_grow (count r) (count t) begins.0 from f g (λ j lj _. h j lj) (mark k r w i) m (mark l t w i)

          chosen : (b : Bool) (j : ℕ) → count r ≤ j → ((y : L) → R (mark k r w i) y) → R (k.and so_far (mark k r w i)) (cond b (term j) l.no)
          chosen true j nj m = rw (ll.and_comm (g' j) (all l j from g)) (all_grow (count r) j nj from f g (λ j lj _. h j lj) (mark k r w i) m (g' j))
          chosen false j nj m = rw (al.and_no so-far') at (s.and so_far (mark k r w i) so-far' l.no so-far-related (m l.no))

          covers : (j : ℕ) → count r ≤ j → j < count t → Marks w i → R (k.and so_far (mark k r w i)) (cond (future l t w i j) (term j) l.no)
          covers j nj jm (Shut a b c) = rw (a, c j nj jm, ak.and_no so_far) s.no
          covers j nj jm (Same e m) = absurd (omega arith)
          covers j nj jm (Free m) = chosen (future l t w i j) j nj m

      since_related : (w : Window) (f f' : ℕ → K) (g g' : ℕ → L) → Operands f g → Operands f' g' → Operands (since k r w f f') (since l t w g g')
      unfolding Operands
      since_related w f f' g g' h h' i li =
          any_related (suc i) _ _ _ _ (λ j lj. past_same w i j li (omega arith))
          (λ j lj _. s.and _ _ _ _ (h' j (omega arith)) (all_related (suc i) _ f g (λ m lm _. h m (omega arith))))

      previous_related : (w : Window) (f : ℕ → K) (g : ℕ → L) → Operands f g → Operands (previous k r w f) (previous l t w g)
      unfolding Operands
      previous_related w f g h zero li = s.no
      previous_related w f g h (suc i) li =
          rw (past_same w (suc i) i li (omega arith)) (cond_related (past l t w (suc i) i) (f i) k.no (g i) l.no (λ _. h i (omega arith)) s.no)

      negated_related : (f : ℕ → K) (g : ℕ → L) → Operands f g → Operands (λ i. k.not (f i)) (λ i. l.not (g i))
      unfolding Operands
      negated_related f g h i li = s.not _ _ (h i li)

      pub related : (f : Formula) (i : ℕ) → i < count r → R (value k r f i) (value l t f i)
      unfolding Operands
      related Truth i li = s.yes
      related (Query m) i li = (begins.1 i li).1 m
      related (Not f) i li = s.not _ _ (related f i li)
      related (And f g) i li = s.and _ _ _ _ (related f i li) (related g i li)
      related (Or f g) i li = s.or _ _ _ _ (related f i li) (related g i li)
      related (Implies f g) i li = s.or _ _ _ _ (s.not _ _ (related f i li)) (related g i li)
      related (Next w f) i li = next_related w _ _ (related f) i li
      related (AllNext w f) i li = s.not _ _ (next_related w _ _ (negated_related _ _ (related f)) i li)
      related (Sometime w f) i li = sometime_related w _ _ (related f) i li
      related (Always w f) i li = s.not _ _ (sometime_related w _ _ (negated_related _ _ (related f)) i li)
      related (Until w f g) i li = until_related w _ _ _ _ (related f) (related g) i li
      related (Previous w f) i li = previous_related w _ _ (related f) i li
      related (Once w f) i li = since_related w _ _ _ _ (λ _ _. s.yes) (related f) i li
      related (SoFar w f) i li = s.not _ _ (since_related w _ _ _ _ (λ _ _. s.yes) (negated_related _ _ (related f)) i li)
      related (Since w f g) i li = since_related w _ _ _ _ (related f) (related g) i li
