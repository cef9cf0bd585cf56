-- One turn of an operator's loop, and what the loop then comes to: d is a distance, t the test, y the value at the state, z what is joined.
use Rattle.std.proofs.Common.{◌≡◌, ℕ, zero, suc, ◌+◌, ◌-◌, ◌<◌, ◌≤◌, Bool, true, false, cond, ◌&&◌, ltb, leb, sym, refl, ap, ◌∙◌, ap₂, arith}
use Rattle.std.proofs.lemmas.Bool.{le-leb, lt-leb, lt-ltb, and_left, and_right, cond-true}
use Rattle.truth.specs.Kinds.{Kind, Laws}
use Rattle.syntax.specs.declared.Window.{Window}
use Rattle.eval.specs.Truth.{any, all, Record, count, stamp, below, within, future, past, mark, sometime, until, next}
use Rattle.eval.specs.Stamps.{rising, span}
use Rattle.eval.proofs.Stamps.{rises_le, beyond_far, beyond_out}
use Rattle.eval.proofs.Folds.{no_or, yes_and, any_stop, any_none, all_none, all_front}

-- a test with a first part that is known
test_true : {K : Type 0} (a b : Bool) (x y : K) → a ≡ true → cond (a && b) x y ≡ cond b x y
test_true true b x y e = refl
test_true false b x y e = cc

module _ {K : Type 0} (k : Kind K) (f g : ℕ → K) (i : ℕ) where
  -- the second operand at j, with the first at every state from i to before j, and at every state after j up to i
  abbrev pub reached : ℕ → K
  reached j = k.and (g j) (all k j (λ m. leb i m) f)

  abbrev pub lasting : ℕ → K
  lasting j = k.and (g j) (all k (suc i) (λ m. ltb j m) f)

-- yes at every state that passes a test
pub kept_yes : {K : Type 0} {k : Kind K} (laws : Laws k) (n : ℕ) (p : ℕ → Bool) → all k n p (λ _. k.yes) ≡ k.yes
kept_yes laws zero p = refl
kept_yes {k = k} laws (suc n) p = ap₂ k.and (kept_yes laws n p) (same (p n)) ∙ laws.and_yes k.yes
  where
    same : (b : Bool) → cond b k.yes k.yes ≡ k.yes
    same true = refl
    same false = refl

module _ {K : Type 0} {k : Kind K} (laws : Laws k) (r : Record K) (w : Window) where
  -- ---- the future window of state i, from i on

  pub future_start : (f : ℕ → K) (i : ℕ) → k.no ≡ any k i (future k r w i) f
  future_start f i = sym (any_none laws i (future k r w i) f (λ j l. and_left (leb i j) _ (lt-leb i j l)))

  pub future_turn : (f : ℕ → K) (i j : ℕ) {d : ℕ} {t : Bool} {x y z q : K} → i ≤ j
      → x ≡ any k j (future k r w i) f
      → d ≡ span r.stamps i j → t ≡ within w d → y ≡ f j → z ≡ cond t y k.no → q ≡ k.or x z
      → q ≡ any k (j + 1) (future k r w i) f
  future_turn f i j {d} {t} {x} {y} {z} h inv pd pt py pz pq =
      let more : j + 1 ≡ suc j = omega arith in
      let here : z ≡ cond (future k r w i j) (f j) k.no =
      pz ∙ (rw (pt, pd, py)) ∙ sym (test_true (leb i j) _ (f j) k.no (le-leb i j h)) in
      pq ∙ ap₂ k.or inv here ∙ ap (λ n. any k n (future k r w i) f) (sym more)

  -- no state past the window's end counts
  pub future_end : (f : ℕ → K) (i j end : ℕ) {x : K} → rising r.stamps ≡ true → j ≤ end → end ≤ j → i ≤ end → end ≤ count r
      → (end < count r → below w.high (span r.stamps i end) ≡ false)
      → x ≡ any k j (future k r w i) f → x ≡ any k (count r) (future k r w i) f
  future_end f i j end up lo hi le ends beyond inv =
      let same : j ≡ end = omega arith in
      inv ∙ ap (λ n. any k n (future k r w i) f) same
      ∙ sym (any_stop laws end (count r) ends (future k r w i) f
      (λ j l h.
      let far = rises_le r.stamps up end j l h in
      and_right (leb i j) _ (beyond_out w _ (beyond_far w.high _ _ (beyond (omega arith)) (omega arith)))))

  -- ---- the first operand of until, from state i on

  pub kept_start : (f : ℕ → K) (i : ℕ) → k.yes ≡ all k i (λ m. leb i m) f
  kept_start f i = sym (all_none laws i (λ m. leb i m) f (λ j l. lt-leb i j l))

  pub kept_turn : (f : ℕ → K) (i j : ℕ) {x y q : K} → i ≤ j → x ≡ all k j (λ m. leb i m) f → y ≡ f j → q ≡ k.and x y
      → q ≡ all k (j + 1) (λ m. leb i m) f
  kept_turn f i j h inv py pq =
      let more : j + 1 ≡ suc j = omega arith in
      pq ∙ ap₂ k.and inv (py ∙ sym (cond-true (leb i j) (f j) k.yes (le-leb i j h))) ∙ ap (λ n. all k n (λ m. leb i m) f) (sym more)

  -- ---- the past window of state i, from i back: x is the or over the states from j on

  abbrev pub Back : (ℕ → K) → ℕ → ℕ → K → Type 0
  Back f i j x = any k (suc i) (past k r w i) f ≡ k.or (any k j (past k r w i) f) x

  pub past_start : (f : ℕ → K) (i : ℕ) → Back f i (i + 1) k.no
  past_start f i =
      let e : suc i ≡ i + 1 = omega arith in
      ap (λ n. any k n (past k r w i) f) e ∙ sym (laws.or_no _)

  pub past_turn : (f : ℕ → K) (i j : ℕ) {d : ℕ} {t : Bool} {x y z q : K} → 0 < j → j ≤ i + 1
      → Back f i j x → d ≡ span r.stamps (j - 1) i → t ≡ within w d → y ≡ f (j - 1) → z ≡ cond t y k.no → q ≡ k.or z x
      → Back f i (j - 1) q
  past_turn f i j {d} {t} {x} {y} {z} p h inv pd pt py pz pq =
      let less : j ≡ suc (j - 1) = omega arith in
      let here : z ≡ cond (past k r w i (j - 1)) (f (j - 1)) k.no =
      pz ∙ (rw (pt, pd, py)) ∙ sym (test_true (leb (j - 1) i) _ (f (j - 1)) k.no (le-leb (j - 1) i (omega arith))) in
      inv ∙ ap (λ n. k.or (any k n (past k r w i) f) x) less
      ∙ laws.or_assoc (any k (j - 1) (past k r w i) f) (cond (past k r w i (j - 1)) (f (j - 1)) k.no) x
      ∙ ap (k.or (any k (j - 1) (past k r w i) f)) (ap (λ v. k.or v x) (sym here) ∙ sym pq)

  -- no state before the window's start counts
  past_none : (f : ℕ → K) (i start : ℕ) → rising r.stamps ≡ true → i < count r → start ≤ i + 1
      → (0 < start → below w.high (span r.stamps (start - 1) i) ≡ false)
      → any k start (past k r w i) f ≡ k.no
  past_none f i start up li le beyond =
      any_none laws start (past k r w i) f
      (λ j l.
      let far = rises_le r.stamps up j (start - 1) (omega arith) (omega arith) in
      and_right (leb j i) _ (beyond_out w _ (beyond_far w.high _ _ (beyond (omega arith)) (omega arith))))

  pub past_end : (f : ℕ → K) (i j start : ℕ) {x : K} → rising r.stamps ≡ true → i < count r → j ≤ start → start ≤ j → start ≤ i + 1
      → (0 < start → below w.high (span r.stamps (start - 1) i) ≡ false)
      → Back f i j x → x ≡ any k (suc i) (past k r w i) f
  past_end f i j start {x} up li lo hi le beyond inv =
      let same : j ≡ start = omega arith in
      sym (inv ∙ ap (λ n. k.or (any k n (past k r w i) f) x) same ∙ ap (λ v. k.or v x) (past_none f i start up li le beyond) ∙ no_or laws x)

  -- ---- the first operand of since, after state j up to i

  pub since_start : (f : ℕ → K) (i : ℕ) → k.yes ≡ all k (suc i) (λ m. leb (i + 1) m) f
  since_start f i = sym (all_none laws (suc i) (λ m. leb (i + 1) m) f (λ j l. lt-leb (i + 1) j (omega arith)))

  pub since_turn : (f : ℕ → K) (i j : ℕ) {x y q : K} → 0 < j → j ≤ i + 1 → x ≡ all k (suc i) (λ m. leb j m) f → y ≡ f (j - 1) → q ≡ k.and x y
      → q ≡ all k (suc i) (λ m. leb (j - 1) m) f
  since_turn f i j {x} {y} p h inv py pq =
      let less : j ≡ suc (j - 1) = omega arith in
      pq ∙ laws.and_comm x y ∙ ap₂ k.and py (inv ∙ ap (λ n. all k (suc i) (λ m. leb n m) f) less) ∙ sym (all_front laws (suc i) (j - 1) (omega arith) f)

  -- the second operand at a state and the first after it
  pub since_here : (f g : ℕ → K) (i j : ℕ) {x y q : K} → 0 < j → x ≡ all k (suc i) (λ m. leb j m) f → y ≡ g (j - 1) → q ≡ k.and y x
      → q ≡ k.and (g (j - 1)) (all k (suc i) (λ m. ltb (j - 1) m) f)
  since_here f g i j p inv py pq =
      let less : j ≡ suc (j - 1) = omega arith in
      pq ∙ ap₂ k.and py (inv ∙ ap (λ n. all k (suc i) (λ m. leb n m) f) less)

  -- ---- sometime is an until over yes

  any_same : (n : ℕ) (p : ℕ → Bool) (f g : ℕ → K) → ((j : ℕ) → f j ≡ g j) → any k n p f ≡ any k n p g
  any_same zero p f g same = refl
  any_same (suc n) p f g same = ap₂ k.or (any_same n p f g same) (ap (λ v. cond (p n) v k.no) (same n))

  pub until_yes : (g : ℕ → K) (i : ℕ) → until k r w (λ _. k.yes) g i ≡ sometime k r w g i
  until_yes g i =
      ap₂ k.or
      (any_same (count r) (future k r w i) _ g (λ j. ap (k.and (g j)) (kept_yes laws j (λ m. leb i m)) ∙ laws.and_yes (g j)))
      (ap (λ v. k.and v (mark k r w i)) (kept_yes laws (count r) (λ m. leb i m)) ∙ yes_and laws (mark k r w i))

  -- ---- next

  pub next_inside : (f : ℕ → K) (i : ℕ) {d : ℕ} {t : Bool} {y q : K} → i + 1 < count r
      → d ≡ span r.stamps i (i + 1) → t ≡ within w d → y ≡ f (i + 1) → q ≡ cond t y k.no → q ≡ next k r w f i
  next_inside f i {d} {t} {y} {q} lt pd pt py pq =
      let one : i + 1 ≡ suc i = omega arith in
      pq ∙ (rw (pt, pd, py)) ∙ ap (λ n. cond (within w (stamp r n - stamp r i)) (f n) k.no) one
      ∙ sym (test_true (leb i (suc i)) _ (f (suc i)) k.no (le-leb i (suc i) (omega arith)))
      ∙ sym (cond-true (ltb (suc i) (count r)) _ _ (lt-ltb (suc i) (count r) (omega arith)))
