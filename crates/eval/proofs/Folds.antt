-- How the or and the and over states are worked out: from the last state back, and not past a window.
use Rattle.std.proofs.Common.{◌≡◌, ℕ, zero, suc, ◌<◌, ◌≤◌, Bool, false, leb, sym, refl, ap, ◌∙◌, ap₂, ⊎_elim, arith}
use native.Mathlib.Decide.{le_ind}
use Rattle.std.proofs.lemmas.Bool.{le-leb, lt-leb, cond-true, cond-false, cases_lt}
use Rattle.truth.specs.Kinds.{Kind, Laws}
use Rattle.eval.specs.Truth.{any, all}

module _ {K : Type 0} {k : Kind K} (laws : Laws k) where
  pub no_or : (x : K) → k.or k.no x ≡ x
  no_or x = laws.or_comm k.no x ∙ laws.or_no x

  pub yes_and : (x : K) → k.and k.yes x ≡ x
  yes_and x = laws.and_comm k.yes x ∙ laws.and_yes x

  -- states that fail the test add nothing
  pub any_stop : (n m : ℕ) → n ≤ m → (p : ℕ → Bool) (f : ℕ → K) → ((j : ℕ) → n ≤ j → j < m → p j ≡ false) → any k m p f ≡ any k n p f
  any_stop n m le p f none = le_ind P (λ _. refl) step m le (omega arith)
    where
      P : ℕ → Type 0
      P v = v ≤ m → any k v p f ≡ any k n p f

      step : (v : ℕ) → n ≤ v → P v → P (suc v)
      step v nv ih vm =
          ap (k.or (any k v p f)) (cond-false (p v) (f v) k.no (none v nv (omega arith))) ∙ laws.or_no (any k v p f) ∙ ih (omega arith)

  pub all_stop : (n m : ℕ) → n ≤ m → (p : ℕ → Bool) (f : ℕ → K) → ((j : ℕ) → n ≤ j → j < m → p j ≡ false) → all k m p f ≡ all k n p f
  all_stop n m le p f none = le_ind P (λ _. refl) step m le (omega arith)
    where
      P : ℕ → Type 0
      P v = v ≤ m → all k v p f ≡ all k n p f

      step : (v : ℕ) → n ≤ v → P v → P (suc v)
      step v nv ih vm =
          ap (k.and (all k v p f)) (cond-false (p v) (f v) k.yes (none v nv (omega arith))) ∙ laws.and_yes (all k v p f) ∙ ih (omega arith)

  pub any_none : (n : ℕ) (p : ℕ → Bool) (f : ℕ → K) → ((j : ℕ) → j < n → p j ≡ false) → any k n p f ≡ k.no
  any_none n p f none = any_stop 0 n (omega arith) p f (λ j _ l. none j l)

  pub all_none : (n : ℕ) (p : ℕ → Bool) (f : ℕ → K) → ((j : ℕ) → j < n → p j ≡ false) → all k n p f ≡ k.yes
  all_none n p f none = all_stop 0 n (omega arith) p f (λ j _ l. none j l)

  -- the first of the states from j on apart
  pub all_front : (n j : ℕ) → j < n → (f : ℕ → K) → all k n (λ m. leb j m) f ≡ k.and (f j) (all k n (λ m. leb (suc j) m) f)
  all_front zero j lt f = absurd (omega arith)
  all_front (suc n) j lt f = ⊎_elim (λ l. later l (all_front n j l f)) here (cases_lt j n)
    where
      later : j < n → all k n (λ m. leb j m) f ≡ k.and (f j) (all k n (λ m. leb (suc j) m) f) → all k (suc n) (λ m. leb j m) f ≡ k.and (f j) (all k (suc n) (λ m. leb (suc j) m) f)
      later l less =
          ap₂ k.and less (cond-true (leb j n) (f n) k.yes (le-leb j n (omega arith)))
          ∙ laws.and_assoc (f j) (all k n (λ m. leb (suc j) m) f) (f n)
          ∙ ap (λ x. k.and (f j) (k.and (all k n (λ m. leb (suc j) m) f) x)) (sym (cond-true (leb (suc j) n) (f n) k.yes (le-leb (suc j) n (omega arith))))

      here : n ≤ j → all k (suc n) (λ m. leb j m) f ≡ k.and (f j) (all k (suc n) (λ m. leb (suc j) m) f)
      here l =
          let e : n ≡ j = omega arith in
          ap₂ k.and (all_none n (λ m. leb j m) f (λ m lm. lt-leb j m (omega arith))) (cond-true (leb j n) (f n) k.yes (le-leb j n (omega arith)) ∙ ap f e)
          ∙ yes_and (f j) ∙ sym (laws.and_yes (f j))
          ∙ ap (k.and (f j)) (sym (all_none (suc n) (λ m. leb (suc j) m) f (λ m lm. lt-leb (suc j) m (omega arith))))
