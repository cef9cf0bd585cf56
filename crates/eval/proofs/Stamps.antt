-- Stamps, windows and bounds.
use Rattle.std.proofs.Common.{◌≡◌, ℕ, zero, suc, ◌+◌, ◌<◌, ◌≤◌, Bool, true, false, ltb, leb, List, [], ◌∷◌, length, get_or, Some, None, Option, sym, refl, ap, ◌∙◌, subst, ⊎_elim, true≢false, le_of_eq, arith}
use mathlib.Core.Bool.{false≢true}
use Rattle.std.specs.List.{IsAllAdjacentAnswer}
use Rattle.eval.specs.Stamps.{rising}
use Rattle.std.proofs.lemmas.Bool.{leb-true, leb-false, le-leb, lt-leb, ltb-true, lt-ltb, and_right, and_from, and_parts, cases_eq}
use Rattle.syntax.specs.declared.Window.{Window}
use Rattle.eval.specs.Truth.{Record, count, stamp, below, closed, within}
use Rattle.eval.proofs.Theorems.{Rising}

pub rising_le : {K : Type 0} (r : Record K) → Rising r → (i j : ℕ) → i ≤ j → j < count r → stamp r i ≤ stamp r j
rising_le r up i j le lt = ⊎_elim (λ e. le_of_eq (ap (stamp r) e)) (λ ne. let h : i < j = omega arith in omega (arith, up i j h lt)) (cases_eq i j)

-- a window that is closed at a distance is closed at a greater one, which lies outside
pub closed_far : (b : Option ℕ) (d e : ℕ) → closed b d ≡ true → d ≤ e → closed b e ≡ true
closed_far (Some b) d e h le = le-leb b e (omega (arith, leb-true b d h))
closed_far None d e h le = h

pub closed_out : (w : Window) (d e : ℕ) → closed w.high d ≡ true → d < e → within w e ≡ false
closed_out w d e h lt = and_right (leb w.low e) (below w.high e) (go w.high h)
  where
    go : (b : Option ℕ) → closed b d ≡ true → below b e ≡ false
    go (Some b) h = lt-leb e b (omega (arith, leb-true b d h))
    go None h = absurd (false≢true h)

-- stamps that rise from each to the next rise from each to all later ones
pub rises : (ts : List ℕ) → rising ts ≡ true → (i j : ℕ) → i < j → j < length ts → get_or ts i 0 < get_or ts j 0
rises [] up i j lt lj = absurd (omega arith)
rises (x ∷ []) up i j lt lj = absurd (omega arith)
rises (x ∷ (y ∷ rest)) up zero zero lt lj = absurd (omega arith)
rises (x ∷ (y ∷ rest)) up zero (suc zero) lt lj = ltb-true x y (and_parts (ltb x y) (rising (y ∷ rest)) up).0
rises (x ∷ (y ∷ rest)) up zero (suc (suc j)) lt lj =
    let parts = and_parts (ltb x y) (rising (y ∷ rest)) up in
    omega (arith, ltb-true x y parts.0, rises (y ∷ rest) parts.1 zero (suc j) (omega arith) (omega arith))
rises (x ∷ (y ∷ rest)) up (suc i) zero lt lj = absurd (omega arith)
rises (x ∷ (y ∷ rest)) up (suc i) (suc j) lt lj =
    rises (y ∷ rest) (and_parts (ltb x y) (rising (y ∷ rest)) up).1 i j (omega arith) (omega arith)

-- stamps each later than the one before
rising_adjacent : (ts : List ℕ) → ((k : ℕ) → suc k < length ts → get_or ts k 0 < get_or ts (suc k) 0) → rising ts ≡ true
rising_adjacent [] up = refl
rising_adjacent (x ∷ []) up = refl
rising_adjacent (x ∷ (y ∷ rest)) up = and_from _ _ (lt-ltb x y (up 0 (omega arith))) (rising_adjacent (y ∷ rest) (λ k l. up (suc k) (omega arith)))

pub rising_from : (ts : List ℕ) → ((i j : ℕ) → i < j → j < length ts → get_or ts i 0 < get_or ts j 0) → rising ts ≡ true
rising_from ts up = rising_adjacent ts (λ k l. up k (suc k) (omega arith) l)

false_from : (b : Bool) → (b ≡ true → ⊥) → false ≡ b
false_from true h = absurd (h refl)
false_from false h = refl

-- the answer that a look at each stamp and the next gives
pub rising_answer : (ts : List ℕ) (r : Bool) → IsAllAdjacentAnswer (λ x y b. b ≡ ltb x y) ts r → r ≡ rising ts
rising_answer ts true each =
    sym
    (rising_adjacent ts
    (λ k l.
    let e : k + 1 ≡ suc k = omega arith in
    ltb-true _ _ (subst (λ (n : ℕ). ltb (get_or ts k 0) (get_or ts n 0) ≡ true) e (sym (each k 0 (omega arith))))))
rising_answer ts false (k, l, here) = false_from (rising ts) (λ up. true≢false (sym (lt-ltb _ _ (rises ts up k (k + 1) (omega arith) l)) ∙ sym (here 0)))

pub rises_le : (ts : List ℕ) → rising ts ≡ true → (i j : ℕ) → i ≤ j → j < length ts → get_or ts i 0 ≤ get_or ts j 0
rises_le ts up i j le lj =
    ⊎_elim (λ e. le_of_eq (ap (λ n. get_or ts n 0) e)) (λ ne. let h : i < j = omega arith in omega (arith, rises ts up i j h lj)) (cases_eq i j)

-- a distance past one that lies beyond a bound
pub beyond_far : (b : Option ℕ) (d e : ℕ) → below b d ≡ false → d ≤ e → below b e ≡ false
beyond_far (Some b) d e h le = lt-leb e b (omega (arith, leb-false d b h))
beyond_far None d e h le = h

pub beyond_out : (w : Window) (d : ℕ) → below w.high d ≡ false → within w d ≡ false
beyond_out w d h = and_right (leb w.low d) (below w.high d) h
