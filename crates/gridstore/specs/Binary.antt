-- The binary digits of a number, one by one.
use Rattle.std.specs.Prelude.{◌≡◌, ℕ, zero, suc, ◌+◌, ◌-◌, ◌*◌, ◌/◌, ◌%◌, ◌^◌, ◌<◌, ◌≤◌, min, max, Bool, true, false, not, ◌&&◌, ◌||◌, ◌⊎◌, Some, None, ◌==◌, ◌≢◌, nat_eq, refl}
use Rattle.std.proofs.Common.{sym, ap, ◌∙◌, ⊎_elim, zero-le, suc-le-suc, le_of_suc-le-suc, not-suc-le-zero, pow-suc, arith}
use Rattle.std.proofs.Math.Dec.{eqb-suc-suc}
use Rattle.std.specs.Int.Bits.{bit_and, bit_or, and_step, or_step}
use Rattle.std.specs.Int.Count.{count_trailing_zeros}
use Rattle.std.proofs.lemmas.Nat.{shr-shr, shr_below, and_mask, one_shl, pow_below}
use Rattle.std.proofs.lemmas.Bool.Decides.{nat_tests}
use Rattle.std.proofs.lemmas.Bool.{eq-eqb, ne_eqb}
use Rattle.gridstore.specs.Grid.{has_bit, FirstBit}

digit : (a : ℕ) → (a % 2 ≡ 0) ⊎ (a % 2 ≡ 1)
digit a = grind (arith, eqb-tells-2 a)
  where
    eqb-tells-2 : (a : ℕ) → a % 2 < 2
    eqb-tells-2 a = omega arith

or_half : (a b : ℕ) → bit_or a b / 2 ≡ bit_or (a / 2) (b / 2)
or_half a b = omega (arith, or_step a b)

or_digit : (a b : ℕ) → bit_or a b % 2 ≡ max (a % 2) (b % 2)
or_digit a b = omega (arith, or_step a b)

and_half : (a b : ℕ) → bit_and a b / 2 ≡ bit_and (a / 2) (b / 2)
and_half a b = omega (arith, and_step a b)

and_digit : (a b : ℕ) → bit_and a b % 2 ≡ min (a % 2) (b % 2)
and_digit a b = omega (arith, and_step a b)

pub bit_of_or : (a b v : ℕ) → has_bit (bit_or a b) v ≡ (has_bit a v || has_bit b v)
bit_of_or a b zero = let e = or_digit a b in grind (arith, nat_tests)
bit_of_or a b (suc v) = ap (λ (n : ℕ). has_bit n v) (or_half a b) ∙ bit_of_or (a / 2) (b / 2) v

pub bit_of_and : (a b v : ℕ) → has_bit (bit_and a b) v ≡ (has_bit a v && has_bit b v)
bit_of_and a b zero = let e = and_digit a b in grind (arith, nat_tests)
bit_of_and a b (suc v) = ap (λ (n : ℕ). has_bit n v) (and_half a b) ∙ bit_of_and (a / 2) (b / 2) v

bit_zero : (v : ℕ) → has_bit 0 v ≡ false
bit_zero zero = refl
bit_zero (suc v) = bit_zero v

pow_half : (u : ℕ) → 2 ^ suc u / 2 ≡ 2 ^ u
pow_half u = let e = pow-suc 2 u in omega arith

pow_even : (u : ℕ) → 2 ^ suc u % 2 ≡ 0
pow_even u = let e = pow-suc 2 u in omega arith

pub bit_pow : (u v : ℕ) → has_bit (2 ^ u) v ≡ (v == u)
bit_pow zero zero = refl
bit_pow zero (suc v) = bit_zero v ∙ sym (ne_eqb (suc v) 0 (λ e. omega arith))
bit_pow (suc u) zero = let e = pow_even u in let n : nat_eq 0 (suc u) ≡ false = ne_eqb 0 (suc u) (λ q. omega arith) in let d : nat_eq (2 ^ suc u % 2) 1 ≡ false = ne_eqb _ _ (λ q. omega arith) in d ∙ sym n
bit_pow (suc u) (suc v) = ap (λ (n : ℕ). has_bit n v) (pow_half u) ∙ bit_pow u v ∙ sym (eqb-suc-suc v u)

-- the digits of w from u on
pub bit_shr : (w u v : ℕ) → has_bit (w / 2 ^ u) v ≡ has_bit w (u + v)
bit_shr w zero v =
    let one : w / 1 ≡ w = omega arith in
    let none : 0 + v ≡ v = omega arith in
    ap (λ (n : ℕ). has_bit n v) one ∙ sym (ap (has_bit w) none)
bit_shr w (suc u) v =
    let more : 1 + u ≡ suc u = omega arith in
    let count : suc u + v ≡ suc (u + v) = omega arith in
    ap (λ (n : ℕ). has_bit (w / 2 ^ n) v) (sym more) ∙ ap (λ (n : ℕ). has_bit n v) (sym (shr-shr w 1 u)) ∙ bit_shr (w / 2) u v ∙ sym (ap (has_bit w) count)

-- a complement
pub bit_not : (n b v : ℕ) → b < 2 ^ n → v < n → has_bit ((2 ^ n - 1) - b) v ≡ not (has_bit b v)
bit_not zero b v h l = absurd (not-suc-le-zero l)
bit_not (suc n) b zero h l = let e = pow-suc 2 n in grind (arith, nat_tests)
bit_not (suc n) b (suc v) h l =
    let e = pow-suc 2 n in
    let half : ((2 ^ suc n - 1) - b) / 2 ≡ (2 ^ n - 1) - b / 2 = omega arith in
    let less : b / 2 < 2 ^ n = omega arith in
    ap (λ (m : ℕ). has_bit m v) half ∙ bit_not n (b / 2) v less (le_of_suc-le-suc l)

-- a number of n digits, none of them set, is 0
pub no_bits : (n w : ℕ) → w < 2 ^ n → ((v : ℕ) → v < n → has_bit w v ≡ false) → w ≡ 0
no_bits zero w h f = omega arith
no_bits (suc n) w h f =
    let e = pow-suc 2 n in
    let less : w / 2 < 2 ^ n = omega arith in
    let rest : w / 2 ≡ 0 = no_bits n (w / 2) less (λ v l. f (suc v) (suc-le-suc l)) in
    let low : nat_eq (w % 2) 1 ≡ false = f 0 (suc-le-suc zero-le) in
    grind (arith, nat_tests)

-- the lowest digit that is set
pub trailing_bit : (n w : ℕ) → count_trailing_zeros n w < n → has_bit w (count_trailing_zeros n w) ≡ true
unfolding count_trailing_zeros
trailing_bit zero w l = absurd (not-suc-le-zero l)
trailing_bit (suc n) w l =
    ⊎_elim
    (λ e. let l' : suc (count_trailing_zeros n (w / 2)) < suc n = rw e at l in rw e (trailing_bit n (w / 2) (le_of_suc-le-suc l')))
    (λ e. rw e (eq-eqb (w % 2) 1 e)) (digit w)

pub below_trailing : (n w v : ℕ) → v < count_trailing_zeros n w → has_bit w v ≡ false
unfolding count_trailing_zeros
below_trailing zero w v l = absurd (not-suc-le-zero l)
below_trailing (suc n) w zero l =
    ⊎_elim (λ e. rw e) (λ e. let l' : 0 < 0 = rw e at l in absurd (not-suc-le-zero l')) (digit w)
below_trailing (suc n) w (suc v) l =
    ⊎_elim (λ e. let l' : suc v < suc (count_trailing_zeros n (w / 2)) = rw e at l in below_trailing n (w / 2) v (le_of_suc-le-suc l'))
    (λ e. let l' : suc v < 0 = rw e at l in absurd (not-suc-le-zero l')) (digit w)

-- a number of k digits that is not 0 has one that is set
pub trailing_less : (m k w : ℕ) → k ≤ m → w < 2 ^ k → (w ≢ 0) → count_trailing_zeros m w < k
unfolding count_trailing_zeros
trailing_less m zero w l h f = absurd (f (omega arith))
trailing_less zero (suc k) w l h f = absurd (not-suc-le-zero l)
trailing_less (suc m) (suc k) w l h f =
    let e = pow-suc 2 k in
    let less : w / 2 < 2 ^ k = omega arith in
    ⊎_elim (λ d. rw d (suc-le-suc (trailing_less m k (w / 2) (le_of_suc-le-suc l) less (λ q. f (omega arith))))) (λ d. rw d (suc-le-suc zero-le)) (digit w)

-- ---- the first bit from low on, by a shift and a count of zeros

pub first_bit_none : (w low : ℕ) → w / 2 ^ low ≡ 0 → FirstBit w low None
first_bit_none w low e v h l =
    let split : low + (v - low) ≡ v = omega arith in
    ap (has_bit w) (sym split) ∙ sym (bit_shr w low (v - low)) ∙ ap (λ (n : ℕ). has_bit n (v - low)) e ∙ bit_zero (v - low)

module _ (w low : ℕ) (h : w < 2 ^ 64) (l : low < 64) (n : w / 2 ^ low ≡ 0 → ⊥) where
  abbrev first : ℕ
  first = count_trailing_zeros 64 (w / 2 ^ low)

  rest_less : w / 2 ^ low < 2 ^ (64 - low)
  rest_less = let split : 64 - low + low ≡ 64 = omega arith in shr_below w (64 - low) low (rw split h)

  -- a shift leaves that many zeros at the top
  first_less : low + first < 64
  first_less = omega (arith, trailing_less 64 (64 - low) (w / 2 ^ low) (omega arith) rest_less n)

  pub first_bit_some : FirstBit w low (Some (low + first))
  first_bit_some = (
    omega arith,
    first_less,
    sym (bit_shr w low first) ∙ trailing_bit 64 (w / 2 ^ low) (omega (arith, first_less)),
    λ v a b.
        let split : low + (v - low) ≡ v = omega arith in
        ap (has_bit w) (sym split) ∙ sym (bit_shr w low (v - low)) ∙ below_trailing 64 (w / 2 ^ low) (v - low) (omega arith),
  )

-- ---- the operations of a program

pub bit_test : (w p : ℕ) → (bit_and (w / 2 ^ p) 1 == 1) ≡ has_bit w p
bit_test w p =
    let none : p + 0 ≡ p = omega arith in
    ap (λ (n : ℕ). nat_eq n 1) (and_mask (w / 2 ^ p) 1) ∙ bit_shr w p 0 ∙ ap (has_bit w) none

or_swap : (a b : Bool) → (a || b) ≡ (b || a)
or_swap true true = refl
or_swap true false = refl
or_swap false true = refl
or_swap false false = refl

and_swap : (a b : Bool) → (a && b) ≡ (b && a)
and_swap true true = refl
and_swap true false = refl
and_swap false true = refl
and_swap false false = refl

pub bit_set : (w p : ℕ) → p < 64 → (v : ℕ) → v < 64 → has_bit (bit_or w ((1 * 2 ^ p) % 2 ^ 64)) v ≡ (v == p || has_bit w v)
bit_set w p h v l =
    ap (λ (n : ℕ). has_bit (bit_or w n) v) (one_shl p 64 h) ∙ bit_of_or w (2 ^ p) v ∙ ap (λ (b : Bool). has_bit w v || b) (bit_pow p v) ∙ or_swap (has_bit w v) (v == p)

pub bit_cleared : (w p : ℕ) → p < 64 → (v : ℕ) → v < 64 → has_bit (bit_and w ((2 ^ 64 - 1) - (1 * 2 ^ p) % 2 ^ 64)) v ≡ (not (v == p) && has_bit w v)
bit_cleared w p h v l =
    let small : 2 ^ p < 2 ^ 64 = pow_below p 64 h in
    ap (λ (n : ℕ). has_bit (bit_and w ((2 ^ 64 - 1) - n)) v) (one_shl p 64 h) ∙ bit_of_and w ((2 ^ 64 - 1) - 2 ^ p) v
    ∙ ap (λ (b : Bool). has_bit w v && b) (bit_not 64 (2 ^ p) v small l ∙ ap not (bit_pow p v)) ∙ and_swap (has_bit w v) (not (v == p))
