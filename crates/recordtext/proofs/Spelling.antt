-- Numbers in decimal, as `parse` reads them.
use Rattle.std.proofs.Common.{◌≡◌, ℕ, ◌^◌, ◌<◌, ◌≤◌, List, length, get_or, Ok, Err, decimal, Result, sym, ap, ◌∙◌, subst, ⊎_elim, arith}
use Rattle.std.specs.Result.{OkIff, result_ok}
use Rattle.std.specs.Str.Parse.{AllDigits, ParsesUnsigned, digits_value}
use Rattle.std.specs.Int.{IsInRange}
use Rattle.std.proofs.lemmas.Fmt.{digits_decimal, digits_value-decimal, decimal-digits_value, decimal_nonempty, first_decimal, decimal_digit}
use Rattle.std.proofs.lemmas.Str.Parse.{IsNumeralModel, numerals_by_value, tells_digits, not_in_digits, parse_plain}
use Rattle.std.proofs.lemmas.Bool.{cases_eq}
use Rattle.recordtext.specs.Reads.{Spelt}

own : IsNumeralModel (AllDigits 10) (digits_value 10)
own = numerals_by_value (AllDigits 10) tells_digits

-- only digits stand in a number
pub decimal_lacks : (b n : ℕ) → n < 2 ^ 64 → (IsInRange 48 57 b → ⊥) → (k : ℕ) → k < length (decimal n) → get_or (decimal n) k 0 ≡ b → ⊥
decimal_lacks b n small out = not_in_digits own (decimal n) b (digits_decimal own n small) out

-- no plus sign, and a zero only alone
pub decimal_no_plus : (n : ℕ) (ds : List ℕ) → n < 2 ^ 64 → ds ≡ decimal n → get_or ds 0 0 ≡ 43 → ⊥
decimal_no_plus n ds small e plus =
    let out : IsInRange 48 57 43 → ⊥ = λ h. omega (arith, h.0) in
    decimal_lacks 43 n small out 0 (decimal_nonempty n small) (ap (λ xs. get_or xs 0 0) (sym e) ∙ plus)

pub decimal_no_zero : (n : ℕ) (ds : List ℕ) → n < 2 ^ 64 → ds ≡ decimal n → get_or ds 0 0 ≡ 48 → 1 < length ds → ⊥
decimal_no_zero n ds small e begins long =
    ⊎_elim
    (λ none. omega (arith, ap length e, ap (λ k. length (decimal k)) none, ap length (decimal_digit 0 (omega arith))))
    (λ some. omega (arith, first_decimal n (omega arith) small, ap (λ xs. get_or xs 0 0) e))
    (cases_eq n 0)

-- what `parse` answers is the spelt number
pub parsed : {E : Type 0} (ds : List ℕ) (r : Result ℕ E) → ParsesUnsigned 64 10 ds r → (get_or ds 0 0 ≡ 43 → ⊥) → (get_or ds 0 0 ≡ 48 → length ds ≤ 1) → Spelt ds (result_ok r)
parsed {E} ds r reads plain alone = go r (parse_plain own 64 ds r reads plain)
  where
    go : (r : Result ℕ E) → OkIff r (AllDigits 10 ds × (0 < length ds) × (digits_value 10 ds < 2 ^ 64)) (digits_value 10 ds) → Spelt ds (result_ok r)
    go (Ok x) h =
        let one : get_or ds 0 0 ≡ 48 → length ds ≡ 1 = λ e. omega (arith, alone e, h.0.1) in
        (sym (ap decimal h.1 ∙ decimal-digits_value own ds h.0.0 h.0.1 one h.0.2), subst (λ v. v < 2 ^ 64) (sym h.1) h.0.2)
    go (Err e) h = λ n small is.
        h (subst (AllDigits 10) (sym is) (digits_decimal own n small), subst (λ xs. 0 < length xs) (sym is) (decimal_nonempty n small), subst (λ v. v < 2 ^ 64) (sym (ap (digits_value 10) is ∙ digits_value-decimal own n small)) small)
