use Rattle.std.proofs.Common.{◌≡◌, ℕ, ◌/◌, ◌%◌, ◌^◌, ◌<◌, ◌≤◌, false, eqb, sym, ap, ◌∙◌, arith, pow_mono}
use native.Mathlib.Nat.{div-eq_of_lt}
use Rattle.std.proofs.lemmas.Bool.{le-ltb}
use Rattle.syntax.specs.Rows.{bit_of}
use Rattle.eval.proofs.leaves.is_set.Goals as goal

-- a row of 64 bits has no bit from 64 on
past_row : (row m : ℕ) → row < 2 ^ 64 → 64 ≤ m → false ≡ bit_of row m
past_row row m small le =
    let wide : 2 ^ 64 ≤ 2 ^ m = pow_mono le in
    let none : row / 2 ^ m ≡ 0 = div-eq_of_lt (omega arith) in
    sym (ap (λ q. eqb (q % 2) 1) none)

pub returns-else-m-lt64 : goal.returns-else-m-lt64
returns-else-m-lt64 c = le-ltb c.args.m 64 c.if-m-lt64.false ∙ past_row c.args.row c.args.m (omega arith) c.if-m-lt64.false
