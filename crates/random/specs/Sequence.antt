-- A linear congruence modulo 2 ^ 64.
use Rattle.std.specs.Prelude.{cond, ℕ, ◌+◌, ◌*◌, ◌/◌, ◌%◌, ◌^◌, eqb}

abbrev pub next_state : ℕ → ℕ
next_state s = ((s * 6364136223846793005) % 2 ^ 64 + 1442695040888963407) % 2 ^ 64

-- the number that a state gives for a bound
abbrev pub drawn : ℕ → ℕ → ℕ
drawn s bound = cond (eqb bound 0) 0 ((next_state s / 2 ^ 33) % bound)
