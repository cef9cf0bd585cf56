-- Rows: one number for a state, whose bits answer its query nodes.
use Rattle.std.specs.Prelude.{ℕ, ◌/◌, ◌%◌, ◌^◌, Bool, ◌==◌}

-- bit m of a row, from the lowest
abbrev pub bit_of : ℕ → ℕ → Bool
bit_of row m = row / 2 ^ m % 2 == 1
