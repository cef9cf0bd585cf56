-- The faulty line and the mark under the place.
use Rattle.std.specs.Prelude.{ℕ, ◌-◌, cond, ◌&&◌, List, [], ◌∷◌, ◌++◌, map, take, drop, replicate, nat_le}

-- a byte that stands for itself in print, else a question mark: every byte takes one column
abbrev pub shown : ℕ → ℕ
shown b = cond (nat_le 32 b && nat_le b 126) b 63

-- of a long line only the part around the place is shown: at most 60 bytes before it, at most 72 in all
abbrev pub first_shown : ℕ → ℕ
first_shown byte = byte - 61

abbrev pub part : List ℕ → ℕ → List ℕ
part line from = take 72 (drop from line)

-- the part of the line, and under it the mark in the column of the byte, which is numbered from 1
abbrev pub excerpt : List ℕ → ℕ → List ℕ
excerpt line byte = map shown (part line (first_shown byte)) ++ (10 ∷ (replicate (byte - 1 - first_shown byte) 32 ++ (94 ∷ 10 ∷ [])))
