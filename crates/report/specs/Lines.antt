-- The lines of a text.
use Rattle.std.specs.Prelude.{ℕ, zero, suc, ◌+◌, ◌-◌, cond, List, [], ◌∷◌, take, drop, ◌==◌}

-- how many bytes stand before the first newline
abbrev pub line_length : List ℕ → ℕ
line_length [] = 0
line_length (b ∷ bs) = cond (b == 10) 0 (suc (line_length bs))

abbrev pub first_line : List ℕ → List ℕ
first_line text = take (line_length text) text

-- what stands after the first newline
abbrev pub rest_lines : List ℕ → List ℕ
rest_lines text = drop (line_length text + 1) text

-- the line after so many lines
abbrev pub line_after : ℕ → List ℕ → List ℕ
line_after zero text = first_line text
line_after (suc n) text = line_after n (rest_lines text)

-- lines are numbered from 1
abbrev pub line_of : List ℕ → ℕ → List ℕ
line_of text line = line_after (line - 1) text
