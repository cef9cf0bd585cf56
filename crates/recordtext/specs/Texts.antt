-- Records as text: a line `(state T W)` for each state, with its stamp and its row; and what the judge writes.
use Rattle.std.specs.Prelude.{◌≡◌, ℕ, ◌+◌, ◌^◌, ◌<◌, Bool, cond, List, [], ◌∷◌, ◌++◌, length, codes, decimal, ◌≢◌, slice_index}

-- a line without its newline, and with it
abbrev pub state_body : ℕ → ℕ → List ℕ
state_body t w = codes "(state " ++ (decimal t ++ (codes " " ++ (decimal w ++ codes ")")))

abbrev pub state_line : ℕ → ℕ → List ℕ
state_line t w = state_body t w ++ (10 ∷ [])

abbrev pub record_text : List ℕ → List ℕ → List ℕ
record_text [] [] = []
record_text [] (w ∷ ws) = []
record_text (t ∷ ts) [] = []
record_text (t ∷ ts) (w ∷ ws) = state_line t w ++ record_text ts ws

-- each number has at most 64 bits
abbrev pub Small : List ℕ → Type 0
Small xs = (k : ℕ) → k < length xs → slice_index xs k < 2 ^ 64

-- the text does not begin with the line of a state
abbrev pub Outside : List ℕ → Type 0
Outside text = (t w : ℕ) (tail : List ℕ) → t < 2 ^ 64 → w < 2 ^ 64 → text ≢ state_line t w ++ tail

-- the lines before line n, from 1, are lines of states, and there is a line n, which is not
pub record Bad (text : List ℕ) (n : ℕ) : Type 0 where
  pub stamps : List ℕ
  pub rows : List ℕ
  pub rest : List ℕ
  pub paired : length stamps ≡ length rows
  pub small : Small stamps × Small rows
  pub before : text ≡ record_text stamps rows ++ rest
  pub some : 0 < length rest
  pub outside : Outside rest
  pub number : n ≡ length stamps + 1

-- the lines that the judge writes
abbrev pub verdict_line : ℕ → ℕ → Bool → List ℕ
verdict_line rule state truth = codes "(verdict " ++ (decimal rule ++ (codes " " ++ (decimal state ++ (codes " " ++ (cond truth (codes "T") (codes "F") ++ (codes ")" ++ (10 ∷ [])))))))

abbrev pub fault_line : ℕ → ℕ → ℕ → List ℕ
fault_line number line byte = codes "(fault " ++ (decimal number ++ (codes " " ++ (decimal line ++ (codes " " ++ (decimal byte ++ (codes ")" ++ (10 ∷ [])))))))

abbrev pub refused_line : ℕ → List ℕ
refused_line number = codes "(refused " ++ (decimal number ++ (codes ")" ++ (10 ∷ [])))

abbrev pub bad_line : ℕ → List ℕ
bad_line line = codes "(bad " ++ (decimal line ++ (codes ")" ++ (10 ∷ [])))
