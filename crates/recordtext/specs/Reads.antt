-- What reading a record's text answers.
use Rattle.std.specs.Prelude.{◌≡◌, ℕ, ◌^◌, ◌<◌, ◌≤◌, List, ◌++◌, length, take, Some, None, Ok, Err, vec_items, codes, decimal, Option, Result, ◌≢◌}
use Rattle.recordtext.specs.declared.state.State.{State}
use Rattle.recordtext.specs.declared.state.StateLine.{StateLine}
use Rattle.recordtext.specs.declared.state.RecordText.{RecordText}
use Rattle.recordtext.specs.declared.state.ReadError.{ReadError}
use Rattle.recordtext.specs.declared.state.ReadError.TheVariants.{NoMemory, BadLine}
use Rattle.recordtext.specs.Texts.{state_body, state_line, record_text, Small, Outside, Bad}

-- the number that is written so, if one of at most 64 bits is
abbrev pub Spelt : List ℕ → Option ℕ → Type 0
Spelt digits None = (n : ℕ) → n < 2 ^ 64 → digits ≢ decimal n
Spelt digits (Some n) = (digits ≡ decimal n) × (n < 2 ^ 64)

-- two numbers with a space between and a bracket behind
abbrev pub numbers : ℕ → ℕ → List ℕ
numbers t w = decimal t ++ (codes " " ++ (decimal w ++ codes ")"))

-- a stamp and a row of at most 64 bits
abbrev pub Fit : State → Type 0
Fit s = (s.stamp < 2 ^ 64) × (s.row < 2 ^ 64)

abbrev pub Numbers : List ℕ → Option State → Type 0
Numbers text None = (t w : ℕ) → t < 2 ^ 64 → w < 2 ^ 64 → text ≢ numbers t w
Numbers text (Some s) = (text ≡ numbers s.stamp s.row) × Fit s

abbrev pub Body : List ℕ → Option State → Type 0
Body text None = (t w : ℕ) → t < 2 ^ 64 → w < 2 ^ 64 → text ≢ state_body t w
Body text (Some s) = (text ≡ state_body s.stamp s.row) × Fit s

-- the line at the front of a text
abbrev pub Front : List ℕ → Option StateLine → Type 0
Front text None = Outside text
Front text (Some l) = (take l.length text ≡ state_line l.state.stamp l.state.row) × (0 < l.length) × (l.length ≤ length text) × Fit l.state

-- a record whose text this is, or the first line outside the form; or no memory
abbrev pub Reads : List ℕ → Result RecordText ReadError → Type 0
Reads text (Ok r) = (length (vec_items r.stamps) ≡ length (vec_items r.rows)) × (Small (vec_items r.stamps) × Small (vec_items r.rows)) × (text ≡ record_text (vec_items r.stamps) (vec_items r.rows))
Reads text (Err (NoMemory e)) = Unit {0}
Reads text (Err (BadLine n)) = Bad text n
