-- What the writer answers and leaves in the buffer.
use Rattle.std.specs.Prelude.{ℕ, ◌<◌, cond, List, [], ◌++◌, map, length, drop, Ok, Err, Result, nat_le}
use Rattle.grammar.specs.RoundTrip.{Gives}
use Rattle.rules.specs.declared.table.Table.{Table}
use Rattle.rules.specs.Tables.{entries_of, rules_of, text_of}
use Rattle.grammar.specs.TableText.{rule_text, texts}
use Rattle.writer.specs.declared.fault.WriteFault.{WriteFault}
use Rattle.writer.specs.declared.fault.WriteFault.TheVariants.{TooShort}

-- the texts of a table's rules
abbrev pub rule_texts : Table → List (List ℕ)
rule_texts t = map (rule_text (texts [] (entries_of t))) (rules_of t)

-- the length of a text that the buffer has room for, else the refusal
abbrev pub answer : List ℕ → List ℕ → Result ℕ WriteFault
answer text buffer = cond (nat_le (length text) (length buffer)) (Ok (length text)) (Err TooShort)

-- the text at the front, and the bytes beyond it as they were; a buffer without room stays as it was
abbrev pub left : List ℕ → List ℕ → List ℕ
left text buffer = cond (nat_le (length text) (length buffer)) (text ++ drop (length text) buffer) buffer

-- the text of a table with a rule is read as that table
abbrev pub ReadAgain : Table → Type 0
ReadAgain t = 0 < length (rules_of t) → ∥ Gives (text_of t) (entries_of t) (rules_of t) ∥₁
