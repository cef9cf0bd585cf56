-- The two laws of reading and writing.
use Rattle.std.specs.Prelude.{◌≡◌, ℕ, ◌<◌, List, [], length}
use Rattle.items.specs.Items.{items, end_of}
use Rattle.grammar.specs.Entries.{Entry}
use Rattle.grammar.specs.Formed.{Formed}
use Rattle.grammar.specs.TableText.{table_text}
use Rattle.grammar.specs.Reading.{State, Outcome, done}
use Rattle.syntax.specs.declared.Rule.{Rule}
use Rattle.grammar.specs.Files.{file, Line, lines_rules, lines_nodes, formulas, WellFile, lines_text}

-- rules and nodes that were read from a text: they are those of well-formed lines, and the text is the lines' text
pub record ReadBack (text : List ℕ) (rules : List Rule) (nodes : List Entry) : Type 0 where
  pub lines : List Line
  pub well : WellFile lines
  pub is_text : text ≡ lines_text lines
  pub are_rules : rules ≡ lines_rules [] lines
  pub are_nodes : nodes ≡ lines_nodes [] lines

-- the text of lines is read as their rules and nodes
pub record WrittenBack (ls : List Line) : Type 0 where
  pub reads : file (items (lines_text ls)) (end_of (lines_text ls)) ≡ done (lines_rules [] ls) (record { rest = []; past = end_of (lines_text ls); opened = formulas ls; nodes = lines_nodes [] ls })

-- the reading of a text
abbrev pub reading : List ℕ → Outcome (List Rule)
reading text = file (items text) (end_of text)

-- these nodes and rules are what the reading of a text gives
abbrev pub Gives : List ℕ → List Entry → List Rule → Type 0
Gives text nodes rules = (after : State) × (reading text ≡ done rules after) × (after.nodes ≡ nodes)

-- a well-formed table with a rule is what its text is read as
abbrev pub TableBack : Type 0
TableBack = (ns : List Entry) (rs : List Rule) → Formed ns rs → 0 < length rs → Gives (table_text ns rs) ns rs
