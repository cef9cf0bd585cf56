-- What a table holds, and what reading a text answers.
use Rattle.std.specs.Prelude.{◌≡◌, ℕ, List, map, Ok, Err, vec_items, Result, ◌≢◌}
use Rattle.syntax.specs.declared.Node.{Node}
use Rattle.syntax.specs.declared.Rule.{Rule}
use Rattle.grammar.specs.declared.fault.ReadFault.{ReadFault}
use Rattle.grammar.specs.Entries.{Entry, entry_of}
use Rattle.grammar.specs.Reading.{stop}
use Rattle.grammar.specs.Files.{Line, WellFile, lines_text}
use Rattle.grammar.specs.TableText.{table_text}
use Rattle.grammar.specs.RoundTrip.{ReadBack, reading, Gives}
use Rattle.grammar.specs.Places.{Placed}
use Rattle.rules.specs.declared.table.Table.{Table}

abbrev pub nodes_of : Table → List Node
nodes_of t = vec_items t.nodes

abbrev pub rules_of : Table → List Rule
rules_of t = vec_items t.rules

abbrev pub entries_of : Table → List Entry
entries_of t = map entry_of (nodes_of t)

-- the one text of a table
abbrev pub text_of : Table → List ℕ
text_of t = table_text (entries_of t) (rules_of t)

-- the table that the reading of a text gives, or its fault
abbrev pub Answers : List ℕ → Result Table ReadFault → Type 0
Answers text (Ok t) = Gives text (entries_of t) (rules_of t)
Answers text (Err f) = reading text ≡ stop f

-- a text is accepted exactly if it is the text of well-formed rules; it is then the text of the table, whose rules and nodes are theirs
abbrev pub Accepts : List ℕ → Result Table ReadFault → Type 0
Accepts text (Ok t) = ReadBack text (rules_of t) (entries_of t) × (text ≡ text_of t)
Accepts text (Err f) = (ls : List Line) → WellFile ls → text ≢ lines_text ls

-- a fault stands at the item that no accepted text has there, or past the end
abbrev pub Places : List ℕ → Result Table ReadFault → Type 0
Places text (Ok t) = Unit {0}
Places text (Err f) = Placed text f
