-- What the rule checker prints.
use Rattle.std.specs.Prelude.{ℕ, List, [], ◌∷◌, ◌++◌, Some, None, codes, decimal, Option}
use Rattle.grammar.specs.declared.fault.ReadFault.{ReadFault}
use Rattle.grammar.specs.Faults.{fault_text}
use Rattle.grammar.specs.TableText.{rule_text, texts}
use Rattle.syntax.specs.declared.Rule.{Rule}
use Rattle.syntax.specs.Formula.{reach}
use Rattle.syntax.specs.Nodes.{formula_at}
use Rattle.rules.specs.declared.table.Table.{Table}
use Rattle.rules.specs.Tables.{nodes_of, rules_of, entries_of}
use Rattle.report.specs.Lines.{line_of}
use Rattle.report.specs.Sizes.{size}
use Rattle.report.specs.Excerpts.{excerpt}

-- the fault's number, line and byte
abbrev pub fault_line : ReadFault → List ℕ
fault_line f = codes "(fault " ++ (fault_text f ++ (codes ")" ++ (10 ∷ [])))

-- and the faulty line with a mark under the place
abbrev pub fault_report : List ℕ → ReadFault → List ℕ
fault_report text f = fault_line f ++ excerpt (line_of text f.place.line) f.place.byte

abbrev pub reach_text : Option ℕ → List ℕ
reach_text (Some d) = decimal d
reach_text None = codes "none"

-- the line under a rule: its number of formulas and its reach
abbrev pub summary : ℕ → Option ℕ → List ℕ
summary formulas reach = codes "  " ++ (decimal formulas ++ (codes " formulas, reach " ++ (reach_text reach ++ (10 ∷ []))))

-- a rule as it is printed
abbrev pub rule_report : Table → Rule → List ℕ
rule_report t r = rule_text (texts [] (entries_of t)) r ++ summary (size (formula_at (nodes_of t) r.root)) (reach (formula_at (nodes_of t) r.root))

abbrev pub rules_report : Table → List Rule → List ℕ
rules_report t [] = []
rules_report t (r ∷ rs) = rule_report t r ++ rules_report t rs

-- the report on an accepted file
abbrev pub table_report : Table → List ℕ
table_report t = rules_report t (rules_of t)
