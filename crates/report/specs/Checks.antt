-- The report on a rule file.
use Rattle.std.specs.Prelude.{◌≡◌, ℕ, List, vec_items}
use Rattle.grammar.specs.declared.fault.ReadFault.{ReadFault}
use Rattle.grammar.specs.Reading.{stop}
use Rattle.grammar.specs.RoundTrip.{reading, Gives}
use Rattle.rules.specs.declared.table.Table.{Table}
use Rattle.rules.specs.Tables.{entries_of, rules_of, text_of}
use Rattle.report.specs.declared.whole.Report.{Report}
use Rattle.report.specs.declared.whole.Report.TheVariants as report
use Rattle.report.specs.Reports.{table_report, fault_report}

-- an accepted file is the text of a table, whose rules are reported
abbrev pub Accepted : List ℕ → List ℕ → Type 0
Accepted text out = (t : Table) × Gives text (entries_of t) (rules_of t) × (text ≡ text_of t) × (out ≡ table_report t)

-- a faulty file is reported by its first fault
abbrev pub Faulty : List ℕ → List ℕ → Type 0
Faulty text out = (f : ReadFault) × (reading text ≡ stop f) × (out ≡ fault_report text f)

abbrev pub Reports : List ℕ → Report → Type 0
Reports text (report.Accepted out) = Accepted text (vec_items out)
Reports text (report.Faulty out) = Faulty text (vec_items out)
