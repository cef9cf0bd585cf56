use Rattle.rules.specs.Tables.{rules_of}
use Rattle.report.proofs.RuleReports.{Sofar}
use Rattle.report.proofs.table.table_report.Given as goal

abbrev pub invariant-loop-i : goal.invariant-loop-i
invariant-loop-i l = Sofar l.table (rules_of l.table) l.i l.before l.out.items
