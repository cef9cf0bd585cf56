-- The record that a judge has before it.
use Rattle.std.specs.Prelude.{ℕ, Bool, List, Ok, Err, Result}
use Rattle.rules.specs.declared.refusal.JudgeFault.{JudgeFault}
use Rattle.rules.specs.declared.table.Table.{Table}
use Rattle.judging.specs.Answers.{judge_answer}
use Rattle.judging.specs.declared.judged.Judged.{Judged}
use Rattle.judging.specs.declared.refusal.Refusal.{Refusal}

-- the table, the stamps and the rows
pub record Case : Type 0 where
  pub table : Table
  pub stamps : List ℕ
  pub rows : List ℕ

abbrev pub case_from : Table → List ℕ → List ℕ → Case
case_from table stamps rows = record { table = table; stamps = stamps; rows = rows }

abbrev pub case_of : Judged → Case
case_of j = case_from j.table.now j.record.stamps.now j.record.rows.now

abbrev pub case_answer : Case → ℕ → ℕ → Result Bool JudgeFault
case_answer c rule state = judge_answer c.table c.stamps c.rows rule state

abbrev pub before_judge : Result Judged Refusal → Result Case JudgeFault
before_judge (Ok j) = Ok (case_of j)
before_judge (Err e) = Err e.fault
