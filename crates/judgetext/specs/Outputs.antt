-- What the judge writes for a rule file and a record, both given as text.
use Rattle.std.specs.Prelude.{◌≡◌, ℕ, zero, suc, ◌⊎◌, List, [], ◌∷◌, ◌++◌, length, Ok, Err}
use Rattle.syntax.specs.declared.Rule.{Rule}
use Rattle.grammar.specs.declared.fault.ReadFault.{ReadFault}
use Rattle.grammar.specs.Faults.{fault_number}
use Rattle.rules.specs.declared.refusal.JudgeFault.{JudgeFault}
use Rattle.rules.specs.declared.table.Table.{Table}
use Rattle.rules.specs.Refusals.{judge_number}
use Rattle.rules.specs.Tables.{rules_of, Answers}
use Rattle.judging.specs.Answers.{record_refusals, plain_truth}
use Rattle.recordtext.specs.Texts.{record_text, Small, Bad, verdict_line, fault_line, refused_line, bad_line}

module _ (table : Table) (stamps rows : List ℕ) where
  -- a line for each rule at a state, and the lines of the first n states
  abbrev pub lines_at : ℕ → List Rule → List ℕ
  lines_at i [] = []
  lines_at i (r ∷ rs) = verdict_line r.number i (plain_truth table stamps rows r.number i) ++ lines_at i rs

  abbrev pub lines_upto : ℕ → List ℕ
  lines_upto zero = []
  lines_upto (suc n) = lines_upto n ++ lines_at n (rules_of table)

-- the first refusal, or the text where none fits
abbrev pub told : List JudgeFault → List ℕ → List ℕ
told [] text = text
told (fault ∷ rest) text = refused_line (judge_number fault)

abbrev pub verdicts : Table → List ℕ → List ℕ → List ℕ
verdicts table stamps rows = told (record_refusals stamps rows) (lines_upto table stamps rows (length stamps))

-- a record's text: the verdicts on it, or its first line outside the form
pub record Recorded (table : Table) (text out : List ℕ) : Type 0 where
  pub stamps : List ℕ
  pub rows : List ℕ
  pub paired : length stamps ≡ length rows
  pub small : Small stamps × Small rows
  pub is : text ≡ record_text stamps rows
  pub written : out ≡ verdicts table stamps rows

pub record Misformed (text out : List ℕ) : Type 0 where
  pub line : ℕ
  pub bad : Bad text line
  pub written : out ≡ bad_line line

-- a rule file with a fault: that fault alone
pub record Faulty (rules out : List ℕ) : Type 0 where
  pub fault : ReadFault
  pub is : Answers rules (Err fault)
  pub written : out ≡ fault_line (fault_number fault.kind) fault.place.line fault.place.byte

pub record Read (rules text out : List ℕ) : Type 0 where
  pub table : Table
  pub is : Answers rules (Ok table)
  pub written : Recorded table text out ⊎ Misformed text out

abbrev pub Output : List ℕ → List ℕ → List ℕ → Type 0
Output rules text out = Faulty rules out ⊎ Read rules text out
