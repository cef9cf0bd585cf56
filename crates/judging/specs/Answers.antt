-- What the judge answers.
use Rattle.std.specs.Prelude.{ℕ, Bool, false, cond, ◌&&◌, List, [], ◌∷◌, ◌++◌, length, is_some, Ok, Err, Result, ◌==◌, nat_le, nat_lt}
use Rattle.std.specs.List.{list_all}
use Rattle.std.specs.Option.{unwrap_or}
use Rattle.truth.specs.Kleene.{plain}
use Rattle.syntax.specs.Formula.{Formula}
use Rattle.syntax.specs.Nodes.{root_of, formula_at}
use Rattle.rules.specs.declared.refusal.JudgeFault.{JudgeFault}
use Rattle.rules.specs.declared.refusal.JudgeFault.TheVariants.{Record, Stamp, UnknownRule, NoSuchState}
use Rattle.rules.specs.declared.table.Table.{Table}
use Rattle.rules.specs.Tables.{nodes_of, rules_of}
use Rattle.eval.specs.Rows.{row_record}
use Rattle.eval.specs.Stamps.{rising}
use Rattle.eval.specs.Truth.{value}

-- no stamp is above the limit
abbrev pub none_above : ℕ → List ℕ → Bool
none_above limit = list_all (λ t. nat_le t limit)

-- as many rows as stamps, and at most 512
abbrev pub paired : List ℕ → List ℕ → Bool
paired stamps rows = length stamps == length rows && nat_le (length stamps) 512

-- each stamp later than the one before, and none above 4,000,000,000
abbrev pub timely : List ℕ → Bool
timely stamps = rising stamps && none_above 4000000000 stamps

-- a refusal that fits where something is not as it should be
abbrev pub unless : Bool → JudgeFault → List JudgeFault
unless good fault = cond good [] (fault ∷ [])

-- the refusals that fit a record, and those that fit a question on it, by rising numbers
abbrev pub record_refusals : List ℕ → List ℕ → List JudgeFault
record_refusals stamps rows = unless (paired stamps rows) Record ++ unless (timely stamps) Stamp

abbrev pub question_refusals : Table → List ℕ → ℕ → ℕ → List JudgeFault
question_refusals table stamps rule state =
    unless (is_some (root_of rule (rules_of table))) UnknownRule ++ unless (nat_lt state (length stamps)) NoSuchState

-- the first refusal, or the answer where none fits
abbrev pub answered : {X : Type 0} → List JudgeFault → X → Result X JudgeFault
answered [] x = Ok x
answered (fault ∷ rest) x = Err fault

-- the formula of the rule with a number
abbrev pub rule_formula : Table → ℕ → Formula
rule_formula table rule = formula_at (nodes_of table) (unwrap_or (root_of rule (rules_of table)) 0)

-- the plain truth of a rule at a state of the finished record
abbrev pub plain_truth : Table → List ℕ → List ℕ → ℕ → ℕ → Bool
plain_truth table stamps rows rule state = value plain (row_record plain stamps rows false) (rule_formula table rule) state

abbrev pub judge_answer : Table → List ℕ → List ℕ → ℕ → ℕ → Result Bool JudgeFault
judge_answer table stamps rows rule state =
    answered (record_refusals stamps rows ++ question_refusals table stamps rule state) (plain_truth table stamps rows rule state)
