-- The judge's answers from the values of all nodes.
use Rattle.std.proofs.Common.{◌≡◌, ℕ, ◌+◌, ◌*◌, ◌<◌, Bool, true, false, ◌++◌, length, get_or, is_some, Some, Ok, vec_items, vec_len, unwrap_or, sym, ap, ◌∙◌}
use Rattle.std.proofs.lemmas.Bool.{lt-ltb}
use Rattle.truth.specs.Kleene.{plain}
use Rattle.syntax.specs.Nodes.{root_of, formula_at}
use Rattle.rules.specs.declared.refusal.JudgeFault.TheVariants.{Record, Stamp, UnknownRule, NoSuchState}
use Rattle.rules.specs.Tables.{nodes_of, rules_of}
use Rattle.eval.specs.Rows.{row_record}
use Rattle.eval.specs.Truth.{value}
use Rattle.eval.proofs.Filling.{all_values_at, length_all_values}
use Rattle.eval.proofs.Places.{place_within}
use Rattle.judging.specs.Answers.{unless, answered, plain_truth}
use Rattle.judging.specs.Judged.{case_of, case_answer}
use Rattle.judging.specs.declared.judged.Judged.{Judged}

-- where nothing speaks against the question the answer stands
pub no_refusal : {X : Type 0} (p t s l : Bool) (x : X) → p ≡ true → t ≡ true → s ≡ true → l ≡ true
    → answered ((unless p Record ++ unless t Stamp) ++ (unless s UnknownRule ++ unless l NoSuchState)) x ≡ Ok x
no_refusal p t s l x ep et es el = rw (ep, et, es, el)

module _ (j : Judged) (rule state m : ℕ) (root : Some m ≡ root_of rule (rules_of j.table.now))
    (within : m < length (nodes_of j.table.now)) (here : state < length j.record.stamps.now) where
  pub answer_place : state * length (nodes_of j.table.now) + m < vec_len j.values
  answer_place =
      place_within state (length (nodes_of j.table.now)) m (length j.record.stamps.now) (vec_len j.values) here within
      (j.values.ok.0 ∙ ap length j.evaluated ∙ length_all_values plain (row_record plain j.record.stamps.now j.record.rows.now false) (nodes_of j.table.now))

  pub answer_is : (x : Bool) → x ≡ get_or (vec_items j.values) (state * length (nodes_of j.table.now) + m) x → Ok x ≡ case_answer (case_of j) rule state
  answer_is x read =
      let r = row_record plain j.record.stamps.now j.record.rows.now false in
      let is : x ≡ value plain r (formula_at (nodes_of j.table.now) (unwrap_or (root_of rule (rules_of j.table.now)) 0)) state =
      read ∙ ap (λ vs. get_or vs (state * length (nodes_of j.table.now) + m) x) j.evaluated
      ∙ all_values_at plain r (nodes_of j.table.now) state m x here within
      ∙ ap (λ o. value plain r (formula_at (nodes_of j.table.now) (unwrap_or o 0)) state) root in
      ap Ok is ∙ sym (no_refusal _ _ _ _ _ j.record.pairs j.record.timed (sym (ap is_some root)) (lt-ltb state (length j.record.stamps.now) here))

-- a known rule at a state of the record has its plain truth
pub answered_plainly : (j : Judged) (rule state : ℕ) → is_some (root_of rule (rules_of j.table.now)) ≡ true → state < length j.record.stamps.now
    → case_answer (case_of j) rule state ≡ Ok (plain_truth j.table.now j.record.stamps.now j.record.rows.now rule state)
answered_plainly j rule state known here = no_refusal _ _ _ _ _ j.record.pairs j.record.timed known (lt-ltb state (length j.record.stamps.now) here)
