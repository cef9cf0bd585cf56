-- Lines of verdicts, added one after another.
use Rattle.std.proofs.Common.{◌≡◌, ℕ, zero, suc, ◌+◌, ◌<◌, ◌≤◌, true, eqb, List, [], ◌∷◌, ◌++◌, length, get_or, drop, is_some, Ok, Result, sym, refl, ap, subst, ◌∙◌, ap₂, ⊎_elim, append_assoc, append-nil, arith}
use Rattle.std.proofs.lemmas.List.{at_drop_more, at_drop_all}
use Rattle.std.proofs.lemmas.Bool.{cond-true, cond-false, eq-eqb, cases_Bool}
use Rattle.syntax.specs.declared.Rule.{Rule}
use Rattle.syntax.specs.Nodes.{root_of}
use Rattle.rules.specs.declared.table.Table.{Table}
use Rattle.rules.specs.Tables.{rules_of}
use Rattle.judging.specs.Answers.{plain_truth}
use Rattle.judging.specs.Judged.{case_of, case_answer}
use Rattle.judging.specs.declared.judged.Judged.{Judged}
use Rattle.judging.proofs.Truths.{answered_plainly}
use Rattle.recordtext.specs.Texts.{verdict_line}
use Rattle.judgetext.specs.Outputs.{lines_at, lines_upto}

-- a rule of the table is known by its number
pub known : (rules : List Rule) (i : ℕ) (d : Rule) → i < length rules → is_some (root_of (get_or rules i d).number rules) ≡ true
known [] i d lt = absurd (omega arith)
known (r ∷ rs) zero d lt = ap is_some (cond-true _ _ _ (eq-eqb r.number r.number refl))
known (r ∷ rs) (suc i) d lt =
    ⊎_elim
    (λ e. ap is_some (cond-true _ _ _ e))
    (λ e. ap is_some (cond-false _ _ _ e) ∙ known rs i d (omega arith))
    (cases_Bool (eqb r.number (get_or rs i d).number))

pub same_Ok : {X Y : Type 0} (x y : X) → ◌≡◌ {A = Result X Y} (Ok x) (Ok y) → x ≡ y
same_Ok x y e = cc

-- so the judge knows the plain truth of each rule at each state of its record
pub truth_known : (j : Judged) (rules : List Rule) (i state : ℕ) (d : Rule) → rules ≡ rules_of j.table.now → i < length rules → state < length j.record.stamps.now
    → case_answer (case_of j) (get_or rules i d).number state ≡ Ok (plain_truth j.table.now j.record.stamps.now j.record.rows.now (get_or rules i d).number state)
truth_known j rules i state d same lt here =
    answered_plainly j _ state (subst (λ rs. is_some (root_of (get_or rules i d).number rs) ≡ true) same (known rules i d lt)) here

module _ (table : Table) (stamps rows : List ℕ) (state : ℕ) (rules : List Rule) (start : List ℕ) where
  -- what is written, and what is still to write
  abbrev pub Written : List ℕ → ℕ → Type 0
  Written out i = out ++ lines_at table stamps rows state (drop i rules) ≡ start ++ lines_at table stamps rows state rules

  pub line_more : (i : ℕ) (d : Rule) (out after line : List ℕ) → i < length rules → Written out i
      → line ≡ verdict_line (get_or rules i d).number state (plain_truth table stamps rows (get_or rules i d).number state) → after ≡ out ++ line → Written after (i + 1)
  line_more i d out after line lt inv is pushed =
      let rest = lines_at table stamps rows state (drop (i + 1) rules) in
      ap (λ xs. xs ++ rest) (pushed ∙ ap (λ xs. out ++ xs) is)
      ∙ append_assoc out _ rest
      ∙ ap (λ xs. out ++ xs) (sym (at_drop_more (lines_at table stamps rows state) rules i d lt))
      ∙ inv

  pub lines_all : (i : ℕ) (out : List ℕ) → length rules ≤ i → Written out i → out ≡ start ++ lines_at table stamps rows state rules
  lines_all i out le inv =
      sym (append-nil out) ∙ ap (λ xs. out ++ xs) (sym (at_drop_all (lines_at table stamps rows state) rules i le)) ∙ inv

-- one state more
pub state_more : (table : Table) (stamps rows : List ℕ) (n : ℕ) (rules : List Rule) (out after : List ℕ) → rules ≡ rules_of table
    → out ≡ lines_upto table stamps rows n → after ≡ out ++ lines_at table stamps rows n rules → after ≡ lines_upto table stamps rows (n + 1)
state_more table stamps rows n rules out after same inv pushed =
    let more : n + 1 ≡ suc n = omega arith in
    pushed ∙ ap₂ (λ xs rs. xs ++ lines_at table stamps rows n rs) inv same ∙ ap (lines_upto table stamps rows) (sym more)
