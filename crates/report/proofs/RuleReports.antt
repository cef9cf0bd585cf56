-- Reports on rules, one after another.
use Rattle.std.proofs.Common.{◌≡◌, ℕ, ◌+◌, ◌<◌, ◌≤◌, true, List, [], ◌∷◌, ◌++◌, length, get_or, take, drop, sym, refl, ap, ◌∙◌, append-nil}
use Rattle.std.specs.List.{flat_map}
use Rattle.std.proofs.lemmas.List.{take_more, take_all}
use Rattle.std.proofs.lemmas.List.Concat.{flat_map-cons}
use Rattle.std.proofs.lemmas.Grind.{flat_map-append}
use Rattle.syntax.specs.declared.Rule.{Rule}
use Rattle.rules.specs.declared.table.Table.{Table}
use Rattle.rules.specs.Tables.{nodes_of, rules_of}
use Rattle.report.specs.Reports.{rule_report, rules_report}
use Rattle.report.proofs.Sizes.{counted, table_counted, next_counted}

rules_are : (t : Table) (rs : List Rule) → flat_map (rule_report t) rs ≡ rules_report t rs
rules_are t [] = refl
rules_are t (r ∷ rs) = flat_map-cons (rule_report t) r rs ∙ ap (λ x. rule_report t r ++ x) (rules_are t rs)

-- what is written, and what is still to come, whose formulas are counted from the first node not yet passed
pub record Sofar (t : Table) (rs : List Rule) (i before : ℕ) (out : List ℕ) : Type 0 where
  pub whole : out ≡ flat_map (rule_report t) (take i rs)
  pub count : counted (nodes_of t) before (drop i rs) ≡ true

pub none_yet : (t : Table) → Sofar t (rules_of t) 0 0 []
none_yet t = record { whole = refl; count = table_counted t }

pub one_more : {t : Table} {rs : List Rule} {i before : ℕ} {out : List ℕ} (after : List ℕ) (r d : Rule) → r ≡ get_or rs i d → i < length rs → Sofar t rs i before out → after ≡ out ++ rule_report t r → Sofar t rs (i + 1) (r.root + 1) after
one_more {t} {rs} {i} {before} {out} after r d is lt h e =
    let f = rule_report t in
    let one : flat_map f (r ∷ []) ≡ f r = flat_map-cons f r [] ∙ append-nil (f r) in
    record {
      whole = e ∙ ap (λ x. x ++ f r) h.whole ∙ ap (λ x. flat_map f (take i rs) ++ x) (sym one) ∙ sym (flat_map-append f (take i rs) (r ∷ [])) ∙ ap (λ q. flat_map f (take i rs ++ q ∷ [])) is ∙ ap (flat_map f) (sym (take_more rs i d lt));
      count = next_counted (nodes_of t) before rs i d r is lt h.count;
    }

pub all_done : {t : Table} {rs : List Rule} {i before : ℕ} {out : List ℕ} → length rs ≤ i → Sofar t rs i before out → out ≡ rules_report t rs
all_done {t} {rs} {i} le h = h.whole ∙ ap (flat_map (rule_report t)) (take_all i rs le) ∙ rules_are t rs
