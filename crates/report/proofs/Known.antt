-- A table finds each of its own rules by its number.
use Rattle.std.proofs.Common.{◌≡◌, ℕ, zero, suc, ◌+◌, ◌<◌, ◌≤◌, true, ◌&&◌, leb, List, [], ◌∷◌, length, get_or, Some, None, refl, ap, ◌∙◌, arith}
use Rattle.std.proofs.lemmas.Bool.{cond-true, cond-false, and_parts, eq-eqb, ne_eqb, leb-true}
use Rattle.syntax.specs.declared.Rule.{Rule}
use Rattle.syntax.specs.Formula.{reach}
use Rattle.syntax.specs.Nodes.{root_of, formula_at}
use Rattle.grammar.specs.Invariants.{rising}
use Rattle.rules.specs.declared.table.Table.{Table}
use Rattle.rules.specs.Tables.{nodes_of, rules_of}
use Rattle.rules.specs.Reaches.{root_reach, rule_reach}
use Rattle.std.specs.Result.{result_unwrap_or}

-- the first of rising numbers, and the others
first : (least : ℕ) (r : Rule) (rs : List Rule) → rising least (r ∷ rs) ≡ true → least ≤ r.number
first least r rs h = leb-true least r.number (and_parts (leb least r.number) (leb r.number 99 && rising (r.number + 1) rs) h).0

others : (least : ℕ) (r : Rule) (rs : List Rule) → rising least (r ∷ rs) ≡ true → rising (r.number + 1) rs ≡ true
others least r rs h = (and_parts (leb r.number 99) (rising (r.number + 1) rs) (and_parts (leb least r.number) (leb r.number 99 && rising (r.number + 1) rs) h).1).1

module _ (d : Rule) where
  later : (least : ℕ) (rs : List Rule) (i : ℕ) → rising least rs ≡ true → i < length rs → least ≤ (get_or rs i d).number
  later least [] i h lt = absurd (omega arith)
  later least (r ∷ rs) zero h lt = first least r rs h
  later least (r ∷ rs) (suc i) h lt = omega (arith, first least r rs h, later (r.number + 1) rs i (others least r rs h) (omega arith))

  found : (least : ℕ) (rs : List Rule) (i : ℕ) → rising least rs ≡ true → i < length rs → root_of (get_or rs i d).number rs ≡ Some (get_or rs i d).root
  found least [] i h lt = absurd (omega arith)
  found least (r ∷ rs) zero h lt = cond-true _ _ _ (eq-eqb r.number r.number refl)
  found least (r ∷ rs) (suc i) h lt =
      let other : r.number ≡ (get_or rs i d).number → ⊥ = λ e. omega (arith, later (r.number + 1) rs i (others least r rs h) (omega arith)) in
      cond-false _ _ _ (ne_eqb r.number (get_or rs i d).number other) ∙ found (r.number + 1) rs i (others least r rs h) (omega arith)

  -- so the reach that it answers is that of the rule's formula
  pub own_reach : (t : Table) (i : ℕ) (r : Rule) → r ≡ get_or (rules_of t) i d → i < length (rules_of t) → result_unwrap_or (rule_reach r.number (nodes_of t) (rules_of t)) None ≡ reach (formula_at (nodes_of t) r.root)
  own_reach t i r is lt = rw is (ap (λ o. result_unwrap_or (root_reach (nodes_of t) o) None) (found 1 (rules_of t) i t.risen lt))
