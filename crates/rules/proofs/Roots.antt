-- The node of a rule, found by going through the rules.
use Rattle.std.proofs.Common.{◌≡◌, ℕ, ◌+◌, ◌<◌, ◌≤◌, true, eqb, ltb, List, [], ◌∷◌, length, get_or, drop, Some, None, Option, sym, ◌∙◌, ⊎_elim, arith}
use Rattle.std.proofs.lemmas.List.{at_drop_more, at_drop_all}
use Rattle.std.proofs.lemmas.Bool.{cond-true, cond-false, ltb-true, and_parts, eq-eqb, ne_eqb, cases_Bool}
use Rattle.syntax.specs.declared.Rule.{Rule}
use Rattle.syntax.specs.Nodes.{root_of, rooted}

module _ (number : ℕ) (rules : List Rule) (i : ℕ) (d : Rule) (left : root_of number (drop i rules) ≡ root_of number rules) where
  pub root_here : i < length rules → (get_or rules i d).number ≡ number → Some (get_or rules i d).root ≡ root_of number rules
  root_here lt is = sym (sym left ∙ at_drop_more (root_of number) rules i d lt ∙ cond-true _ _ _ (eq-eqb _ _ is))

  pub root_later : i < length rules → ((get_or rules i d).number ≡ number → ⊥) → root_of number (drop (i + 1) rules) ≡ root_of number rules
  root_later lt other = sym (at_drop_more (root_of number) rules i d lt ∙ cond-false _ _ _ (ne_eqb _ _ other)) ∙ left

  pub root_none : length rules ≤ i → None ≡ root_of number rules
  root_none le = sym (sym left ∙ at_drop_all (root_of number) rules i le)

some_same : (a b : ℕ) → ◌≡◌ {A = Option ℕ} (Some a) (Some b) → a ≡ b
some_same a b e = cc

-- the node of a rule is one of the nodes
pub root_below : (number n : ℕ) (rules : List Rule) (m : ℕ) → rooted n rules ≡ true → root_of number rules ≡ Some m → m < n
root_below number n [] m h e = let z : ◌≡◌ {A = ℕ} 0 1 = cc in absurd (omega arith)
root_below number n (r ∷ rs) m h e =
    let parts = and_parts (ltb r.root n) (rooted n rs) h in
    ⊎_elim
    (λ q. let same : r.root ≡ m = some_same _ _ (sym (cond-true _ _ _ q) ∙ e) in omega (arith, ltb-true _ _ parts.0))
    (λ q. root_below number n rs m parts.1 (sym (cond-false _ _ _ q) ∙ e))
    (cases_Bool (eqb r.number number))
