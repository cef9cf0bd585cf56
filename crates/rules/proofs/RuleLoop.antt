-- What the loop over rules keeps.
use Rattle.std.proofs.Common.{◌≡◌, ℕ, suc, ◌+◌, ◌-◌, ◌<◌, ◌≤◌, Bool, true, false, cond, eqb, ltb, List, [], ◌∷◌, ◌++◌, length, sym, refl, ap, ◌∙◌, append_assoc, arith, length-append, ltb-true}
use Rattle.items.specs.declared.item.Item.{Item}
use Rattle.grammar.specs.declared.fault.ReadFault.{ReadFault as Fault}
use Rattle.grammar.specs.Reading.{State, Outcome, done, stop, then, next, is, fault_at}
use Rattle.syntax.specs.declared.Rule.{Rule}
use Rattle.grammar.specs.Files.{rule_opening, rule, at_end, rules, all_rules}
use Rattle.std.proofs.lemmas.Bool.{false≢true}
use Rattle.grammar.proofs.FileInversion.{ruled}
use Rattle.grammar.proofs.Inversion.{stopped}
use Rattle.items.specs.declared.item.Kind.TheVariants as kind
use Rattle.grammar.specs.declared.fault.FaultKind.TheVariants as fault

abbrev pub prefixed : List Rule → Outcome (List Rule) → Outcome (List Rule)
prefixed acc o = then o (λ rs t. done (acc ++ rs) t)

pub record Sofar (s0 : State) (acc : List Rule) (least : ℕ) (s : State) : Type 0 where
  pub whole : all_rules s0 ≡ prefixed acc (rules (16 - length acc) least s)
  pub few : length acc ≤ 16

none_before : (o : Outcome (List Rule)) → o ≡ prefixed [] o
none_before (done rs t) = refl
none_before (stop f) = refl

pub begin : (s : State) → Sofar s [] 1 s
unfolding all_rules
begin s = record { whole = none_before (rules 16 1 s); few = omega arith }

one_more : (acc : List Rule) (r : Rule) (o : Outcome (List Rule)) → prefixed acc (then o (λ rs v. done (r ∷ rs) v)) ≡ prefixed (acc ++ (r ∷ [])) o
one_more acc r (done rs t) = ap (λ x. done x t) (sym (append_assoc acc (r ∷ []) rs))
one_more acc r (stop f) = refl

at_more : {V : Type 0} (items : List Item) (a b : Outcome V) → 0 < length items → at_end items a b ≡ b
at_more [] a b h = absurd (omega arith)
at_more (it ∷ items) a b h = refl

-- the opening bracket
opened_by : (b : Bool) (o : Outcome (Unit {0})) (f : Fault) (t : State) → ◌≡◌ {A = Outcome (Unit {0})} (then o (λ _ u. cond b (done tt u) (stop f))) (done tt t) → (b ≡ true) × (o ≡ done tt t)
opened_by true (done v u) f t h = (refl, h)
opened_by false (done v u) f t h = absurd (stopped h)
opened_by b (stop e) f t h = absurd (stopped h)

module _ (s0 : State) (acc : List Rule) (least : ℕ) (s : State) (h : Sofar s0 acc least s) (some : 0 < length s.rest) where
  pub more : (t : State) (r : Rule) (u : State) → rule_opening (length acc) s ≡ done tt t → rule least t ≡ done r u → Sofar s0 (acc ++ (r ∷ [])) (r.number + 1) u
  more t r u p q =
      let o = opened_by (ltb (length acc) 16) (next (is kind.Open) s) (fault_at s fault.TooMany) t p in
      let lt : length acc < 16 = ltb-true (length acc) 16 o.0 in
      let k : 16 - length acc ≡ suc (15 - length acc) = omega arith in
      let l : 16 - length (acc ++ (r ∷ [])) ≡ 15 - length acc = simp length-append (omega arith) in
      let step : rules (suc (15 - length acc)) least s ≡ then (rules (15 - length acc) (r.number + 1) u) (λ rs v. done (r ∷ rs) v) = at_more s.rest (done [] s) _ some ∙ ap (λ x. then x (λ _ y. then (rule least y) (λ z w. then (rules (15 - length acc) (z.number + 1) w) (λ zs m. done (z ∷ zs) m)))) o.1 ∙ ap (λ x. then x (λ z w. then (rules (15 - length acc) (z.number + 1) w) (λ zs m. done (z ∷ zs) m))) q in
      record {
        whole = h.whole ∙ ap (λ n. prefixed acc (rules n least s)) k ∙ ap (prefixed acc) step ∙ one_more acc r (rules (15 - length acc) (r.number + 1) u) ∙ ap (λ n. prefixed (acc ++ (r ∷ [])) (rules n (r.number + 1) u)) (sym l);
        few = simp length-append (omega arith);
      }

-- a rule's number is small
pub number_small : (least : ℕ) (s : State) (r : Rule) (t : State) → rule least s ≡ done r t → r.number ≤ 99
number_small least s r t h = (ruled least s r t h).fit.1

pub not_empty : (items : List Item) → false ≡ eqb (length items) 0 → 0 < length items
not_empty [] h = absurd (false≢true h)
not_empty (it ∷ items) h = omega arith
