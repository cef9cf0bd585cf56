-- The texts of nodes and rules, from those of their parts.
use mathlib.Core.Logic.{∥∥₁_elim, ∥∥₁_map}
use Rattle.std.proofs.Common.{◌≡◌, ℕ, zero, suc, ◌+◌, ◌<◌, max, true, ltb, List, [], ◌∷◌, ◌++◌, map, length, get_or, codes, sym, refl, ap, ◌∙◌, append_assoc, arith, ltb-true, rules}
use Rattle.std.specs.List.{flat_map}
use Rattle.std.proofs.Math.Bool.{Bool-set}
use Rattle.std.proofs.lemmas.Bool.{and_parts}
use Rattle.std.proofs.lemmas.List.{length-map, get_or-map}
use Rattle.std.proofs.lemmas.List.Concat.{flat_map-cons}
use Rattle.syntax.specs.declared.Node.{Node}
use Rattle.syntax.specs.declared.Node.TheVariants.{True}
use Rattle.syntax.specs.declared.Rule.{Rule}
use Rattle.syntax.specs.Nodes.{rooted}
use Rattle.items.specs.Tokens.{word_text}
use Rattle.grammar.specs.Entries.{Entry, entry_of}
use Rattle.grammar.specs.Ordered.{all_below, ordered}
use Rattle.grammar.specs.TableText.{arg_text, spaced, entry_text, node_text, rule_text, rules_text, texts}
use Rattle.grammar.proofs.OrderedNodes.{formed_ordered, text_at}
use Rattle.grammar.proofs.TableText.{table_back}
use Rattle.rules.specs.declared.table.Table.{Table}
use Rattle.rules.specs.Tables.{nodes_of, rules_of, entries_of}
use Rattle.writer.specs.Writing.{ReadAgain, rule_texts}
use Rattle.writer.specs.Parts.{head_text}
use Rattle.writer.specs.Places.{Gains}
use Rattle.writer.specs.declared.sink.Sink.{Sink}
use Rattle.writer.proofs.Places.{then_gains, gains_same}

-- texts one after another
pub spaced_is : {A : Type 0} (text : A → List ℕ) (xs : List A) → flat_map (λ x. 32 ∷ text x) xs ≡ spaced (map text xs)
spaced_is text [] = refl
spaced_is text (x ∷ xs) = flat_map-cons (λ y. 32 ∷ text y) x xs ∙ ap (λ t. 32 ∷ (text x ++ t)) (spaced_is text xs)

pub rules_are : (ts : List (List ℕ)) (rs : List Rule) → flat_map (rule_text ts) rs ≡ rules_text ts rs
rules_are ts [] = refl
rules_are ts (r ∷ rs) = flat_map-cons (rule_text ts) r rs ∙ ap (λ t. rule_text ts r ++ t) (rules_are ts rs)

-- each rule's node is one of the nodes
pub root_at : (n : ℕ) (rs : List Rule) (i : ℕ) (d : Rule) → rooted n rs ≡ true → i < length rs → (get_or rs i d).root < n
root_at n [] i d h lt = absurd (omega arith)
root_at n (r ∷ rs) zero d h lt = ltb-true r.root n (and_parts (ltb r.root n) (rooted n rs) h).0
root_at n (r ∷ rs) (suc i) d h lt = root_at n rs i d (and_parts (ltb r.root n) (rooted n rs) h).1 (omega arith)

pub rule_root : (t : Table) (rs : List Rule) (i : ℕ) (d r : Rule) → rs ≡ rules_of t → i < length rs → r ≡ get_or rs i d → r.root < length (nodes_of t)
rule_root t rs i d r same lt is =
    let roots : rooted (length (nodes_of t)) (rules_of t) ≡ true = search rules in
    rw is (rw same (root_at (length (nodes_of t)) (rules_of t) i d roots (rw same at lt)))

pub text_of_rule : (t : Table) (rs : List Rule) (i : ℕ) (d r : Rule) → rs ≡ rules_of t → i < length rs → r ≡ get_or rs i d → rule_text (texts [] (entries_of t)) r ≡ get_or (rule_texts t) i []
text_of_rule t rs i d r same lt is = rw is (rw same (sym (get_or-map (rule_text (texts [] (entries_of t))) (rules_of t) i d [] (rw same at lt))))

-- the least number past all operands
abbrev pub above : List ℕ → ℕ
above [] = 0
above (o ∷ os) = max (o + 1) (above os)

pub under_above : (os : List ℕ) (i : ℕ) → i < length os → get_or os i 0 < above os
under_above [] i lt = absurd (omega arith)
under_above (o ∷ os) zero lt = omega arith
under_above (o ∷ os) (suc i) lt = omega (arith, under_above os i (omega arith))

pub operand_below : (n : ℕ) (os : List ℕ) (i : ℕ) → all_below n os ≡ true → i < length os → get_or os i 0 < n
operand_below n [] i h lt = absurd (omega arith)
operand_below n (o ∷ os) zero h lt = ltb-true o n (and_parts (ltb o n) (all_below n os) h).0
operand_below n (o ∷ os) (suc i) h lt = operand_below n os i (and_parts (ltb o n) (all_below n os) h).1 (omega arith)

-- a node's text is its head, the texts of its operands, and a bracket
entry_split : (e : Entry) (os : List (List ℕ)) → head_text e ++ (spaced os ++ codes ")") ≡ entry_text e os
entry_split e os = ap (λ x. codes "(" ++ x) (append_assoc (word_text e.word) (spaced (map arg_text e.args)) (spaced os ++ codes ")"))

module _ (t : Table) where
  table_ordered : ordered 0 (entries_of t) ≡ true
  table_ordered = ∥∥₁_elim t.formed (Bool-set _ _) (formed_ordered (entries_of t) (rules_of t))

  pub node_gains : {a b c d m : Sink} (n : ℕ) (x : Node) (os : List ℕ) → n < length (nodes_of t) → x ≡ get_or (nodes_of t) n True → os ≡ (entry_of x).operands → Gains a b (head_text (entry_of x)) → Gains b c (spaced (map (λ o. get_or (texts [] (entries_of t)) o []) os)) → m ≡ c → Gains m d (codes ")") → Gains a d (get_or (texts [] (entries_of t)) n [])
  node_gains n x os lt is operands head below at close =
      let T = texts [] (entries_of t) in
      let e = entry_of x in
      let long : n < length (entries_of t) = omega (arith, length-map (nodes_of t) entry_of) in
      let here : get_or (entries_of t) n e ≡ e = get_or-map entry_of (nodes_of t) n True e lt ∙ ap entry_of (sym is) in
      let text : get_or T n [] ≡ node_text T e = text_at (entries_of t) n e table_ordered long ∙ ap (node_text T) here in
      let split : head_text e ++ (spaced (map (λ o. get_or T o []) os) ++ codes ")") ≡ get_or T n [] = ap (λ l. head_text e ++ (spaced (map (λ o. get_or T o []) l) ++ codes ")")) operands ∙ entry_split e (map (λ o. get_or T o []) e.operands) ∙ sym text in
      gains_same split (then_gains head (then_gains below (rw at at close)))

  -- the text of a table with a rule is read as that table
  pub read_again : ReadAgain t
  read_again some = ∥∥₁_map t.formed (λ f. table_back (entries_of t) (rules_of t) f some)
