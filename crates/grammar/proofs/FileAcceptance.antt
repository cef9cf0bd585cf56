-- The text of well-formed rules is read as them.
use Rattle.std.proofs.Common.{◌≡◌, ℕ, zero, suc, ◌+◌, ◌≤◌, true, List, [], ◌∷◌, length, pos, Some, refl, ap, ◌∙◌, arith, le-leb}
use lib.Signed.{mag}
use Rattle.std.proofs.lemmas.Bool.{and_from}
use Rattle.items.specs.declared.item.Place.{Place}
use Rattle.items.specs.declared.item.Item.{Item}
use Rattle.grammar.specs.declared.shape.Slot.{Slot}
use Rattle.grammar.specs.declared.shape.Slot.TheVariants.{Upper}
use Rattle.grammar.specs.Entries.{Entry}
use Rattle.grammar.specs.Reading.{State, Outcome, done, then, next, left, is, argument, formula}
use Rattle.items.specs.declared.item.Kind.{Kind}
use Rattle.items.specs.Items.{kind_number, item_number}
use Rattle.items.specs.Tokens.{tokens}
use Rattle.grammar.specs.Trees.{Tree, tree_tokens, inside, fits, Well}
use Rattle.syntax.specs.declared.Rule.{Rule}
use Rattle.grammar.specs.Files.{rule_of, rule_number, rule, at_end, rules, all_rules, start_of, file, Line, lines_tokens, lines_nodes, lines_rules, formulas, Numbered, WellLines, WellFile}
use Rattle.grammar.proofs.Acceptance.{first, next_kind, next_ok, argument_ok, after, formula_accepted}
use Rattle.items.specs.declared.item.Kind.TheVariants as kind

abbrev number_slot : Slot
number_slot = Upper (pos 1) (pos 99)

-- the state after lines
abbrev after_lines : State → List Line → List Item → State
after_lines s ls items = record { rest = items; past = s.past; opened = s.opened + formulas ls; nodes = lines_nodes s.nodes ls }

record Ruled (least z : ℕ) (tree : Tree) (s : State) (r : List Kind) : Type 0 where
  rest : List Item
  reads : rule least s ≡ done (rule_of z (length s.nodes + inside tree)) (after s tree rest)
  are : tokens rest ≡ r

pub rule_then : (least : ℕ) (s a b c d e f g : State) (it : Item) (n : ℕ) → next (is kind.Rule) s ≡ done tt a → next (is kind.Space) a ≡ done tt b → rule_number least b ≡ done it c → next (is kind.Space) c ≡ done tt d → formula 12 d ≡ done n e → next (is kind.Close) e ≡ done tt f → next (is kind.Newline) f ≡ done tt g → rule least s ≡ done (rule_of (mag (item_number it)) n) g
rule_then least s a b c d e f g it n p q r t u v w = rw (p, q, r, t, u, v, w)

number_fits : (least n : ℕ) → Numbered least n → fits number_slot (pos least) (Some (pos n)) ≡ true
number_fits least n h = and_from _ _ (and_from _ _ (le-leb 1 n h.0) (le-leb n 99 h.1)) (le-leb least n h.2)

ruled : (least z : ℕ) (tree : Tree) (s : State) (r : List Kind) → Numbered least z → Well 12 tree → s.opened + (inside tree + 1) ≤ 64 → tokens s.rest ≡ kind.Rule ∷ kind.Space ∷ kind.Number (pos z) ∷ kind.Space ∷ tree_tokens tree (kind.Close ∷ kind.Newline ∷ r) → Ruled least z tree s r
ruled least z tree s r fit well few e =
    let a = next_kind kind.Rule s _ refl e in
    let b = next_kind kind.Space (left s a.rest) _ refl a.are in
    let f = first b.rest (kind.Number (pos z)) _ b.are in
    let x = argument_ok number_slot (pos least) (Some (pos z)) f.item (number_fits least z fit) f.is_token in
    let y : item_number f.item ≡ pos z = ap kind_number f.is_token in
    let n = next_ok (argument number_slot (pos least)) f.item (left s b.rest) f.item f.rest f.is_first x.0 in
    let d = next_kind kind.Space (left s f.rest) _ refl f.are in
    let m = formula_accepted 12 tree (left s d.rest) (kind.Close ∷ kind.Newline ∷ r) well few d.are in
    let g = next_kind kind.Close (after s tree m.rest) _ refl m.are in
    let h = next_kind kind.Newline (after s tree g.rest) r refl g.are in
    record { rest = h.rest; reads = rule_then least s _ _ _ _ _ _ _ f.item _ a.reads b.reads n d.reads m.reads g.reads h.reads ∙ ap (λ u. done (rule_of (mag u) (length s.nodes + inside tree)) (after s tree h.rest)) y; are = h.are }

nothing : (items : List Item) → tokens items ≡ [] → items ≡ []
nothing [] h = refl
nothing (it ∷ items) h = absurd cc

none_left : {V : Type 0} (s : State) (items : List Item) (v : V) (o : Outcome V) → items ≡ [] → at_end items (done v s) o ≡ done v s
none_left s items v o e = rw e

some_left : {V : Type 0} (items : List Item) (it : Item) (more : List Item) (a o : Outcome V) → items ≡ it ∷ more → at_end items a o ≡ o
some_left items it more a o e = rw e

pub rules_then : (k least : ℕ) (s : State) (it : Item) (more : List Item) (t u v : State) (r : Rule) (rs : List Rule) → s.rest ≡ it ∷ more → next (is kind.Open) s ≡ done tt t → rule least t ≡ done r u → rules k (r.number + 1) u ≡ done rs v → rules (suc k) least s ≡ done (r ∷ rs) v
rules_then k least s it more t u v r rs e p q h =
    some_left s.rest it more (done [] s) (then (next (is kind.Open) s) _) e ∙ ap (λ x. then x (λ _ y. then (rule least y) (λ z w. then (rules k (z.number + 1) w) (λ zs m. done (z ∷ zs) m)))) p ∙ ap (λ x. then x (λ z w. then (rules k (z.number + 1) w) (λ zs m. done (z ∷ zs) m))) q ∙ ap (λ x. then x (λ zs m. done (r ∷ zs) m)) h

opened_same : (items : List Item) (past : Place) (ns : List Entry) (rs : List Rule) (a b : ℕ) → a ≡ b → ◌≡◌ {A = Outcome (List Rule)} (done rs (record { rest = items; past = past; opened = a; nodes = ns })) (done rs (record { rest = items; past = past; opened = b; nodes = ns }))
opened_same items past ns rs a b e = cc

pub rules_accepted : (k least : ℕ) (ls : List Line) (s : State) → WellLines k least ls → s.opened + formulas ls ≤ 64 → tokens s.rest ≡ lines_tokens ls → rules k least s ≡ done (lines_rules s.nodes ls) (after_lines s ls [])
rules_accepted zero least [] s w few e =
    let n = nothing s.rest e in
    none_left s s.rest [] _ n ∙ ap (λ r. done [] (left s r)) n ∙ opened_same [] s.past s.nodes [] _ _ (omega arith)
rules_accepted zero least (l ∷ ls) s w few e = absurd w
rules_accepted (suc k) least [] s w few e =
    let n = nothing s.rest e in
    none_left s s.rest [] _ n ∙ ap (λ r. done [] (left s r)) n ∙ opened_same [] s.past s.nodes [] _ _ (omega arith)
rules_accepted (suc k) least (l ∷ ls) s w few e =
    let f = first s.rest kind.Open _ e in
    let o = next_kind kind.Open s _ refl e in
    let r = ruled least l.number l.tree (left s o.rest) (lines_tokens ls) w.0 w.1 (omega arith) o.are in
    let m = rules_accepted k (l.number + 1) ls (after s l.tree r.rest) w.2 (omega arith) r.are in
    rules_then k least s f.item f.rest _ _ _ _ _ f.is_first o.reads r.reads m ∙ opened_same [] s.past _ _ _ _ (omega arith)

-- the text of well-formed rules is read as them
pub file_accepted : (ls : List Line) (items : List Item) (end : Place) → WellFile ls → tokens items ≡ lines_tokens ls → file items end ≡ done (lines_rules [] ls) (record { rest = []; past = end; opened = formulas ls; nodes = lines_nodes [] ls })
unfolding all_rules
file_accepted [] items end w e = absurd (omega (arith, w.some))
file_accepted (l ∷ ls) items end w e =
    let f = first items kind.Open _ e in
    some_left items f.item f.rest _ _ f.is_first ∙ rules_accepted 16 1 (l ∷ ls) (start_of items end) w.lines (omega (arith, w.few)) e ∙ opened_same [] end (lines_nodes [] (l ∷ ls)) (lines_rules [] (l ∷ ls)) _ _ (omega arith)
