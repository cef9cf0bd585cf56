-- The text of a table is the text of its lines.
use Rattle.std.proofs.Common.{◌≡◌, ℕ, ◌+◌, ◌<◌, List, [], ◌∷◌, ◌++◌, map, length, get_or, Some, None, codes, decimal, sym, refl, ap, ◌∙◌, subst, append_assoc, append-nil, arith, length-append}
use Rattle.std.proofs.lemmas.List.{get_or_append_left, get_or_push}
use Rattle.items.specs.declared.item.Form.{Form}
use Rattle.grammar.specs.Entries.{Arg, Entry, entry}
use Rattle.items.specs.declared.item.Kind.{Kind}
use Rattle.items.specs.Tokens.{word_text, kind_text, spell}
use Rattle.grammar.specs.TableText.{arg_text, spaced, entry_text, node_text, texts, rules_text, table_text}
use Rattle.items.specs.Items.{items, end_of}
use Rattle.grammar.specs.Reading.{State, done}
use Rattle.grammar.specs.Trees.{Tree, leaf, unary, binary, arg_token, arg_tokens, head_tokens, tree_tokens, inside, nodes_after}
use Rattle.syntax.specs.declared.Rule.{Rule}
use Rattle.grammar.specs.Files.{file, Line, lines_rules, lines_nodes, formulas, WellFile, lines_text}
use Rattle.grammar.proofs.Inversion.{length_after}
use Rattle.grammar.specs.RoundTrip.{ReadBack, TableBack}
use Rattle.grammar.proofs.RoundTrip.{written_back}

texts_append : (ts : List (List ℕ)) (xs ys : List Entry) → texts ts (xs ++ ys) ≡ texts (texts ts xs) ys
texts_append ts [] ys = refl
texts_append ts (x ∷ xs) ys = texts_append (ts ++ (node_text ts x ∷ [])) xs ys

length_texts : (ts : List (List ℕ)) (xs : List Entry) → length (texts ts xs) ≡ length ts + length xs
length_texts ts [] = omega arith
length_texts ts (x ∷ xs) = omega (arith, length_texts (ts ++ (node_text ts x ∷ [])) xs, length-append ts (node_text ts x ∷ []))

abbrev T : List Entry → List (List ℕ)
T ns = texts [] ns

-- one more node
more : (ns : List Entry) (e : Entry) → T (ns ++ (e ∷ [])) ≡ T ns ++ (node_text (T ns) e ∷ [])
more ns e = texts_append [] ns (e ∷ [])

more_front : (ns : List Entry) (e : Entry) (i : ℕ) → i < length ns → get_or (T (ns ++ (e ∷ []))) i [] ≡ get_or (T ns) i []
more_front ns e i h = ap (λ l. get_or l i []) (more ns e) ∙ get_or_append_left (T ns) (node_text (T ns) e ∷ []) [] i (omega (arith, length_texts [] ns))

more_last : (ns : List Entry) (e : Entry) (i : ℕ) → i ≡ length ns → get_or (T (ns ++ (e ∷ []))) i [] ≡ node_text (T ns) e
more_last ns e i h = ap (λ l. get_or l i []) (more ns e) ∙ get_or_push (T ns) (node_text (T ns) e) [] i (omega (arith, length_texts [] ns))

tree_front : (ns : List Entry) (tree : Tree) (i : ℕ) → i < length ns → get_or (T (nodes_after ns tree)) i [] ≡ get_or (T ns) i []
tree_front ns (leaf f xs) i h = more_front ns _ i h
tree_front ns (unary f xs a) i h = more_front (nodes_after ns a) _ i (omega (arith, length_after ns a)) ∙ tree_front ns a i h
tree_front ns (binary f xs a b) i h = more_front (nodes_after (nodes_after ns a) b) _ i (omega (arith, length_after ns a, length_after (nodes_after ns a) b)) ∙ tree_front (nodes_after ns a) b i (omega (arith, length_after ns a)) ∙ tree_front ns a i h

-- the text of a formula
abbrev tree_text : Tree → List ℕ
tree_text (leaf f xs) = entry_text (entry f xs []) []
tree_text (unary f xs a) = entry_text (entry f xs []) (tree_text a ∷ [])
tree_text (binary f xs a b) = entry_text (entry f xs []) (tree_text a ∷ tree_text b ∷ [])

tree_at : (ns : List Entry) (tree : Tree) → get_or (T (nodes_after ns tree)) (length ns + inside tree) [] ≡ tree_text tree
tree_at ns (leaf f xs) = more_last ns (entry f xs []) (length ns + 0) (omega arith)
tree_at ns (unary f xs a) =
    more_last (nodes_after ns a) _ (length ns + (inside a + 1)) (omega (arith, length_after ns a)) ∙ ap (λ t. entry_text (entry f xs []) (t ∷ [])) (tree_at ns a)
tree_at ns (binary f xs a b) =
    more_last (nodes_after (nodes_after ns a) b) _ (length ns + (inside a + 1 + (inside b + 1))) (omega (arith, length_after ns a, length_after (nodes_after ns a) b)) ∙
    ap (λ t. entry_text (entry f xs []) (t ∷ get_or (T (nodes_after (nodes_after ns a) b)) (length (nodes_after ns a) + inside b) [] ∷ [])) (tree_front (nodes_after ns a) b (length ns + inside a) (omega (arith, length_after ns a)) ∙ tree_at ns a) ∙
    ap (λ t. entry_text (entry f xs []) (tree_text a ∷ t ∷ [])) (tree_at (nodes_after ns a) b)

-- and its items' bytes
arg_spell : (x : Arg) → kind_text (arg_token x) ≡ arg_text x
arg_spell (Some z) = refl
arg_spell None = refl

args_spell : (xs : List Arg) (r : List Kind) → spell (arg_tokens xs r) ≡ spaced (map arg_text xs) ++ spell r
args_spell [] r = refl
args_spell (x ∷ xs) r = ap (λ t. 32 ∷ (t ++ spell (arg_tokens xs r))) (arg_spell x) ∙ ap (λ t. 32 ∷ (arg_text x ++ t)) (args_spell xs r) ∙ ap (λ t. 32 ∷ t) (sym (append_assoc (arg_text x) (spaced (map arg_text xs)) (spell r)))

head_spell : (f : Form) (xs : List Arg) (r : List Kind) → spell (head_tokens f xs r) ≡ 40 ∷ (word_text f ++ (spaced (map arg_text xs) ++ spell r))
head_spell f xs r = ap (λ t. 40 ∷ (word_text f ++ t)) (args_spell xs r)

closed : (f : Form) (xs : List Arg) (os : List (List ℕ)) (r : List ℕ) → 40 ∷ (word_text f ++ (spaced (map arg_text xs) ++ (spaced os ++ (41 ∷ r)))) ≡ entry_text (entry f xs []) os ++ r
closed f xs os r = simp append_assoc

tree_spell : (tree : Tree) (r : List Kind) → spell (tree_tokens tree r) ≡ tree_text tree ++ spell r
tree_spell (leaf f xs) r = head_spell f xs _ ∙ closed f xs [] (spell r)
tree_spell (unary f xs a) r =
    head_spell f xs _ ∙ ap (λ t. 40 ∷ (word_text f ++ (spaced (map arg_text xs) ++ (32 ∷ t)))) (tree_spell a _) ∙ one f xs (tree_text a) (spell r)
  where
    one : (f : Form) (xs : List Arg) (a r : List ℕ) → 40 ∷ (word_text f ++ (spaced (map arg_text xs) ++ (32 ∷ (a ++ (41 ∷ r))))) ≡ entry_text (entry f xs []) (a ∷ []) ++ r
    one f xs a r = ap (λ t. 40 ∷ (word_text f ++ (spaced (map arg_text xs) ++ (32 ∷ (t ++ (41 ∷ r)))))) (sym (append-nil a)) ∙ closed f xs (a ∷ []) r
tree_spell (binary f xs a b) r =
    head_spell f xs _ ∙ ap (λ t. 40 ∷ (word_text f ++ (spaced (map arg_text xs) ++ (32 ∷ t)))) (tree_spell a _ ∙ ap (λ t. tree_text a ++ (32 ∷ t)) (tree_spell b _)) ∙ two f xs (tree_text a) (tree_text b) (spell r)
  where
    two : (f : Form) (xs : List Arg) (a b r : List ℕ) → 40 ∷ (word_text f ++ (spaced (map arg_text xs) ++ (32 ∷ (a ++ (32 ∷ (b ++ (41 ∷ r))))))) ≡ entry_text (entry f xs []) (a ∷ b ∷ []) ++ r
    two f xs a b r = ap (λ t. 40 ∷ (word_text f ++ (spaced (map arg_text xs) ++ (32 ∷ t)))) (ap (λ u. a ++ (32 ∷ (u ++ (41 ∷ r)))) (sym (append-nil b)) ∙ sym (append_assoc a (32 ∷ (b ++ [])) (41 ∷ r))) ∙ closed f xs (a ∷ b ∷ []) r

-- lines
lines_front : (ns : List Entry) (ls : List Line) (i : ℕ) → i < length ns → get_or (T (lines_nodes ns ls)) i [] ≡ get_or (T ns) i []
lines_front ns [] i h = refl
lines_front ns (l ∷ ls) i h = lines_front (nodes_after ns l.tree) ls i (omega (arith, length_after ns l.tree)) ∙ tree_front ns l.tree i h

rule_spell : (n : ℕ) (t r : List ℕ) → codes "(" ++ (codes "rule" ++ (codes " " ++ (decimal n ++ (codes " " ++ (t ++ (41 ∷ 10 ∷ r)))))) ≡ (codes "(rule " ++ (decimal n ++ (codes " " ++ (t ++ (codes ")" ++ (10 ∷ [])))))) ++ r
rule_spell n t r = simp append_assoc

rules_lines : (ns : List Entry) (ls : List Line) (ts : List (List ℕ)) → ts ≡ T (lines_nodes ns ls) → rules_text ts (lines_rules ns ls) ≡ lines_text ls
rules_lines ns [] ts e = refl
rules_lines ns (l ∷ ls) ts e =
    let i = length ns + inside l.tree in
    let a : get_or ts i [] ≡ tree_text l.tree = ap (λ u. get_or u i []) e ∙ lines_front (nodes_after ns l.tree) ls i (omega (arith, length_after ns l.tree)) ∙ tree_at ns l.tree in
    let m = rules_lines (nodes_after ns l.tree) ls ts e in
    ap (λ t. (codes "(rule " ++ (decimal l.number ++ (codes " " ++ (t ++ (codes ")" ++ (10 ∷ [])))))) ++ rules_text ts (lines_rules (nodes_after ns l.tree) ls)) a ∙
    ap (λ t. (codes "(rule " ++ (decimal l.number ++ (codes " " ++ (tree_text l.tree ++ (codes ")" ++ (10 ∷ [])))))) ++ t) m ∙
    sym (ap (λ t. codes "(" ++ (codes "rule" ++ (codes " " ++ (decimal l.number ++ (codes " " ++ t))))) (tree_spell l.tree _) ∙ rule_spell l.number (tree_text l.tree) (lines_text ls))

pub table_lines : (ls : List Line) → table_text (lines_nodes [] ls) (lines_rules [] ls) ≡ lines_text ls
table_lines ls = rules_lines [] ls (T (lines_nodes [] ls)) refl

some_lines : (ls : List Line) → 0 < length (lines_rules [] ls) → 0 < length ls
some_lines [] h = absurd (omega arith)
some_lines (l ∷ ls) h = omega arith

-- a well-formed table with a rule is what its text is read as
pub table_back : TableBack
table_back ns rs h some =
    let ls = h.lines in
    let w : WellFile ls = record { some = some_lines ls (subst (λ x. 0 < length x) h.are_rules some); lines = h.well; few = h.few } in
    let text : table_text ns rs ≡ lines_text ls = ap (λ x. table_text x rs) h.are_nodes ∙ ap (table_text (lines_nodes [] ls)) h.are_rules ∙ table_lines ls in
    let b = (written_back ls w).reads in
    let t : State = record { rest = []; past = end_of (lines_text ls); opened = formulas ls; nodes = lines_nodes [] ls } in
    (t, ap (λ x. file (items x) (end_of x)) text ∙ b ∙ ap (λ x. done x t) (sym h.are_rules), sym h.are_nodes)

-- whatever is read as a table has the table's text
pub text_back : (text : List ℕ) (rs : List Rule) (ns : List Entry) → ReadBack text rs ns → text ≡ table_text ns rs
text_back text rs ns h = h.is_text ∙ sym (ap (λ x. table_text x rs) h.are_nodes ∙ ap (table_text (lines_nodes [] h.lines)) h.are_rules ∙ table_lines h.lines)
