-- The nodes of lines are ordered, and what that says of a node's text.
use Rattle.std.proofs.Common.{◌≡◌, ℕ, zero, suc, ◌+◌, ◌<◌, true, ltb, List, [], ◌∷◌, ◌++◌, map, length, get_or, sym, refl, ap, ◌∙◌, subst, arith, length-append, ltb-true, lt-ltb}
use Rattle.std.proofs.lemmas.List.{get_or_append_left, get_or_push}
use Rattle.std.proofs.lemmas.Bool.{and_parts, and_from}
use Rattle.grammar.specs.Entries.{Entry, entry}
use Rattle.grammar.specs.TableText.{entry_text, node_text, texts}
use Rattle.grammar.specs.Trees.{Tree, leaf, unary, binary, inside, nodes_after}
use Rattle.syntax.specs.declared.Rule.{Rule}
use Rattle.grammar.specs.Files.{Line, lines_nodes}
use Rattle.grammar.specs.Formed.{Formed}
use Rattle.grammar.specs.Ordered.{all_below, ordered}
use Rattle.grammar.proofs.Inversion.{length_after}

ordered_more : (k : ℕ) (ns : List Entry) (e : Entry) → ordered k ns ≡ true → all_below (k + length ns) e.operands ≡ true → ordered k (ns ++ (e ∷ [])) ≡ true
ordered_more k [] e h b = and_from _ _ (subst (λ n. all_below n e.operands ≡ true) (omega arith) b) refl
ordered_more k (x ∷ ns) e h b =
    let p = and_parts (all_below k x.operands) (ordered (suc k) ns) h in
    and_from _ _ p.0 (ordered_more (suc k) ns e p.1 (subst (λ n. all_below n e.operands ≡ true) (omega arith) b))

tree_ordered : (ns : List Entry) (tree : Tree) → ordered 0 ns ≡ true → ordered 0 (nodes_after ns tree) ≡ true
tree_ordered ns (leaf f xs) h = ordered_more 0 ns (entry f xs []) h refl
tree_ordered ns (unary f xs a) h =
    ordered_more 0 (nodes_after ns a) _ (tree_ordered ns a h) (and_from _ _ (lt-ltb (length ns + inside a) (0 + length (nodes_after ns a)) (omega (arith, length_after ns a))) refl)
tree_ordered ns (binary f xs a b) h =
    let n = nodes_after (nodes_after ns a) b in
    ordered_more 0 n _ (tree_ordered (nodes_after ns a) b (tree_ordered ns a h)) (and_from _ _ (lt-ltb (length ns + inside a) (0 + length n) (omega (arith, length_after ns a, length_after (nodes_after ns a) b))) (and_from _ _ (lt-ltb (length (nodes_after ns a) + inside b) (0 + length n) (omega (arith, length_after (nodes_after ns a) b))) refl))

lines_ordered : (ns : List Entry) (ls : List Line) → ordered 0 ns ≡ true → ordered 0 (lines_nodes ns ls) ≡ true
lines_ordered ns [] h = h
lines_ordered ns (l ∷ ls) h = lines_ordered (nodes_after ns l.tree) ls (tree_ordered ns l.tree h)

pub formed_ordered : (ns : List Entry) (rs : List Rule) → Formed ns rs → ordered 0 ns ≡ true
formed_ordered ns rs h = subst (λ x. ordered 0 x ≡ true) (sym h.are_nodes) (lines_ordered [] h.lines refl)

-- the text of a node
texts_kept : (ts : List (List ℕ)) (es : List Entry) (i : ℕ) → i < length ts → get_or (texts ts es) i [] ≡ get_or ts i []
texts_kept ts [] i h = refl
texts_kept ts (e ∷ es) i h = texts_kept (ts ++ (node_text ts e ∷ [])) es i (omega (arith, length-append ts (node_text ts e ∷ []))) ∙ get_or_append_left ts (node_text ts e ∷ []) [] i h

same_texts : (ts us : List (List ℕ)) (os : List ℕ) → ((i : ℕ) → i < length ts → get_or us i [] ≡ get_or ts i []) → all_below (length ts) os ≡ true → map (λ n. get_or ts n []) os ≡ map (λ n. get_or us n []) os
same_texts ts us [] f h = refl
same_texts ts us (o ∷ os) f h =
    let p = and_parts (ltb o (length ts)) (all_below (length ts) os) h in
    ap (λ x. x ∷ map (λ n. get_or ts n []) os) (sym (f o (ltb-true o (length ts) p.0))) ∙ ap (λ x. get_or us o [] ∷ x) (same_texts ts us os f p.1)

text_from : (ts : List (List ℕ)) (es : List Entry) (i : ℕ) (d : Entry) → ordered (length ts) es ≡ true → i < length es → get_or (texts ts es) (length ts + i) [] ≡ node_text (texts ts es) (get_or es i d)
text_from ts [] i d h lt = absurd (omega arith)
text_from ts (e ∷ es) zero d h lt =
    let p = and_parts (all_below (length ts) e.operands) (ordered (suc (length ts)) es) h in
    let us = texts (ts ++ (node_text ts e ∷ [])) es in
    let z : length ts + 0 ≡ length ts = omega arith in
    ap (λ n. get_or us n []) z ∙ texts_kept (ts ++ (node_text ts e ∷ [])) es (length ts) (omega (arith, length-append ts (node_text ts e ∷ []))) ∙ get_or_push ts (node_text ts e) [] (length ts) refl ∙ ap (entry_text e) (same_texts ts us e.operands (λ j lj. texts_kept ts (e ∷ es) j lj) p.0)
text_from ts (e ∷ es) (suc i) d h lt =
    let p = and_parts (all_below (length ts) e.operands) (ordered (suc (length ts)) es) h in
    let vs = ts ++ (node_text ts e ∷ []) in
    let l : length vs ≡ suc (length ts) = simp length-append (omega arith) in
    let n : length ts + suc i ≡ length vs + i = omega (arith, l) in
    ap (λ m. get_or (texts vs es) m []) n ∙ text_from vs es i d (subst (λ m. ordered m es ≡ true) (sym l) p.1) (omega arith)

pub text_at : (ns : List Entry) (i : ℕ) (d : Entry) → ordered 0 ns ≡ true → i < length ns → get_or (texts [] ns) i [] ≡ node_text (texts [] ns) (get_or ns i d)
text_at ns i d h lt = let z : i ≡ 0 + i = omega arith in ap (λ n. get_or (texts [] ns) n []) z ∙ text_from [] ns i d h lt

below_from : (k : ℕ) (ns : List Entry) (i : ℕ) (d : Entry) → ordered k ns ≡ true → i < length ns → all_below (k + i) (get_or ns i d).operands ≡ true
below_from k [] i d h lt = absurd (omega arith)
below_from k (e ∷ es) zero d h lt = subst (λ n. all_below n e.operands ≡ true) (omega arith) (and_parts (all_below k e.operands) (ordered (suc k) es) h).0
below_from k (e ∷ es) (suc i) d h lt = subst (λ n. all_below n (get_or es i d).operands ≡ true) (omega arith) (below_from (suc k) es i d (and_parts (all_below k e.operands) (ordered (suc k) es) h).1 (omega arith))

pub below : (ns : List Entry) (i : ℕ) (d : Entry) → ordered 0 ns ≡ true → i < length ns → all_below i (get_or ns i d).operands ≡ true
below ns i d h lt = subst (λ n. all_below n (get_or ns i d).operands ≡ true) (omega arith) (below_from 0 ns i d h lt)
