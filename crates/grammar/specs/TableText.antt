-- The text of a table, from its nodes and rules.
use Rattle.std.specs.Prelude.{ℕ, List, [], ◌∷◌, ◌++◌, map, Some, None, codes, decimal, slice_index_or}
use Rattle.std.specs.Fmt.{signed_decimal}
use Rattle.syntax.specs.declared.Rule.{Rule}
use Rattle.items.specs.Tokens.{word_text}
use Rattle.grammar.specs.Entries.{Arg, Entry}

abbrev pub arg_text : Arg → List ℕ
arg_text (Some z) = signed_decimal z
arg_text None = codes "end"

-- each after a space
abbrev pub spaced : List (List ℕ) → List ℕ
spaced [] = []
spaced (t ∷ ts) = 32 ∷ (t ++ spaced ts)

-- a node's text, from the texts of its operands
abbrev pub entry_text : Entry → List (List ℕ) → List ℕ
entry_text e operands = codes "(" ++ (word_text e.word ++ (spaced (map arg_text e.args) ++ (spaced operands ++ codes ")")))

-- a node's text, from the texts of the nodes before it
abbrev pub node_text : List (List ℕ) → Entry → List ℕ
node_text ts e = entry_text e (map (λ n. slice_index_or ts n []) e.operands)

-- the texts of nodes, after those that stand already
abbrev pub texts : List (List ℕ) → List Entry → List (List ℕ)
texts ts [] = ts
texts ts (e ∷ es) = texts (ts ++ (node_text ts e ∷ [])) es

abbrev pub rule_text : List (List ℕ) → Rule → List ℕ
rule_text ts r = codes "(rule " ++ (decimal r.number ++ (codes " " ++ (slice_index_or ts r.root [] ++ (codes ")" ++ (10 ∷ [])))))

abbrev pub rules_text : List (List ℕ) → List Rule → List ℕ
rules_text ts [] = []
rules_text ts (r ∷ rs) = rule_text ts r ++ rules_text ts rs

-- the text of a table with these nodes and rules
abbrev pub table_text : List Entry → List Rule → List ℕ
table_text ns rs = rules_text (texts [] ns) rs
