-- Rule lines and whole files: how they are read, and what they are the text of.
use Rattle.std.specs.Prelude.{ℕ, zero, suc, ◌+◌, ◌<◌, ◌≤◌, cond, List, [], ◌∷◌, length, pos, nat_lt}
use Rattle.std.specs.Int.Signed.{mag}
use Rattle.items.specs.declared.item.Place.{Place}
use Rattle.items.specs.declared.item.Item.{Item}
use Rattle.grammar.specs.declared.shape.Slot.TheVariants.{Upper}
use Rattle.syntax.specs.declared.Rule.{Rule}
use Rattle.grammar.specs.Entries.{Entry}
use Rattle.grammar.specs.Reading.{State, Outcome, Step, done, stop, then, next, is, argument, fault_at, formula}
use Rattle.items.specs.declared.item.Kind.{Kind}
use Rattle.items.specs.Items.{item_number}
use Rattle.items.specs.Tokens.{spell}
use Rattle.grammar.specs.Trees.{Tree, tree_tokens, inside, nodes_after, Well}
use Rattle.items.specs.declared.item.Kind.TheVariants as kind
use Rattle.grammar.specs.declared.fault.FaultKind.TheVariants as fault

-- a rule: its number and the node of its formula
abbrev pub rule_of : ℕ → ℕ → Rule
rule_of n root = record { number = n; root = root }

-- a number from 1 to 99, at least this one
abbrev pub rule_number : ℕ → Step Item
rule_number least s = next (argument (Upper (pos 1) (pos 99)) (pos least)) s

-- the opening bracket of a rule, with this many before it
abbrev pub rule_opening : ℕ → Step (Unit {0})
rule_opening before s = then (next (is kind.Open) s) (λ _ t. cond (nat_lt before 16) (done tt t) (stop (fault_at s fault.TooMany)))

-- after the opening bracket: the word, the number, the formula, the closing bracket and the newline
abbrev pub rule : ℕ → Step Rule
rule least s =
    then (next (is kind.Rule) s) (λ _ t. then (next (is kind.Space) t) (λ _ u. then (rule_number least u) (λ it v. then (next (is kind.Space) v) (λ _ w. then (formula 12 w) (λ n x. then (next (is kind.Close) x) (λ _ y. then (next (is kind.Newline) y) (λ _ z. done (rule_of (mag (item_number it)) n) z)))))))

-- one outcome at the end of the items, another before it
abbrev pub at_end : {V : Type 0} → List Item → Outcome V → Outcome V → Outcome V
at_end [] a b = a
at_end (it ∷ items) a b = b

-- rules as far as the items go, at most this many
abbrev pub rules : ℕ → ℕ → Step (List Rule)
rules zero least s = at_end s.rest (done [] s) (then (next (is kind.Open) s) (λ _ t. stop (fault_at s fault.TooMany)))
rules (suc k) least s =
    at_end s.rest (done [] s) (then (next (is kind.Open) s) (λ _ t. then (rule least t) (λ r u. then (rules k (r.number + 1) u) (λ rs v. done (r ∷ rs) v))))

-- the rules of a file
unfoldable pub all_rules : Step (List Rule)
all_rules s = rules 16 1 s

abbrev pub start_of : List Item → Place → State
start_of items end = record { rest = items; past = end; opened = 0; nodes = [] }

-- a file with a byte
abbrev pub file : List Item → Place → Outcome (List Rule)
file items end = at_end items (stop (record { kind = fault.Empty; place = end })) (all_rules (start_of items end))

-- a rule as its number and its formula
pub record Line : Type 0 where
  pub number : ℕ
  pub tree : Tree

abbrev pub line_tokens : Line → List Kind → List Kind
line_tokens l r = kind.Open ∷ kind.Rule ∷ kind.Space ∷ kind.Number (pos l.number) ∷ kind.Space ∷ tree_tokens l.tree (kind.Close ∷ kind.Newline ∷ r)

abbrev pub lines_tokens : List Line → List Kind
lines_tokens [] = []
lines_tokens (l ∷ ls) = line_tokens l (lines_tokens ls)

-- the nodes of all lines, after those that stand already, and the rules with their roots
abbrev pub lines_nodes : List Entry → List Line → List Entry
lines_nodes ns [] = ns
lines_nodes ns (l ∷ ls) = lines_nodes (nodes_after ns l.tree) ls

abbrev pub lines_rules : List Entry → List Line → List Rule
lines_rules ns [] = []
lines_rules ns (l ∷ ls) = rule_of l.number (length ns + inside l.tree) ∷ lines_rules (nodes_after ns l.tree) ls

abbrev pub formulas : List Line → ℕ
formulas [] = 0
formulas (l ∷ ls) = inside l.tree + 1 + formulas ls

-- a number of a rule that is at least this one
abbrev pub Numbered : ℕ → ℕ → Type 0
Numbered least n = (1 ≤ n) × (n ≤ 99) × (least ≤ n)

-- at most this many lines, numbered from this number on, rising, each formula well formed
abbrev pub WellLines : ℕ → ℕ → List Line → Type 0
WellLines k least [] = Unit {0}
WellLines zero least (l ∷ ls) = ⊥
WellLines (suc k) least (l ∷ ls) = Numbered least l.number × Well 12 l.tree × WellLines k (l.number + 1) ls

pub record WellFile (ls : List Line) : Type 0 where
  pub some : 0 < length ls
  pub lines : WellLines 16 1 ls
  pub few : formulas ls ≤ 64

-- the text of rules
abbrev pub lines_text : List Line → List ℕ
lines_text ls = spell (lines_tokens ls)
