-- What holds of the nodes and rules of every table.
use Rattle.std.specs.Prelude.{◌≡◌, ℕ, ◌+◌, ◌<◌, Bool, true, cond, ◌&&◌, List, [], ◌∷◌, ◌++◌, length, pos, ◌==◌, nat_le}
use Rattle.syntax.specs.declared.Rule.{Rule}
use Rattle.grammar.specs.Entries.{Entry}
use Rattle.grammar.specs.Grammar.{slots}
use Rattle.grammar.specs.Trees.{args_fit}

-- how often a number stands in a list
abbrev pub times : ℕ → List ℕ → ℕ
times m [] = 0
times m (k ∷ ks) = cond (k == m) 1 0 + times m ks

abbrev pub all_operands : List Entry → List ℕ
all_operands [] = []
all_operands (e ∷ es) = e.operands ++ all_operands es

abbrev pub all_roots : List Rule → List ℕ
all_roots [] = []
all_roots (r ∷ rs) = r.root ∷ all_roots rs

-- every node is an operand of one other node, or the formula of one rule
abbrev pub UsedOnce : List Entry → List Rule → Type 0
UsedOnce es rs = (m : ℕ) → m < length es → times m (all_operands es) + times m (all_roots rs) ≡ 1

-- every number is in its range, and no second bound is below the first
abbrev pub in_bounds : List Entry → Bool
in_bounds [] = true
in_bounds (e ∷ es) = args_fit (slots e.word) (pos 0) e.args && in_bounds es

-- the numbers of the rules rise from at least this number to at most 99
abbrev pub rising : ℕ → List Rule → Bool
rising least [] = true
rising least (r ∷ rs) = nat_le least r.number && (nat_le r.number 99 && rising (r.number + 1) rs)
