-- Worked facts about the definitions, on the tables of small rules.
use Rattle.std.specs.Prelude.{◌≡◌, ℕ, suc, ◌-◌, ◌<◌, Bool, true, false, List, [], ◌∷◌, length, pos, Some, None}
use Rattle.truth.specs.declared.Three.{Three}
use Rattle.truth.specs.declared.Three.TheVariants.{True, False, Undecided}
use Rattle.syntax.specs.Formula.{Formula}
use Rattle.syntax.specs.Nodes.{formula_at}
use Rattle.syntax.specs.declared.Window.{Window}
use Rattle.syntax.specs.declared.Query.{Query}
use Rattle.syntax.specs.declared.Query.TheVariants as query
use Rattle.syntax.specs.declared.Node.{Node}
use Rattle.syntax.specs.declared.Node.TheVariants as node
use Rattle.store.specs.Facts.{fact_of, holds, of_relation}
use Rattle.history.specs.Histories.{State, History, facts_at, true_in, running_verdict, final_verdict}

-- a window from a to b, and from a to the end
abbrev pub window : ℕ → ℕ → Window
window a b = record { low = a; high = Some b }

abbrev pub onward : ℕ → Window
onward a = record { low = a; high = None }

-- a rule's formula is that of its last node: verdicts while the record runs and at its end, and the plain truth
abbrev pub rule_of : List Node → Formula
rule_of nodes = formula_at nodes (length nodes - 1)

abbrev pub running : List Node → List State → ℕ → Three
running nodes h i = running_verdict nodes (rule_of nodes) h i

abbrev pub final : List Node → List State → ℕ → Three
final nodes h i = final_verdict nodes (rule_of nodes) h i

abbrev pub truth : List Node → List State → ℕ → Bool
truth nodes h i = true_in nodes (rule_of nodes) h i

-- i is the last state
abbrev pub Last : List State → ℕ → Type 0
Last h i = suc i ≡ length h

-- ---- the rules, as the nodes of their formulas in the order of the closing brackets

-- (implies (some 0 501 9999) (sometime 0 30 (every 0 0 300)))
abbrev pub settles : List Node
settles =
    node.Query (query.Some 0 (pos 501) (pos 9999))
    ∷ (node.Query (query.Every 0 (pos 0) (pos 300))
    ∷ (node.Sometime (window 0 30) 1
    ∷ (node.Implies 0 2 ∷ [])))

-- (next A B (true)), (allnext A B (true)), (previous 0 end (true))
abbrev pub next_true : ℕ → ℕ → List Node
next_true a b = node.True ∷ (node.Next (window a b) 0 ∷ [])

abbrev pub allnext_true : ℕ → ℕ → List Node
allnext_true a b = node.True ∷ (node.AllNext (window a b) 0 ∷ [])

abbrev pub previous_true : List Node
previous_true = node.True ∷ (node.Previous (onward 0) 0 ∷ [])

-- one query alone
abbrev pub only : Query → List Node
only q = node.Query q ∷ []

-- (or P (not P)) with P as (sometime 0 end (fact 0 0 1))
abbrev pub seen_or_not : List Node
seen_or_not =
    node.Query (query.Fact 0 0 (pos 1))
    ∷ (node.Sometime (onward 0) 0
    ∷ (node.Query (query.Fact 0 0 (pos 1))
    ∷ (node.Sometime (onward 0) 2
    ∷ (node.Not 3
    ∷ (node.Or 1 4 ∷ [])))))

-- ---- the facts

-- a state whose one fact of relation 0, at some key, has this value
abbrev pub reads : ℕ → ℕ → ℕ → State
reads key stamp level = record { stamp = stamp; facts = fact_of 0 key (pos level) ∷ [] }

-- The level of the one fact: above 500 it has to come down to 300 or less within 30.
pub record Levels (key : ℕ) : Type 0 where
  pub high : running settles (reads key 0 600 ∷ []) 0 ≡ Undecided
  pub falling : running settles (reads key 0 600 ∷ (reads key 10 400 ∷ [])) 0 ≡ Undecided
  pub middling : running settles (reads key 0 600 ∷ (reads key 10 400 ∷ [])) 1 ≡ True
  pub in_time : running settles (reads key 0 600 ∷ (reads key 10 400 ∷ (reads key 30 200 ∷ []))) 0 ≡ True
  pub too_late : running settles (reads key 0 600 ∷ (reads key 10 400 ∷ (reads key 31 200 ∷ []))) 0 ≡ False
  pub too_high : running settles (reads key 0 600 ∷ (reads key 10 400 ∷ (reads key 30 400 ∷ []))) 0 ≡ False

-- At the last state of a record, of any facts.
pub record Ends (h : List State) (i : ℕ) : Type 0 where
  pub no_next : running (next_true 0 0) h i ≡ False
  pub next_open : running (next_true 1 5) h i ≡ Undecided
  pub next_final : final (next_true 1 5) h i ≡ False
  pub next_truth : truth (next_true 1 5) h i ≡ false
  pub allnext_final : final (allnext_true 1 5) h i ≡ True
  pub allnext_truth : truth (allnext_true 1 5) h i ≡ true

-- At the first state nothing went before.
pub record Begins (h : List State) : Type 0 where
  pub running_first : running previous_true h 0 ≡ False
  pub final_first : final previous_true h 0 ≡ False
  pub truth_first : truth previous_true h 0 ≡ false

-- At a state whose relation 0 is empty.
pub record Empties (h : List State) (i : ℕ) : Type 0 where
  pub some_none : running (only (query.Some 0 (pos 0) (pos 9))) h i ≡ False
  pub every_none : running (only (query.Every 0 (pos 0) (pos 9))) h i ≡ True
  pub refer_none : running (only (query.Refer 0 1)) h i ≡ True

-- the fact of P is in no state so far
abbrev pub Unseen : List State → Type 0
Unseen h = (i : ℕ) → i < length h → holds (fact_of 0 0 (pos 1)) (facts_at h i) ≡ false

pub record WorkedFacts : Type 0 where
  pub levels : (key : ℕ) → Levels key
  pub ends : (h : List State) (i : ℕ) → Last h i → Ends h i
  pub begins : (h : List State) → Begins h
  pub empties : (h : List State) (i : ℕ) → of_relation 0 (facts_at h i) ≡ [] → Empties h i
  -- undecided while the record runs, and true in every history
  pub still_open : (h : List State) (i : ℕ) → Unseen h → i < length h → running seen_or_not h i ≡ Undecided
  pub never_false : (h : List State) (i : ℕ) → History h → i < length h → truth seen_or_not h i ≡ true
