-- Histories of fact sets: finished ones, in which a rule is plainly true or false, and records that still run.
use Rattle.std.specs.Prelude.{◌≡◌, ℕ, ◌<◌, Bool, true, false, List, [], map, length, slice_index, slice_index_or}
use Rattle.truth.specs.declared.Three.{Three}
use Rattle.truth.specs.declared.Three.TheVariants.{False, Undecided}
use Rattle.truth.specs.Kleene.{plain, three, embed}
use Rattle.syntax.specs.Formula.{Formula}
use Rattle.syntax.specs.declared.Node.{Node}
use Rattle.syntax.specs.declared.Node.TheVariants as node
use Rattle.eval.specs.Truth.{Record, value}
use Rattle.store.specs.declared.facts.Fact.{Fact}
use Rattle.store.specs.Facts.{rising}
use Rattle.query.specs.Queries.{node_answer}

-- a state: its stamp and its facts
pub record State : Type 0 where
  pub stamp : ℕ
  pub facts : List Fact

abbrev pub stamps : List State → List ℕ
stamps h = map (λ s. s.stamp) h

abbrev pub facts_at : List State → ℕ → List Fact
facts_at h i = slice_index_or (map (λ s. s.facts) h) i []

-- each stamp is later than those before
abbrev pub Rises : List ℕ → Type 0
Rises ts = (i j : ℕ) → i < j → j < length ts → slice_index ts i < slice_index ts j

-- a history: its stamps rise, and the facts of each state are a set, each fact once and in order
pub record History (h : List State) : Type 0 where
  pub rises : Rises (stamps h)
  pub sets : (i : ℕ) → i < length h → rising (facts_at h i) ≡ true

-- what query node m answers on the facts of state i
abbrev pub answer_at : List Node → List State → ℕ → ℕ → Bool
answer_at nodes h i m = node_answer (slice_index_or nodes m node.True) (facts_at h i)

-- ---- finished histories

abbrev pub finished_record : List Node → List State → Record Bool
finished_record nodes h = record { stamps = stamps h; leaf = answer_at nodes h; pending = false }

-- the plain truth of a formula at state i of a finished history
abbrev pub true_in : List Node → Formula → List State → ℕ → Bool
true_in nodes f h i = value plain (finished_record nodes h) f i

-- ---- records by three-valued truth: an open mark is `pending`

abbrev pub three_record : List Node → List State → Three → Record Three
three_record nodes h pending = record { stamps = stamps h; leaf = λ i m. embed (answer_at nodes h i m); pending = pending }

-- while the record runs, and once it is finished
abbrev pub running_record : List Node → List State → Record Three
running_record nodes h = three_record nodes h Undecided

abbrev pub ended_record : List Node → List State → Record Three
ended_record nodes h = three_record nodes h False

-- the verdict on a formula at state i while the record runs, and once it is finished
abbrev pub running_verdict : List Node → Formula → List State → ℕ → Three
running_verdict nodes f h i = value three (running_record nodes h) f i

abbrev pub final_verdict : List Node → Formula → List State → ℕ → Three
final_verdict nodes f h i = value three (ended_record nodes h) f i
