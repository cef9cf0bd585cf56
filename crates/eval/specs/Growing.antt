-- A record that grows state by state, by stamps and rows.
use Rattle.std.specs.Prelude.{ℕ, ◌-◌, Bool, true, cond, ◌&&◌, List, length, Some, None, Ok, Err, Option, Result, nat_lt}
use Rattle.std.specs.List.{slice_get}
use Rattle.truth.specs.declared.Three.{Three}
use Rattle.truth.specs.declared.Three.TheVariants.{False, Undecided}
use Rattle.truth.specs.Kleene.{three}
use Rattle.syntax.specs.declared.Node.{Node}
use Rattle.syntax.specs.Nodes.{formula_at}
use Rattle.eval.specs.declared.misfit.Misfit.{Misfit}
use Rattle.eval.specs.declared.misfit.Misfit.TheVariants.{Room, Stamps}
use Rattle.eval.specs.Truth.{Record, value}
use Rattle.eval.specs.Rows.{row_record}

-- the last element
abbrev pub latest : {X : Type 0} → List X → Option X
latest xs = slice_get xs (length xs - 1)

-- the stamp comes after that of the latest state
abbrev pub later_than : Option ℕ → ℕ → Bool
later_than None t = true
later_than (Some s) t = nat_lt s t

-- while the record is not finished, states may still come
abbrev pub growing_record : List ℕ → List ℕ → Bool → Record Three
growing_record stamps rows finished = row_record three stamps rows (cond finished False Undecided)

-- whether a state can come at the stamp: there is room for 512 of them
abbrev pub state_fit : List ℕ → ℕ → Result (Unit {0}) Misfit
state_fit stamps t = cond (nat_lt (length stamps) 512) (cond (later_than (latest stamps) t) (Ok tt) (Err Stamps)) (Err Room)

-- the value of node m at state i, if there are such
abbrev pub value_in : List Node → List ℕ → Record Three → ℕ → ℕ → Option Three
value_in nodes stamps r m i = cond (nat_lt m (length nodes) && nat_lt i (length stamps)) (Some (value three r (formula_at nodes m) i)) None
