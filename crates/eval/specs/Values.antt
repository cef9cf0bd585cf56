-- The values of all nodes of a table at all states of a record.
use Rattle.std.specs.Prelude.{ℕ, zero, suc, ◌*◌, cond, List, [], ◌++◌, map, length, Ok, Err, Result, ◌==◌}
use Rattle.truth.specs.Kinds.{Kind}
use Rattle.syntax.specs.declared.Node.{Node}
use Rattle.syntax.specs.Formula.{Formula}
use Rattle.syntax.specs.Nodes.{formulas}
use Rattle.eval.specs.Truth.{Record, count, value}
use Rattle.eval.specs.Stamps.{rising}
use Rattle.eval.specs.declared.misfit.Misfit.{Misfit}
use Rattle.eval.specs.declared.misfit.Misfit.TheVariants.{Room, Stamps}

-- the values of the formulas at the first n states, state by state
abbrev pub values_upto : {K : Type 0} → Kind K → Record K → List Formula → ℕ → List K
values_upto k r fs zero = []
values_upto k r fs (suc n) = values_upto k r fs n ++ map (λ f. value k r f n) fs

abbrev pub all_values : {K : Type 0} → Kind K → Record K → List Node → List K
all_values k r nodes = values_upto k r (formulas nodes) (count r)

-- whether a record can be evaluated: each stamp later than the one before, and a place for each node at each state
abbrev pub fit : List ℕ → ℕ → ℕ → Result (Unit {0}) Misfit
fit stamps nodes places = cond (length stamps * nodes == places) (cond (rising stamps) (Ok tt) (Err Stamps)) (Err Room)
