use Rattle.std.proofs.Common.{◌≡◌, vec_len}
use Rattle.session.specs.View.{view}
use Rattle.session.specs.Steps.{restored}
use Rattle.session.proofs.session.Session.undo_all.Given as goal

abbrev pub invariant-loop-step : goal.invariant-loop-step
invariant-loop-step g l = restored (view g.S.Store.meaning l.self) ≡ restored (view g.S.Store.meaning l.initial.self)

abbrev pub decreases-loop-step : goal.decreases-loop-step
decreases-loop-step g l = vec_len l.self.undo.steps
