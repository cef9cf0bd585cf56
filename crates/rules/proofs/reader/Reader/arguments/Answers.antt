use Rattle.std.proofs.lemmas.Result.{err_from_is_err_and}
use Rattle.rules.proofs.Slots.{no_slot, space_stops, all_read, args_fit}
use Rattle.rules.proofs.reader.Reader.arguments.Goals as goal

pub returns-in_err-expect-clause-read : goal.returns-in_err-expect-clause-read
returns-in_err-expect-clause-read c =
    let p = err_from_is_err_and c.from_residual.result c.from_residual.ensures.1 in
    rw (p.1, p.2) (space_stops _ _ _ _ _ _ c.loop-slot.invariant no_slot c.loop-slot-test.true _ c.in_err-expect.ensures)

pub returns-clause-fits : goal.returns-clause-fits
returns-clause-fits c = args_fit _ _ _ _ (all_read _ _ _ _ _ _ c.loop-slot.invariant c.loop-slot-test.false)
