-- What the inner functions of the calls give.
use Rattle.std.specs.Prelude.{cond, not, ◌&&◌, [], Ok, Err, Result}
use Rattle.store.specs.declared.facts.Fact.{Fact}
use Rattle.store.specs.Facts.{holds, in_range}
use Rattle.session.specs.declared.slip.Slip.{Slip}
use Rattle.session.specs.declared.fault.SessionFault.{SessionFault}
use Rattle.session.specs.declared.fault.SessionFault.TheVariants.{OutOfRange, NotOpenChange, TooManyAlterations}
use Rattle.session.specs.View.{View, with_store, with_change, owned, crowded, replay}

-- the refusals of a put that are not the store's
abbrev pub put_guard : View → Slip → Fact → Result (Unit {0}) SessionFault
put_guard v s f =
    cond (in_range f)
    (cond (v.store.takes f)
    (cond (owned v s)
    (cond (not (holds f v.store.facts) && crowded v) (Err TooManyAlterations) (Ok tt))
    (Err NotOpenChange))
    (Ok tt))
    (Err OutOfRange)

-- the store as the undo list gives it back
abbrev pub restored : View → View
restored v = with_change v.begins v.changing [] (with_store (replay v.undo v.store) v)
