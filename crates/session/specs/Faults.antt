-- The numbers of the session's refusals.
use Rattle.std.specs.Prelude.{ℕ}
use Rattle.session.specs.declared.fault.SessionFault.{SessionFault}
use Rattle.session.specs.declared.fault.SessionFault.TheVariants.{OutOfRange, StampTooLarge, UnknownRule, NotOpenChange, ChangeOpen, Finished, TooManyBegins, StampNotLater, TooManyStates, TooManyAlterations, NoSuchState, Store}
use Rattle.store.specs.Stores as stores

abbrev pub fault_number : SessionFault → ℕ
fault_number OutOfRange = 23
fault_number StampTooLarge = 24
fault_number UnknownRule = 25
fault_number NotOpenChange = 51
fault_number ChangeOpen = 52
fault_number Finished = 53
fault_number TooManyBegins = 54
fault_number StampNotLater = 55
fault_number TooManyStates = 56
fault_number TooManyAlterations = 57
fault_number NoSuchState = 59
fault_number (Store refused) = stores.fault_number refused.fault
