use Rattle.rules.specs.Reads.{state_of}
use Rattle.rules.proofs.Slots.{Sofar}
use Rattle.rules.proofs.reader.Reader.arguments.Given as goal

abbrev pub invariant-loop-slot : goal.invariant-loop-slot
invariant-loop-slot l = Sofar l.slots (state_of l.initial.self) l.slot-index l.before l.args.items (state_of l.self)
