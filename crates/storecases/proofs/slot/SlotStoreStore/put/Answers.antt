use Rattle.std.proofs.Common.{sym}
use Rattle.store.proofs.Puts.{answer_present, put_present}
use Rattle.storecases.specs.Slots.{slot_meaning}
use Rattle.storecases.specs.SlotsLemmas.{slot_lawful}
use Rattle.storecases.proofs.slot.SlotStoreStore.put.Goals as goal

pub returns-then-contains : goal.returns-then-contains
returns-then-contains c =
    let s = c.args.self.now in
    let m = slot_meaning s.held in
    let rises = (slot_lawful s.held s.ranged).rises in
    let taken = sym c.if-not-is_in_range.ensures in
    let present = sym c.if-contains.ensures in
    record {
      answer = answer_present m c.args.fact rises taken present;
      after = put_present m c.args.fact rises taken present;
    }
