use Rattle.std.proofs.Common.{arith}
use Rattle.writer.proofs.Places.{put_in, past_end}
use Rattle.writer.proofs.sink.Sink.put.Goals as goal
use Rattle.writer.proofs.sink.Sink.put.Goals.{then-end-self, else-end-self}

pub returns : goal.returns
returns c =
    elim c.if-end-self.branch [
      | then-end-self w ↦ rw w.self-is (put_in c.args.self.now c.args.text.now w.copy_from_slice.new.self c.saturating_add-end.result c.saturating_add-end.ensures w.if-end-self.true (omega arith) w.copy_from_slice.ensures.after)
      | else-end-self w ↦ rw w.self-is (past_end c.args.self.now c.args.text.now c.saturating_add-end.result c.saturating_add-end.ensures w.if-end-self.false)
    ]
