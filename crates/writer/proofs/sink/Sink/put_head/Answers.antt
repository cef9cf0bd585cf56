use Rattle.writer.proofs.Places.{then_gains, gains_same}
use Rattle.writer.proofs.sink.Sink.put_head.Goals as goal

pub returns : goal.returns
returns c = then_gains c.put.ensures (then_gains (gains_same c.word_of.ensures c.put-2.ensures) c.put_arguments.ensures)
