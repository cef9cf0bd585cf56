use Rattle.writer.proofs.Places.{then_gains}
use Rattle.writer.proofs.sink.Sink.put_rule.Goals as goal

pub returns : goal.returns
returns c = then_gains c.put.ensures (then_gains c.put_number.ensures (then_gains c.put-2.ensures (then_gains c.put_node.ensures c.put-3.ensures)))
