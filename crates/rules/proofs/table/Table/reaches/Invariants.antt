use Rattle.std.proofs.Common.{vec_items}
use Rattle.rules.proofs.Reaching.{Sofar}
use Rattle.rules.proofs.table.Table.reaches.Given as goal

abbrev pub invariant-loop-node : goal.invariant-loop-node
invariant-loop-node l = Sofar (vec_items l.self.nodes) l.node-index l.reaches.items
