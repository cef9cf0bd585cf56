use Rattle.syntax.specs.declared.Node.TheVariants as node
use Rattle.rules.specs.Tables.{nodes_of}
use Rattle.rules.proofs.Reaching.{more}
use Rattle.rules.proofs.table.Table.reaches.Goals as goal

pub loop-node-preserved : goal.loop-node-preserved
loop-node-preserved c =
    let next = c.node_reach-reach in
    rw c.push.ensures.items (more (nodes_of c.args.self.now) c.loop-node.node-index c.loop-node.reaches.items node.True next.result c.loop-node.invariant (rw c.nodes-node-items.ensures.value at c.loop-node-test.true) (rw (c.as_slice.ensures.value, c.nodes-node-items.ensures.value) at next.ensures))
