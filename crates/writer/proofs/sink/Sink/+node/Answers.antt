use Rattle.std.proofs.Common.{◌≡◌, ◌<◌, [], ◌∷◌, length, get_or, ap, arith, rules}
use Rattle.syntax.specs.declared.Node.{Node}
use Rattle.syntax.specs.declared.Node.TheVariants.{True}
use Rattle.grammar.specs.TableText.{texts}
use Rattle.rules.specs.Tables.{nodes_of, entries_of}
use Rattle.writer.proofs.Places.{then_gains, gains_same, none_gained, more_gained, all_gained}
use Rattle.writer.proofs.NodeTexts.{spaced_is, under_above, operand_below, node_gains}
use Rattle.writer.proofs.sink.Sink.+node.Goals as goal
use Rattle.writer.proofs.sink.Sink.+node.Goals.{put_node-in-True, put_node-in-Not2, put_node-in-And2}

pub put_node-returns : goal.put_node-returns
put_node-returns t c =
    let x : Node = get_or c.nodes.result.now c.args.n True in
    let is : x ≡ get_or (nodes_of c.args.table.now) c.args.n True = ap (λ l. get_or l c.args.n True) c.nodes.ensures.value in
    elim c.match-node.branch [
      | put_node-in-True w ↦ node_gains c.args.table.now c.args.n x [] c.requires is (search rules) c.put_head.ensures (none_gained _ (omega (arith, c.put_head.ensures.puts.counted))) w.self-is c.put.ensures
      | put_node-in-Not2 w ↦ node_gains c.args.table.now c.args.n x (w.in-Not.a ∷ []) c.requires is (search rules) c.put_head.ensures w.put_operands-in-Not.ensures w.self-is c.put.ensures
      | put_node-in-And2 w ↦ node_gains c.args.table.now c.args.n x (w.in-And.a ∷ w.in-And.b ∷ []) c.requires is (search rules) c.put_head.ensures w.put_operands.ensures w.self-is c.put.ensures
    ]

pub put_operands-put_node-requires : goal.put_operands-put_node-requires
put_operands-put_node-requires t c =
    let below : get_or c.args.operands.now c.loop-operand.operand-index 0 < length (nodes_of c.args.table.now) = operand_below _ _ _ c.requires c.loop-operand-test.true in
    (omega (arith, under_above c.args.operands.now c.loop-operand.operand-index c.loop-operand-test.true), below)

pub put_operands-loop-operand-preserved : goal.put_operands-loop-operand-preserved
put_operands-loop-operand-preserved t c = more_gained (λ o. 32 ∷ get_or (texts [] (entries_of c.args.table.now)) o []) c.args.operands.now c.loop-operand.operand-index c.loop-operand.invariant 0 c.loop-operand-test.true (then_gains c.put.ensures c.put_node.ensures)

pub put_operands-returns : goal.put_operands-returns
put_operands-returns t c =
    gains_same (spaced_is (λ o. get_or (texts [] (entries_of c.args.table.now)) o []) c.args.operands.now) (all_gained (λ o. 32 ∷ get_or (texts [] (entries_of c.args.table.now)) o []) c.args.operands.now c.loop-operand.operand-index c.loop-operand.invariant c.loop-operand-test.false)
