use Rattle.std.proofs.Common.{◌+◌, ◌*◌, [], ◌∷◌, take, get_or}
use Rattle.std.specs.List.{flat_map}
use Rattle.grammar.specs.TableText.{texts}
use Rattle.rules.specs.Tables.{entries_of}
use Rattle.writer.specs.Places.{Gains}
use Rattle.writer.proofs.NodeTexts.{above}
use Rattle.writer.proofs.sink.Sink.+node.Given as goal

abbrev pub decreases-put_node : goal.decreases-put_node
decreases-put_node l = 2 * l.n + 1

abbrev pub decreases-put_operands : goal.decreases-put_operands
decreases-put_operands l = 2 * above l.operands.now

abbrev pub invariant-put_operands-loop-operand : goal.invariant-put_operands-loop-operand
invariant-put_operands-loop-operand l = Gains l.initial.self l.self (flat_map (λ o. 32 ∷ get_or (texts [] (entries_of l.table)) o []) (take l.operand-index l.operands))
