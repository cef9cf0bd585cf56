use Rattle.std.proofs.Common.{◌∷◌, None, to_z-of_z, w64, SFits, rules}
use Rattle.grammar.specs.TableText.{arg_text}
use Rattle.writer.proofs.Places.{then_gains, gains_same, more_gained, all_gained}
use Rattle.writer.proofs.NodeTexts.{spaced_is}
use Rattle.writer.proofs.sink.Sink.put_each.Goals as goal
use Rattle.writer.proofs.sink.Sink.put_each.Goals.{in-Some, in-None}

pub loop-argument-preserved : goal.loop-argument-preserved
loop-argument-preserved c =
    more_gained (λ x. 32 ∷ arg_text x) c.args.arguments.now c.loop-argument.argument-index c.loop-argument.invariant None c.loop-argument-test.true
    (elim c.match-argument.branch [
      | in-Some w ↦ let fits : SFits w64 w.in-Some.n = search rules in rw (w.in-Some.is, w.self-is) (then_gains c.put.ensures (rw (to_z-of_z fits) at w.put_number.ensures))
      | in-None w ↦ rw (w.in-None.is, w.self-is) (then_gains c.put.ensures w.put-in-None.ensures)
    ])

pub returns : goal.returns
returns c = gains_same (spaced_is arg_text c.args.arguments.now) (all_gained (λ x. 32 ∷ arg_text x) c.args.arguments.now c.loop-argument.argument-index c.loop-argument.invariant c.loop-argument-test.false)
