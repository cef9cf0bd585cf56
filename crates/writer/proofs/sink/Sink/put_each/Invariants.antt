use Rattle.std.proofs.Common.{◌∷◌, take}
use Rattle.std.specs.List.{flat_map}
use Rattle.grammar.specs.TableText.{arg_text}
use Rattle.writer.specs.Places.{Gains}
use Rattle.writer.proofs.sink.Sink.put_each.Given as goal

abbrev pub invariant-loop-argument : goal.invariant-loop-argument
invariant-loop-argument l = Gains l.initial.self l.self (flat_map (λ x. 32 ∷ arg_text x) (take l.argument-index l.arguments))
