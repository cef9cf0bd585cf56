use Rattle.std.proofs.Common.{[], take}
use Rattle.std.specs.List.{flat_map}
use Rattle.grammar.specs.TableText.{rule_text, texts}
use Rattle.rules.specs.Tables.{entries_of, rules_of}
use Rattle.writer.specs.Places.{Gains}
use Rattle.writer.proofs.sink.Sink.put_rules.Given as goal

abbrev pub invariant-loop-rule : goal.invariant-loop-rule
invariant-loop-rule l = Gains l.initial.self l.self (flat_map (rule_text (texts [] (entries_of l.table))) (take l.rule-index (rules_of l.table)))
