use Rattle.std.proofs.Common.{ap, ◌∙◌, to_z-of_z, rules}
use Rattle.grammar.specs.Reading.{argument}
use Rattle.rules.specs.Reads.{state_of}
use Rattle.rules.proofs.Taken.{answered}
use Rattle.rules.proofs.reader.Reader.argument.Goals as goal

pub returns : goal.returns
returns c =
    let item = c.in_ok-item.item in
    answered (argument c.args.slot c.args.before) (state_of c.args.self.now) item (state_of c.item.new.self) c.in_ok-item.ensures _ (λ k f p. search rules) c.fit.result
    (c.fit.ensures ∙ ap (λ z. argument c.args.slot z item) (to_z-of_z c.ranges.before)) c.map_err.result c.map_err.ensures.cases
