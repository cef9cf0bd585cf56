use Rattle.std.proofs.Common.{ap, ◌∙◌}
use Rattle.eval.proofs.evaluation.Evaluation.value.Goals as goal

pub returns : goal.returns
returns g c = c.read.ensures ∙ ap (λ f. f c.args.i) c.column.ensures.value
