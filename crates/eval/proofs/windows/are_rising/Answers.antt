use Rattle.std.proofs.Common.{ltb, rules}
use Rattle.std.proofs.lemmas.List.Sorted.{answers_always}
use Rattle.eval.proofs.Stamps.{rising_answer}
use Rattle.eval.proofs.windows.are_rising.Goals as goal

pub returns : goal.returns
returns c = rising_answer _ _ (c.is_sorted_by.ensures.cases ltb (answers_always _ _ _ (λ f a r f' k. search rules)))
