use Rattle.std.proofs.Common.{eqb, refl, rules}
use borrow.Author.Tests.{tests}
use Rattle.std.proofs.lemmas.Iterator.Splits.{YieldsList-from_slice_split}
use Rattle.std.proofs.lemmas.Iterator.Consumers.{nth_from_yields_List}
use Rattle.report.proofs.Lines.{line_found}
use Rattle.report.proofs.line.line_of.Goals as goal

pub returns : goal.returns
returns c =
    let e = c.unwrap_or.ensures in
    rw e (line_found c.args.text.now c.args.line c.saturating_sub.result c.nth.result _ refl c.saturating_sub.ensures
    (nth_from_yields_List c.nth.result c.nth.new.self c.saturating_sub.result c.nth.ensures.ran
    (YieldsList-from_slice_split _ (λ b. eqb b 10) c.args.text.now c.split.ensures.rest c.split.ensures.done c.split.ensures.closure (λ x b q k. search (rules, tests)))))
