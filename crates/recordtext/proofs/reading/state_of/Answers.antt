use Rattle.std.proofs.Common.{IsUtf8, drop, sym, ap, ◌∙◌, subst}
use Rattle.recordtext.proofs.StateLines.{at_none, numbers_utf8}
use Rattle.recordtext.proofs.reading.state_of.Goals as goal

pub returns-in_err-ok : goal.returns-in_err-ok
returns-in_err-ok c =
    rw c.from_residual-in_err-ok.ensures
    (λ t w ts ws is.
    let same = c.in_ok-numbers.ensures.cases.1 ∙ ap (drop 7) is in
    (at_none _ _ c.from_utf8.result c.in_err-ok.ensures.value c.from_utf8.ensures.cases).1.0 (subst IsUtf8 (sym same) (numbers_utf8 t w ts ws)))
