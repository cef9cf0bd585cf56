use Rattle.std.proofs.Common.{◌≡◌, eqb, sym, ◌∙◌, arith, rules, tests}
use Rattle.std.specs.List.{position}
use Rattle.std.proofs.lemmas.Option.{none-some}
use Rattle.std.proofs.lemmas.Iterator.{YieldsList-from_slice}
use Rattle.std.proofs.lemmas.Iterator.Search.{position_from_yields_List}
use Rattle.recordtext.proofs.StateLines.{newline_at, body_before_newline, line_at}
use Rattle.recordtext.proofs.reading.first_state.Goals as goal

pub returns-in_err-end : goal.returns-in_err-end
returns-in_err-end c =
    let found : c.position.result ≡ position (λ b. eqb b 10) c.args.text.now =
    position_from_yields_List (λ b. eqb b 10) _ _ c.position.result c.position.ensures.ran (YieldsList-from_slice c.args.text.now (cc)) (λ x b q k. search (rules, tests)) in
    rw c.from_residual.ensures (λ t w tail ts ws is. none-some _ (sym c.in_err-end.was ∙ found ∙ newline_at t w ts ws c.args.text.now tail is))

pub returns-in_err-state : goal.returns-in_err-state
returns-in_err-state c =
    let found : c.position.result ≡ position (λ b. eqb b 10) c.args.text.now =
    position_from_yields_List (λ b. eqb b 10) _ _ c.position.result c.position.ensures.ran (YieldsList-from_slice c.args.text.now (cc)) (λ x b q k. search (rules, tests)) in
    rw c.from_residual-in_err-state.ensures (λ t w tail ts ws is. c.in_err-state.ensures t w ts ws (body_before_newline t w ts ws c.args.text.now tail c.in_ok-end.end is (sym c.in_ok-end.was ∙ found)))

pub returns : goal.returns
returns c =
    let found : c.position.result ≡ position (λ b. eqb b 10) c.args.text.now =
    position_from_yields_List (λ b. eqb b 10) _ _ c.position.result c.position.ensures.ran (YieldsList-from_slice c.args.text.now (cc)) (λ x b q k. search (rules, tests)) in
    let line = line_at c.args.text.now c.in_ok-end.end c.in_ok-state.state.stamp c.in_ok-state.state.row (sym c.in_ok-end.was ∙ found) c.in_ok-state.ensures.0 in
    (line.0, omega arith, line.1, c.in_ok-state.ensures.1)
