use Rattle.std.proofs.Common.{◌≡◌, map, vec_items, sym, ap, ◌∙◌, rules}
use Rattle.std.proofs.lemmas.Result.{err_from_is_err_and}
use Rattle.grammar.specs.Entries.{entry_of}
use Rattle.grammar.specs.Reading.{done, stop}
use Rattle.grammar.specs.RoundTrip.{reading}
use Rattle.grammar.proofs.Places.{placed}
use Rattle.grammar.proofs.RoundTrip.{read_back}
use Rattle.rules.specs.Reads.{state_of}
use Rattle.rules.proofs.Whole.{formed, gives, spelt, unspelt}
use Rattle.rules.proofs.table.Table.read.Goals as goal
use Rattle.rules.proofs.table.Table.read.Goals.{In_ok-rules, In_err-rules}

pub returns-then-is_empty-clause-law : goal.returns-then-is_empty-clause-law
returns-then-is_empty-clause-law c =
    let e : reading c.args.text.now ≡ stop c.fault.result = search rules in
    unspelt c.args.text.now _ e

-- the fault of the rules is the text's
fault_of : (c : In_err-rules) → reading c.args.text.now ≡ stop c.in_err-rules.field-0.0
fault_of c = search rules

pub returns-in_err-rules-clause-law : goal.returns-in_err-rules-clause-law
returns-in_err-rules-clause-law c =
    let p = err_from_is_err_and c.from_residual.result c.from_residual.ensures.1 in
    rw p.1 (unspelt c.args.text.now _ (fault_of (goal.at.returns-in_err-rules-clause-law c).In_err-rules))

pub returns-in_err-rules-clause-place : goal.returns-in_err-rules-clause-place
returns-in_err-rules-clause-place c =
    let p = err_from_is_err_and c.from_residual.result c.from_residual.ensures.1 in
    rw (p.1, p.2) (placed c.args.text.now _ (fault_of (goal.at.returns-in_err-rules-clause-place c).In_err-rules))

-- the whole reading
whole : (c : In_ok-rules) → reading c.args.text.now ≡ done (vec_items c.in_ok-rules.rules) (state_of c.rules.new.self)
whole c = search rules

pub of-requires : goal.of-requires
of-requires c =
    record { formed = formed c.args.text.now _ _ (read_back c.args.text.now (vec_items c.in_ok-rules.rules) (state_of c.rules.new.self) (whole c)); wide = c.rules.new.self.room; long = c.in_ok-rules.ensures.wide }

pub returns : goal.returns
returns c =
    let e = whole (goal.at.returns c).In_ok-rules in
    let after = state_of c.rules.new.self in
    let rules = ap vec_items c.of.ensures.rules in
    let nodes = ap (λ v. map entry_of (vec_items v)) c.of.ensures.nodes in
    let same : reading c.args.text.now ≡ done (vec_items c.of.result.rules) after = e ∙ ap (λ x. done x after) (sym rules) in
    record { answer = gives c.args.text.now (vec_items c.of.result.rules) after (map entry_of (vec_items c.of.result.nodes)) same nodes; place = tt; law = spelt c.args.text.now (vec_items c.of.result.rules) after (map entry_of (vec_items c.of.result.nodes)) same nodes }
