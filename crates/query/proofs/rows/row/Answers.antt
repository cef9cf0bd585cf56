use Rattle.std.proofs.Common.{◌≡◌, ◌+◌, ◌*◌, ◌^◌, ◌<◌, cond, length, reverse, refl, ap, ◌∙◌, arith, lit<, rules, tests}
use Rattle.std.proofs.lemmas.List.{length-reverse}
use Rattle.std.proofs.lemmas.Fn.{serves_by}
use Rattle.std.proofs.lemmas.Iterator.Adapters.{YieldsList-from_rev_slice}
use Rattle.std.proofs.lemmas.Iterator.Consumers.{YieldsList-turn, fold_from_yields_List}
use Rattle.rules.specs.Tables.{nodes_of}
use Rattle.query.specs.Queries.{node_answer}
use Rattle.query.specs.Rows.{row_of}
use Rattle.query.proofs.Bits.{row_answers, row_fold, row_grows, row_room, with_bit}
use Rattle.query.proofs.rows.row.Goals as goal

pub fold-requires-clause-callable : goal.fold-requires-clause-callable
fold-requires-clause-callable g c =
    let nodes = nodes_of c.args.table.now in
    let road = YieldsList-from_rev_slice nodes (ap (λ i. i.rest.now) c.rev.ensures.source ∙ c.iter.ensures.rest ∙ c.nodes.ensures.value) in
    serves_by _ (λ xs p. p.1 < 2 ^ length xs)
    (λ xs q x v small turn.
    let e : v.1 ≡ 2 * q.1 + cond (node_answer x.now (g.S.Store.meaning q.0.0.now).facts) 1 0 = search (rules, tests) in
    row_grows xs x _ small e)
    _ _ _ _ (lit< tt)
    (λ xs t q x u seen step small.
    let inside : length xs < length (reverse nodes) = (YieldsList-turn road xs t seen _ u x refl step).0 in
    let few : length xs < 64 = omega (arith, length-reverse nodes, c.nodes.ensures.few) in
    let room = row_room xs small few in
    search rules)

pub returns : goal.returns
returns g c =
    let nodes = nodes_of c.args.table.now in
    let facts = (g.S.Store.meaning c.args.store.now).facts in
    let road = YieldsList-from_rev_slice nodes (ap (λ i. i.rest.now) c.rev.ensures.source ∙ c.iter.ensures.rest ∙ c.nodes.ensures.value) in
    let folded = fold_from_yields_List _ (with_bit facts) 0 _ c.fold.ensures.ran road (λ a x b q k. search (rules, tests)) in
    let value : c.fold.result ≡ row_of nodes facts = folded ∙ row_fold nodes facts in
    record { value = value; answers = row_answers nodes facts value }
