use Rattle.std.proofs.Common.{◌+◌, ◌*◌, ◌<◌, length, get_or, vec_items, vec_len, sym, ap, ◌∙◌, subst}
use Rattle.std.proofs.lemmas.Bool.{ltb-true}
use Rattle.judging.proofs.Truths.{answer_place, answer_is}
use Rattle.judging.proofs.judged.Judged.truth.Goals as goal

pub index-requires : goal.index-requires
index-requires c =
    let j = c.args.self.now in
    let known = sym c.in_ok-m.ensures.ok_part ∙ c.root.ensures.value in
    subst (λ xs. c.args.state * length xs + c.in_ok-m.m < vec_len j.values) (sym c.nodes.ensures.value)
    (answer_place j c.args.rule c.args.state c.in_ok-m.m known (c.root.ensures.within _ (sym known)) (ltb-true _ _ (sym c.has_state.ensures ∙ c.if-not-has_state.false)))

pub returns : goal.returns
returns c =
    let j = c.args.self.now in
    let known = sym c.in_ok-m.ensures.ok_part ∙ c.root.ensures.value in
    answer_is j c.args.rule c.args.state c.in_ok-m.m known (c.root.ensures.within _ (sym known)) (ltb-true _ _ (sym c.has_state.ensures ∙ c.if-not-has_state.false))
    c.index.result.now
    (c.index.ensures ∙ ap (λ xs. get_or (vec_items j.values) (c.args.state * length xs + c.in_ok-m.m) c.index.result.now) c.nodes.ensures.value)
