use Rattle.std.proofs.Common.{◌≡◌, ◌+◌, true, [], ◌∷◌, is_ok, length, vec_items, refl, ap, ◌∙◌, arith, length-append, rules}
use Rattle.std.proofs.lemmas.Bool.{cond-true}
use Rattle.eval.specs.Stamps.{rising}
use Rattle.eval.proofs.Records.{how_many, more_room, one_more, rising_more, take_right, settled_same, few_states}
use Rattle.eval.proofs.evaluated.EvaluatedRecord.take.Goals as goal

pub overflow_add-places : goal.overflow_add-places
overflow_add-places c =
    let s = c.args.self.now in
    let more = more_room (length (vec_items s.stamps)) _ _ c.requires.few c.nodes.ensures.few (how_many s) in
    omega (arith, ap length c.nodes.ensures.value)

pub unwrap-requires : goal.unwrap-requires
unwrap-requires c =
    let s = c.args.self.now in
    let more = more_room (length (vec_items s.stamps)) _ _ c.requires.few c.nodes.ensures.few (how_many s) in
    let wide = s.for_values in
    let ok : is_ok c.resize.result ≡ true = c.resize.ensures.succeeds (omega (arith, ap length c.nodes.ensures.value)) in
    search rules

pub evaluate_rest-self-requires : goal.evaluate_rest-self-requires
evaluate_rest-self-requires c =
    let s = c.args.self.now in
    let more = more_room (length (vec_items s.stamps)) _ _ c.requires.few c.nodes.ensures.few (how_many s) in
    let wide = s.for_values in
    let same = c.as_slice.ensures.value ∙ c.push_reserved.ensures.items in
    record {
      risen = ap rising same ∙ rising_more (vec_items s.stamps) c.args.stamp s.risen c.requires.later;
      full = one_more _ _ _ _ _ (how_many s) (ap length same ∙ length-append (vec_items s.stamps) _) (ap length c.nodes.ensures.value)
          (c.resize.ensures.len ∙ cond-true _ _ _ (c.resize.ensures.succeeds (omega (arith, ap length c.nodes.ensures.value))) ∙ ap (λ n. n + length c.nodes.result.now) c.len.ensures);
      right = rw c.pending-pending.ensures
          (take_right s c.args.stamp c.args.row _ _ _ _ c.requires.later same (c.as_slice-2.ensures.value ∙ c.push_reserved-2.ensures.items)
          (λ k d l. c.resize.ensures.by_index.0 k d (omega arith) l) s.finished refl c.standing-standing.ensures.states);
      settled = settled_same s _ (λ k d l. c.resize.ensures.by_index.0 k d (omega arith) l) c.standing-standing.result.settled c.standing-standing.ensures.settled;
      within = few_states s.finished (length (vec_items s.stamps)) c.standing-standing.ensures.states (omega (arith, ap length same, length-append (vec_items s.stamps) (c.args.stamp ∷ [])));
    }

pub invariant_of-self : goal.invariant_of-self
invariant_of-self c =
    let s = c.args.self.now in
    let up : rising (vec_items c.push_reserved.new.self) ≡ true =
    ap rising c.push_reserved.ensures.items ∙ rising_more (vec_items s.stamps) c.args.stamp s.risen c.requires.later in
    search rules
