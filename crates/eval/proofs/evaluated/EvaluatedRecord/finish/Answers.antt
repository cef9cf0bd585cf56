use Rattle.std.proofs.Common.{ℕ, ◌*◌, List, length, vec_items, sym, refl, ap, ◌∙◌, arith}
use Rattle.rules.specs.Tables.{nodes_of}
use Rattle.eval.specs.Stamps.{rising}
use Rattle.eval.proofs.Records.{how_many, finish_right, settled_same, few_states}
use Rattle.eval.proofs.evaluated.EvaluatedRecord.finish.Goals as goal

pub evaluate_rest-self-requires : goal.evaluate_rest-self-requires
evaluate_rest-self-requires c =
    let s = c.args.self.now in
    let same = c.as_slice.ensures.value in
    record {
      risen = ap rising same ∙ s.risen;
      full = how_many s ∙ ap (λ (ts : List ℕ). length ts * length (nodes_of s.table.now)) (sym same);
      right = finish_right s _ _ _ same c.as_slice-2.ensures.value s.finished refl c.standing-standing.ensures.states;
      settled = settled_same s _ (λ k d l. refl) c.standing-standing.result.settled c.standing-standing.ensures.settled;
      within = few_states s.finished (length (vec_items s.stamps)) c.standing-standing.ensures.states (omega (arith, ap length same));
    }
