use Rattle.std.proofs.Common.{◌≡◌, ℕ, ◌+◌, ◌*◌, ◌≤◌, Bool, List, length, drop, vec_len, sym, refl, ap, ap₂, ◌∙◌, subst, arith}
use Rattle.std.proofs.lemmas.List.{take_at, take_rest}
use Rattle.truth.specs.declared.Three.{Three}
use Rattle.truth.specs.Kleene.{three}
use Rattle.syntax.specs.declared.Node.{Node}
use Rattle.rules.specs.Tables.{nodes_of}
use Rattle.eval.specs.Rows.{row_record}
use Rattle.eval.specs.Standing.{Right, decided, stays_decided, stood}
use Rattle.std.specs.List.{take_while}
use Rattle.eval.specs.Truth.{Record}
use Rattle.eval.specs.Values.{all_values}
use Rattle.eval.proofs.Filling.{length_all_values}
use Rattle.eval.proofs.Records.{settled_right}
use Rattle.eval.proofs.Settled.{settled_within, settled_more}
use Rattle.eval.proofs.evaluated.evaluate_rest.Goals as goal

moved : (r : Record Three) {nodes ns : List Node} {vs values : List Three} (stays : ℕ → Three → Bool)
    → ns ≡ nodes → vs ≡ values → Right three r nodes values stays → Right three r ns vs stays
moved r stays en ev right = rw (en, ev) right

pub settle_all-requires : goal.settle_all-requires
settle_all-requires c =
    let same = c.nodes.ensures.value in
    let stamps = c.args.stamps.now in
    let r = row_record three stamps c.args.rows.now c.args.pending in
    record {
      within = c.as_mut_slice.ensures.len ∙ c.requires.full ∙ ap (λ (ns : List Node). length stamps * length ns) (sym same);
      right = moved r (stood c.args.standing.settled (stays_decided c.args.standing.states)) same c.as_mut_slice.ensures.value
          (settled_right (nodes_of c.args.table.now) r c.args.values.now.items c.args.standing.states c.args.standing.settled c.args.standing.within c.requires.settled c.requires.right);
    }

pub returns : goal.returns
returns c =
    let r = row_record three c.args.stamps.now c.args.rows.now c.args.pending in
    let nodes = nodes_of c.args.table.now in
    let n = length c.args.stamps.now in
    let from = c.args.standing.settled in
    let q = c.whole_rows.result in
    let whole : c.settle_all.new.values ≡ all_values three r nodes =
    c.settle_all.ensures ∙ ap (all_values three r) c.nodes.ensures.value in
    let long : length c.settle_all.new.values ≡ vec_len c.args.values.now =
    ap length whole ∙ length_all_values three r nodes ∙ sym c.requires.full in
    let is = take_at c.settle_all.new.values _ _ long ∙ whole in
    let width : length c.nodes-nodes.result.now ≡ length nodes = ap length c.nodes-nodes.ensures.value in
    let counted : c.count_decided.result ≡ length (take_while decided (drop (from * length nodes) (all_values three r nodes))) =
    c.count_decided.ensures ∙ ap (λ vs. length (take_while decided vs)) (take_rest c.deref.result.now (from * length c.nodes-nodes.result.now))
    ∙ ap₂ (λ w vs. length (take_while decided (drop (from * w) vs))) width (c.deref.ensures.value ∙ is) in
    let rows : q * length nodes ≤ c.count_decided.result = subst (λ w. q * w ≤ c.count_decided.result) width c.whole_rows.ensures.within in
    let within : from + q ≤ n =
    settled_within n from q (length nodes) c.count_decided.result (all_values three r nodes) (length_all_values three r nodes)
    (omega (arith, c.args.standing.within, c.requires.within)) counted rows (λ e. c.whole_rows.ensures.none (width ∙ e)) in
    record {
      values = is;
      capacity = refl;
      settled = rw is (settled_more r nodes c.args.values.now.items (all_values three r nodes) c.args.standing.states from q refl
          c.requires.right c.requires.settled c.args.standing.within c.requires.within (omega (arith, rows, counted)) within);
      within = within;
    }
