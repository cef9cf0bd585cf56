use Rattle.std.proofs.Common.{◌≡◌, ℕ, ◌+◌, ◌*◌, ◌^◌, ◌<◌, Bool, ◌&&◌, ltb, List, length, get_or, Some, None, Option, vec_items, vec_len, sym, ap, ◌∙◌, subst, ap₂, arith, rules, tests}
use Rattle.std.proofs.lemmas.List.{get_or_read_under}
use Rattle.std.proofs.lemmas.Bool.{and_from, and_parts, cond-true, cond-false, lt-ltb, le-ltb, ltb-true}
use Rattle.std.specs.Option.{is_some, IfSome}
use Rattle.truth.specs.declared.Three.{Three}
use Rattle.truth.specs.declared.Three.TheVariants.{Undecided}
use Rattle.truth.specs.Kleene.{three}
use Rattle.rules.specs.Tables.{nodes_of}
use Rattle.eval.specs.declared.evaluated.EvaluatedRecord.{EvaluatedRecord}
use Rattle.eval.specs.Growing.{growing_record, value_in}
use Rattle.eval.proofs.Filling.{all_values_at}
use Rattle.eval.proofs.Places.{place_within}
use Rattle.eval.proofs.Records.{how_many}
use Rattle.eval.proofs.evaluated.EvaluatedRecord.value_at.Goals as goal
use Rattle.eval.proofs.evaluated.EvaluatedRecord.value_at.Goals.{then-node-nodes, else-node-nodes}

module _ (s : EvaluatedRecord) (m i w : ℕ) (e : w ≡ length (nodes_of s.table.now)) (lm : m < w) (li : i < vec_len s.stamps) where
  abbrev nodes : ℕ
  nodes = length (nodes_of s.table.now)

  there : m < nodes
  there = omega arith

  come : i < length (vec_items s.stamps)
  come = omega (arith, s.stamps.ok.0)

  within : i * w + m < vec_len s.values
  within = subst (λ (n : ℕ). i * n + m < vec_len s.values) (sym e) (place_within i _ m _ _ come there (how_many s))

  looked_up : (x : Three) → x ≡ get_or (vec_items s.values) (i * w + m) x
      → Some x ≡ value_in (nodes_of s.table.now) (vec_items s.stamps) (growing_record (vec_items s.stamps) (vec_items s.rows) s.finished) m i
  looked_up x read =
      ap Some
      (get_or_read_under (vec_items s.values) _ (vec_len s.values) _ Undecided read within s.values.ok.0
      ∙ ap (λ (n : ℕ). get_or (vec_items s.values) (i * n + m) Undecided) e
      ∙ ap (λ (vs : List Three). get_or vs (i * nodes + m) Undecided) s.evaluated
      ∙ all_values_at three (growing_record (vec_items s.stamps) (vec_items s.rows) s.finished) (nodes_of s.table.now) i m Undecided come there)
      ∙ sym (cond-true _ _ _ (and_from _ _ (lt-ltb m nodes there) (lt-ltb i (length (vec_items s.stamps)) come)))

-- there is an answer where the test holds, and then it is what the closure read
told : (s : EvaluatedRecord) (m i w : ℕ) (b : Bool) (r : Option Three) (P : Three → Type 0) → w ≡ length (nodes_of s.table.now)
    → b ≡ (ltb m w && ltb i (vec_len s.stamps)) → is_some r ≡ b → IfSome r P → ((x : Three) → P x → x ≡ get_or (vec_items s.values) (i * w + m) x)
    → r ≡ value_in (nodes_of s.table.now) (vec_items s.stamps) (growing_record (vec_items s.stamps) (vec_items s.rows) s.finished) m i
told s m i w b None P e tests some post read =
    let long : vec_len s.stamps ≡ length (vec_items s.stamps) = omega (arith, s.stamps.ok.0) in
    sym (cond-false _ _ _ (ap₂ (λ n k. ltb m n && ltb i k) (sym e) (sym long) ∙ sym (some ∙ tests)))
told s m i w b (Some x) P e tests some post read =
    let both = and_parts _ _ (sym (some ∙ tests)) in
    looked_up s m i w e (ltb-true m w both.0) (ltb-true i _ both.1) x (read x post)

pub then-requires : goal.then-requires
then-requires c = λ h.
    let s = c.args.self.now in
    let both : (c.args.node < length c.nodes.result.now) × (c.args.state < vec_len s.stamps) =
    elim c.if-node-nodes.branch [
      | then-node-nodes w ↦ (w.if-node-nodes.true, omega (arith, w.len.ensures, ltb-true c.args.state w.len.result (sym w.then-is ∙ h)))
      | else-node-nodes w ↦ absurd (omega (arith, w.if-node-nodes.false, ltb-true _ _ (sym w.then-is ∙ h)))
    ] in
    let place = within s c.args.node c.args.state _ (ap length c.nodes.ensures.value) both.0 both.1 in
    let row : c.args.state * length c.nodes.result.now < 2 ^ 64 = omega (arith, place, s.values.ok) in
    let all : c.args.state * length c.nodes.result.now + c.args.node < 2 ^ 64 = omega (arith, place, s.values.ok) in
    let there : c.args.state * length c.nodes.result.now + c.args.node < length c.as_slice-values.result.now = omega (arith, place, s.values.ok.0, ap length c.as_slice-values.ensures.value) in
    search rules

pub returns : goal.returns
returns c =
    let s = c.args.self.now in
    let test : c.if-node-nodes.then ≡ (ltb c.args.node (length c.nodes.result.now) && ltb c.args.state (vec_len s.stamps)) =
    elim c.if-node-nodes.branch [
      | then-node-nodes w ↦ w.then-is ∙ ap (λ n. ltb c.args.state n) w.len.ensures ∙ ap (λ b. b && ltb c.args.state (vec_len s.stamps)) (sym (lt-ltb _ _ w.if-node-nodes.true))
      | else-node-nodes w ↦ w.then-is ∙ le-ltb _ _ w.if-node-nodes.false ∙ ap (λ b. b && ltb c.args.state (vec_len s.stamps)) (sym (le-ltb _ _ w.if-node-nodes.false))
    ] in
    told s c.args.node c.args.state _ _ c.then.result _ (ap length c.nodes.ensures.value) test c.then.ensures.variant c.then.ensures.some (λ x post.
    let k = c.args.state * length c.nodes.result.now + c.args.node in
    let read : x ≡ get_or c.as_slice-values.result.now k x = search (rules, tests) in
    read ∙ ap (λ (vs : List Three). get_or vs k x) c.as_slice-values.ensures.value)
