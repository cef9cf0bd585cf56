use Rattle.std.proofs.Common.{◌≡◌, ℕ, List, length, refl, ap, ◌∙◌}
use Rattle.truth.specs.Kinds.{Kind}
use Rattle.syntax.specs.declared.Node.{Node}
use Rattle.syntax.specs.declared.Window.{Window}
use Rattle.eval.specs.Columns.{value_at}
use Rattle.eval.specs.Evaluations.{record_in}
use Rattle.eval.specs.Outlooks.{seen}
use Rattle.eval.specs.Stamps.{timed}
use Rattle.eval.specs.Steps.{node_value}
use Rattle.eval.specs.Truth.{Record, next, allnext, previous, once, sofar, since}
use Rattle.eval.proofs.evaluation.Evaluation.node_at.Goals as goal

-- an operator of a node, seen from a state
seen_from : {K : Type 0} (k : Kind K) (r : Record K) (of : ℕ → ℕ → K) (m i : ℕ) (op : List ℕ → Window → (ℕ → K) → ℕ → K)
    {ts : List ℕ} {j : ℕ} {v w : Window} {f h : ℕ → K} {x z : Node} {y : K}
    → (ts ≡ r.stamps) × (j ≡ i) × (v ≡ w) → f ≡ h → y ≡ op ts v f j → op r.stamps w h i ≡ node_value k r of m x i → x ≡ z → y ≡ node_value k r of m z i
seen_from k r of m i op {j = j} {v = v} {w = w} {f = f} (es, ei, ew) ef ey eo ex =
    ey ∙ ap (λ t. op t v f j) es ∙ ap (op r.stamps v f) ei ∙ ap (λ u. op r.stamps u f i) ew ∙ ap (λ g. op r.stamps w g i) ef
    ∙ eo ∙ ap (λ n. node_value k r of m n i) ex

pub returns-in-Next : goal.returns-in-Next
returns-in-Next g c =
    let k = g.K.Truth.kind in
    let e = c.args.self.now in
    seen_from k (record_in g.L.Leaves.leaf e) (value_at k c.args.values.now (length e.nodes.now)) c.args.m c.args.i (λ t. next k (timed k t e.pending))
    c.from.ensures c.column.ensures.value c.next.ensures refl c.in-Next.ensures.value

pub returns-in-AllNext : goal.returns-in-AllNext
returns-in-AllNext g c =
    let k = g.K.Truth.kind in
    let e = c.args.self.now in
    seen_from k (record_in g.L.Leaves.leaf e) (value_at k c.args.values.now (length e.nodes.now)) c.args.m c.args.i (λ t. allnext k (timed k t e.pending))
    c.from-in-AllNext.ensures c.column-in-AllNext.ensures.value c.allnext.ensures refl c.in-AllNext.ensures.value

pub returns-in-Previous : goal.returns-in-Previous
returns-in-Previous g c =
    let k = g.K.Truth.kind in
    let e = c.args.self.now in
    seen_from k (record_in g.L.Leaves.leaf e) (value_at k c.args.values.now (length e.nodes.now)) c.args.m c.args.i (λ t. previous k (timed k t k.no))
    c.from-in-Previous.ensures c.column-in-Previous.ensures.value c.previous.ensures refl c.in-Previous.ensures.value

pub returns-in-Once : goal.returns-in-Once
returns-in-Once g c =
    let k = g.K.Truth.kind in
    let e = c.args.self.now in
    seen_from k (record_in g.L.Leaves.leaf e) (value_at k c.args.values.now (length e.nodes.now)) c.args.m c.args.i (λ t. once k (timed k t k.no))
    c.from-in-Once.ensures c.column-in-Once.ensures.value c.once.ensures refl c.in-Once.ensures.value

pub returns-in-SoFar : goal.returns-in-SoFar
returns-in-SoFar g c =
    let k = g.K.Truth.kind in
    let e = c.args.self.now in
    seen_from k (record_in g.L.Leaves.leaf e) (value_at k c.args.values.now (length e.nodes.now)) c.args.m c.args.i (λ t. sofar k (timed k t k.no))
    c.from-in-SoFar.ensures c.column-in-SoFar.ensures.value c.sofar.ensures refl c.in-SoFar.ensures.value

pub returns-in-Since : goal.returns-in-Since
returns-in-Since g c =
    let k = g.K.Truth.kind in
    let e = c.args.self.now in
    let o = c.from-in-Since.result in
    let of = value_at k c.args.values.now (length e.nodes.now) in
    let first = c.column-first-in-Since.result in
    seen_from k (record_in g.L.Leaves.leaf e) of c.args.m c.args.i (λ t w f. since k (timed k t k.no) w f (of c.in-Since.b))
    c.from-in-Since.ensures c.column-first-in-Since.ensures.value
    (c.since.ensures ∙ ap (λ h. since k (seen k o k.no) o.window (value_at k first.values.now first.nodes first.node) h o.state) c.column-second-in-Since.ensures.value)
    refl c.in-Since.ensures.value
