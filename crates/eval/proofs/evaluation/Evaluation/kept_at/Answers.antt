use Rattle.std.proofs.Common.{◌≡◌, ℕ, suc, ◌+◌, ◌<◌, length, leb, sym, ap, ◌∙◌, ap₂, arith}
use Rattle.truth.specs.Kinds.{Kind, Laws}
use Rattle.syntax.specs.declared.Node.{Node}
use Rattle.syntax.specs.declared.Node.TheVariants as node
use Rattle.syntax.specs.declared.Window.{Window}
use Rattle.eval.specs.Columns.{value_at}
use Rattle.eval.specs.Steps.{kept_of}
use Rattle.eval.specs.Truth.{all}
use Rattle.eval.proofs.Folds.{all_front}
use Rattle.eval.proofs.evaluation.Evaluation.kept_at.Goals as goal

kept_until : {K : Type 0} {k : Kind K} (laws : Laws k) (of : ℕ → ℕ → K) (n i : ℕ) (x : Node) (w : Window) (a b : ℕ) {later y q : K} → i < n
    → node.Until w a b ≡ x → later ≡ kept_of k of n (i + 1) x → y ≡ of a i → q ≡ k.and y later → q ≡ kept_of k of n i x
kept_until {k = k} laws of n i x w a b lt is pl py pq =
    let one : i + 1 ≡ suc i = omega arith in
    pq ∙ ap₂ k.and py (pl ∙ ap (kept_of k of n (i + 1)) (sym is) ∙ ap (λ s. all k n (λ m. leb s m) (of a)) one)
    ∙ sym (all_front laws n i lt (of a)) ∙ ap (kept_of k of n i) is

pub returns-in-Until : goal.returns-in-Until
returns-in-Until g c =
    let e = c.args.self.now in
    kept_until g.met.K.Truth.laws (value_at g.K.Truth.kind c.args.values.now (length e.nodes.now)) (length e.stamps.now) c.args.i _ _ _ _
    c.requires.within.0.1 c.in-Until.ensures.value c.requires.keeps c.value.ensures c.and.ensures
