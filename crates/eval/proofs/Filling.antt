-- The places of one node after another are filled with the values of their formulas.
use Rattle.std.proofs.Common.{◌≡◌, ℕ, zero, suc, ◌+◌, ◌-◌, ◌*◌, ◌/◌, ◌%◌, ◌<◌, ◌≤◌, Bool, true, leb, List, [], map, length, get_or, set, sym, refl, ap, ◌∙◌, subst, ⊎_elim, add-mul, one-mul, mul-zero, zero-mul, arith, get_or-set_other, get_or-set_same}
use Rattle.std.proofs.lemmas.Nat.{div-add-mod', div_below, mod_below}
use Rattle.std.proofs.lemmas.List.{length-append, length-map, get_or_append_left, get_or-append_right, get_or-map, get_or_default, same_lists}
use Rattle.std.proofs.lemmas.Bool.{cases_eq, cases_lt, lt-leb, lt-ltb, or_left}
use Rattle.truth.specs.Kinds.{Kind, Laws}
use Rattle.syntax.specs.Formula.{Formula}
use Rattle.syntax.specs.Formula.Formula.{Truth}
use Rattle.syntax.specs.declared.Node.{Node}
use Rattle.syntax.specs.declared.Node.TheVariants as node
use Rattle.syntax.specs.Nodes.{formulas, formula_at, place, Ordered}
use Rattle.eval.specs.Columns.{value_at}
use Rattle.eval.specs.Steps.{node_value, kept_of, Filled}
use Rattle.eval.specs.Standing.{Right, stood}
use Rattle.eval.specs.Truth.{all, Record, count, value}
use Rattle.eval.specs.Values.{values_upto, all_values}
use Rattle.eval.proofs.Folds.{all_none}
use Rattle.eval.proofs.Places.{place_within, place_apart, place_later}
use Rattle.eval.proofs.Values.{Agree, before, count_before, formula_before, formula_here, length_formulas, node_agree, kept_agree}

-- what an until keeps past the last state
pub kept_none : {K : Type 0} {k : Kind K} (laws : Laws k) (of : ℕ → ℕ → K) (n : ℕ) (x : Node) → k.yes ≡ kept_of k of n n x
kept_none laws of n node.True = refl
kept_none laws of n (node.Query q) = refl
kept_none laws of n (node.Not a) = refl
kept_none laws of n (node.And a b) = refl
kept_none laws of n (node.Or a b) = refl
kept_none laws of n (node.Implies a b) = refl
kept_none laws of n (node.Next w a) = refl
kept_none laws of n (node.AllNext w a) = refl
kept_none laws of n (node.Sometime w a) = refl
kept_none laws of n (node.Always w a) = refl
kept_none laws of n (node.Until w a b) = sym (all_none laws n (λ m. leb n m) (of a) (λ j l. lt-leb n j l))
kept_none laws of n (node.Previous w a) = refl
kept_none laws of n (node.Once w a) = refl
kept_none laws of n (node.SoFar w a) = refl
kept_none laws of n (node.Since w a b) = refl

module _ {K : Type 0} (k : Kind K) (r : Record K) (nodes : List Node) (m : ℕ) where
  -- the value of each node by its formula
  abbrev pub truths : ℕ → ℕ → K
  truths a j = value k r (formula_at nodes a) j

  -- the places of node m from state i on are filled
  abbrev pub Done : List K → ℕ → Type 0
  Done values i = (j : ℕ) → i ≤ j → j < count r → value_at k values (length nodes) m j ≡ truths m j

  module _ (lm : m < length nodes) (ordered : Ordered nodes) (values : List K) (filled : Filled k r nodes values m) where
    abbrev here : Node
    here = get_or nodes m node.True

    operands : (a : ℕ) → a < place here → Agree (count r) (value_at k values (length nodes) a) (truths a)
    operands a l j h = filled a j (omega (arith, ordered m lm)) h

    pub kept_columns : (i j : ℕ) {x : K} → i ≡ j → x ≡ kept_of k truths (count r) i here → x ≡ kept_of k (value_at k values (length nodes)) (count r) j here
    kept_columns i j e p = p ∙ ap (λ n. kept_of k truths (count r) n here) e ∙ sym (kept_agree k (count r) j (value_at k values (length nodes)) truths here operands)

    pub kept_truths : (i : ℕ) {x : K} → x ≡ kept_of k (value_at k values (length nodes)) (count r) i here → x ≡ kept_of k truths (count r) i here
    kept_truths i p = p ∙ kept_agree k (count r) i (value_at k values (length nodes)) truths here operands

    pub node_truth : (i : ℕ) {x : K} → i < count r → x ≡ node_value k r (value_at k values (length nodes)) m here i → x ≡ truths m i
    node_truth i li p =
        p ∙ ap (λ n. node_value k r (value_at k values (length nodes)) n here i) (sym (count_before nodes m lm))
        ∙ node_agree k r (before nodes m lm) (value_at k values (length nodes)) old here (subst (λ (n : ℕ). place here ≤ n) (sym (count_before nodes m lm)) (ordered m lm)) i li
        ∙ ap (λ f. value k r f i) (formula_here nodes m lm)
      where
        old : (a : ℕ) → a < length (before nodes m lm) → Agree (count r) (value_at k values (length nodes) a) (value k r (get_or (before nodes m lm) a Truth))
        old a l j h =
            let la : a < m = omega (arith, count_before nodes m lm) in
            filled a j la h ∙ ap (λ f. value k r f j) (sym (formula_before nodes m lm a la))

    -- one value more
    module _ (total : length values ≡ count r * length nodes) (i : ℕ) (li : i < count r) (x : K) (after : List K) (set_is : after ≡ set values (i * length nodes + m) x) where
      there : x ≡ truths m i → value_at k after (length nodes) m i ≡ truths m i
      there p =
          ap (λ vs. value_at k vs (length nodes) m i) set_is
          ∙ get_or-set_same values (i * length nodes + m) x k.no (place_within i (length nodes) m (count r) (length values) li lm total)
          ∙ p

      other_node : (a j : ℕ) → a < length nodes → (a ≡ m → ⊥) → value_at k after (length nodes) a j ≡ value_at k values (length nodes) a j
      other_node a j la ne =
          ap (λ vs. value_at k vs (length nodes) a j) set_is
          ∙ get_or-set_other values (i * length nodes + m) (j * length nodes + a) x k.no (place_apart (length nodes) m a i j lm la ne)

      other_state : (j : ℕ) → (j ≡ i → ⊥) → value_at k after (length nodes) m j ≡ value_at k values (length nodes) m j
      other_state j ne =
          ap (λ vs. value_at k vs (length nodes) m j) set_is
          ∙ get_or-set_other values (i * length nodes + m) (j * length nodes + m) x k.no (place_later (length nodes) m i j lm ne)

      pub filled_keeps : Filled k r nodes after m
      filled_keeps a j la lj = other_node a j (omega arith) (omega arith) ∙ filled a j la lj

      pub done_more : (from : ℕ) → from ≤ i + 1 → x ≡ truths m i → Done values from → Done after i
      done_more from near p done j le lj =
          ⊎_elim
          (λ (e : j ≡ i). subst (λ (n : ℕ). value_at k after (length nodes) m n ≡ truths m n) (sym e) (there p))
          (λ ne. other_state j ne ∙ done j (omega arith) lj)
          (cases_eq j i)

      pub right_keeps : x ≡ truths m i → (stays : ℕ → K → Bool) → Right k r nodes values stays → Right k r nodes after stays
      right_keeps p stays right a j la lj =
          ⊎_elim
          (λ (e : a ≡ m).
          subst (λ (n : ℕ). stays j (value_at k after (length nodes) n j) ≡ true → value_at k after (length nodes) n j ≡ truths n j) (sym e)
          (⊎_elim
          (λ (f : j ≡ i). λ _. subst (λ (n : ℕ). value_at k after (length nodes) m n ≡ truths m n) (sym f) (there p))
          (λ ne. same m j lm lj (other_state j ne))
          (cases_eq j i)))
          (λ ne. same a j la lj (other_node a j la ne))
          (cases_eq a m)
        where
          same : (a j : ℕ) → a < length nodes → j < count r → value_at k after (length nodes) a j ≡ value_at k values (length nodes) a j → stays j (value_at k after (length nodes) a j) ≡ true → value_at k after (length nodes) a j ≡ truths a j
          same a j la lj e = subst (λ (v : K). stays j v ≡ true → v ≡ truths a j) (sym e) (right a j la lj)

  -- the states before `from` stand
  pub filled_more :
      (values : List K) (i from : ℕ) (stays : ℕ → K → Bool) → i ≤ from → m < length nodes → Filled k r nodes values m → Done values i
      → Right k r nodes values (stood from stays) → Filled k r nodes values (m + 1)
  filled_more values i from stays le lm filled done right a j la lj =
      ⊎_elim
      (λ (e : a ≡ m).
      subst (λ (n : ℕ). value_at k values (length nodes) n j ≡ truths n j) (sym e)
      (⊎_elim (λ (l : j < from). right m j lm lj (or_left _ _ (lt-ltb j from l))) (λ l. done j (omega arith) lj) (cases_lt j from)))
      (λ ne. filled a j (omega arith) lj)
      (cases_eq a m)

-- ---- all values, state by state

module _ {K : Type 0} (k : Kind K) (r : Record K) (fs : List Formula) where
  pub length_values : (n : ℕ) → length (values_upto k r fs n) ≡ n * length fs
  length_values zero = sym (zero-mul (length fs))
  length_values (suc n) =
      let e : suc n ≡ n + 1 = omega arith in
      length-append (values_upto k r fs n) (map (λ f. value k r f n) fs)
      ∙ ap (λ x. x + length (map (λ f. value k r f n) fs)) (length_values n)
      ∙ ap (λ x. n * length fs + x) (length-map fs (λ f. value k r f n))
      ∙ ap (λ x. n * length fs + x) (sym (one-mul (length fs)))
      ∙ sym (add-mul n 1 (length fs)) ∙ ap (λ x. x * length fs) (sym e)

  pub values_at : (n i m : ℕ) (d : K) → i < n → m < length fs → get_or (values_upto k r fs n) (i * length fs + m) d ≡ value k r (get_or fs m Truth) i
  values_at zero i m d li lm = absurd (omega arith)
  values_at (suc n) i m d li lm =
      ⊎_elim
      (λ lt.
      get_or_append_left (values_upto k r fs n) (map (λ f. value k r f n) fs) d (i * length fs + m) (place_within i (length fs) m n _ lt lm (length_values n))
      ∙ values_at n i m d lt lm)
      (λ le.
      let e : i ≡ n = omega arith in
      let back : n * length fs + m - n * length fs ≡ m = omega arith in
      subst (λ (v : ℕ). get_or (values_upto k r fs (suc n)) (v * length fs + m) d ≡ value k r (get_or fs m Truth) v) (sym e)
      (get_or-append_right (values_upto k r fs n) (map (λ f. value k r f n) fs) (n * length fs) (n * length fs + m) d (length_values n) (omega arith)
      ∙ ap (λ p. get_or (map (λ f. value k r f n) fs) p d) back
      ∙ get_or-map (λ f. value k r f n) fs m Truth d lm))
      (cases_lt i n)

-- the value of node m at state i stands at place i * nodes + m
pub all_values_at : {K : Type 0} (k : Kind K) (r : Record K) (nodes : List Node) (i m : ℕ) (d : K) → i < count r → m < length nodes
    → get_or (all_values k r nodes) (i * length nodes + m) d ≡ value k r (formula_at nodes m) i
all_values_at k r nodes i m d li lm =
    let same : length (formulas nodes) ≡ length nodes = length_formulas [] nodes ∙ omega arith in
    ap (λ n. get_or (all_values k r nodes) (i * n + m) d) (sym same)
    ∙ values_at k r (formulas nodes) (count r) i m d li (omega arith)

pub length_all_values : {K : Type 0} (k : Kind K) (r : Record K) (nodes : List Node) → length (all_values k r nodes) ≡ count r * length nodes
length_all_values k r nodes =
    let same : length (formulas nodes) ≡ length nodes = length_formulas [] nodes ∙ omega arith in
    length_values k r (formulas nodes) (count r) ∙ ap (λ n. count r * n) same

positive : (n m p : ℕ) → p < n * m → 0 < m
positive n m p lt = ⊎_elim (λ e. absurd (omega (arith, mul-zero n, subst (λ (v : ℕ). p < n * v) e lt))) (λ ne. omega arith) (cases_eq m 0)

pub filled_all : {K : Type 0} (k : Kind K) (r : Record K) (nodes : List Node) (values : List K) (m : ℕ) → length values ≡ count r * length nodes
    → length nodes ≤ m → Filled k r nodes values m → values ≡ all_values k r nodes
filled_all k r nodes values m total all filled =
    same_lists values (all_values k r nodes) (total ∙ sym (length_all_values k r nodes))
    (λ p d lp.
    let some : 0 < length nodes = positive (count r) (length nodes) p (subst (λ (n : ℕ). p < n) total lp) in
    let row : p / length nodes < count r = div_below p (length nodes) (count r) some (subst (λ (n : ℕ). p < n) total lp) in
    let column : p % length nodes < length nodes = mod_below p (length nodes) some in
    let split : p / length nodes * length nodes + p % length nodes ≡ p = div-add-mod' p (length nodes) in
    get_or_default values p d k.no lp
    ∙ ap (λ q. get_or values q k.no) (sym split)
    ∙ filled (p % length nodes) (p / length nodes) (omega arith) row
    ∙ sym (all_values_at k r nodes (p / length nodes) (p % length nodes) d row column)
    ∙ ap (λ q. get_or (all_values k r nodes) q d) split)
