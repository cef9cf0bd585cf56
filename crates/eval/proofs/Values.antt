-- The values in the places of the nodes are those of the formulas.
use Rattle.std.proofs.Common.{◌≡◌, ℕ, zero, suc, ◌+◌, ◌<◌, ◌≤◌, Bool, true, false, cond, ltb, leb, List, [], ◌∷◌, ◌++◌, length, get_or, take, drop, sym, refl, ap, ◌∙◌, ap₂, arith, take-append-drop, length-take}
use Rattle.std.proofs.lemmas.List.{length_push, get_or_append_left, get_or_push, drop_more}
use Rattle.std.proofs.lemmas.Bool.{ltb-true}
use Rattle.truth.specs.Kinds.{Kind}
use Rattle.syntax.specs.Formula.{Formula}
use Rattle.syntax.specs.Formula.Formula.{Truth}
use Rattle.syntax.specs.declared.Node.{Node}
use Rattle.syntax.specs.declared.Node.TheVariants as node
use Rattle.syntax.specs.declared.Window.{Window}
use Rattle.syntax.specs.Nodes.{formula, formulas, formulas_after, formula_at, place}
use Rattle.eval.specs.Steps.{node_value, kept_of}
use Rattle.eval.specs.Truth.{any, all, Record, count, value, future, past, mark, sometime, until, next, since, previous}

-- ---- the formulas of a table

pub length_formulas : (fs : List Formula) (xs : List Node) → length (formulas_after fs xs) ≡ length fs + length xs
length_formulas fs [] = omega arith
length_formulas fs (y ∷ ys) = length_formulas (fs ++ formula fs y ∷ []) ys ∙ simp length_push (omega arith)

formulas_join : (fs : List Formula) (xs ys : List Node) → formulas_after fs (xs ++ ys) ≡ formulas_after (formulas_after fs xs) ys
formulas_join fs [] ys = refl
formulas_join fs (x ∷ xs) ys = formulas_join (fs ++ formula fs x ∷ []) xs ys

-- nodes that come later leave a formula as it is
earlier : (fs : List Formula) (xs : List Node) (a : ℕ) → a < length fs → get_or (formulas_after fs xs) a Truth ≡ get_or fs a Truth
earlier fs [] a l = refl
earlier fs (x ∷ xs) a l =
    earlier (fs ++ formula fs x ∷ []) xs a (simp length_push (omega arith)) ∙ get_or_append_left fs (formula fs x ∷ []) Truth a l

module _ (nodes : List Node) (m : ℕ) (lm : m < length nodes) where
  abbrev pub before : List Formula
  before = formulas (take m nodes)

  pub count_before : length before ≡ m
  count_before = length_formulas [] (take m nodes) ∙ simp length-take (omega arith)

  whole : formulas nodes ≡ formulas_after before (drop m nodes)
  whole = ap formulas (sym (take-append-drop m nodes)) ∙ formulas_join [] (take m nodes) (drop m nodes)

  pub formula_before : (a : ℕ) → a < m → get_or before a Truth ≡ formula_at nodes a
  formula_before a l = sym (ap (λ fs. get_or fs a Truth) whole ∙ earlier before (drop m nodes) a (omega (arith, count_before)))

  pub formula_here : formula before (get_or nodes m node.True) ≡ formula_at nodes m
  formula_here =
      let x = get_or nodes m node.True in
      let next : formulas_after before (drop m nodes) ≡ formulas_after (before ++ formula before x ∷ []) (drop (m + 1) nodes) =
      ap (formulas_after before) (drop_more nodes m node.True lm) in
      sym
      (ap (λ fs. get_or fs m Truth) (whole ∙ next)
      ∙ earlier (before ++ formula before x ∷ []) (drop (m + 1) nodes) m (simp length_push (omega (arith, count_before)))
      ∙ get_or_push before (formula before x) Truth m count_before)

-- ---- an operator reads its operands at the states of the record alone

-- the same at each state below n
abbrev pub Agree : {K : Type 0} → ℕ → (ℕ → K) → (ℕ → K) → Type 0
Agree n f g = (j : ℕ) → j < n → f j ≡ g j

module _ {K : Type 0} (k : Kind K) where
  any_agree : (n : ℕ) (p : ℕ → Bool) (f g : ℕ → K) → Agree n f g → any k n p f ≡ any k n p g
  any_agree zero p f g same = refl
  any_agree (suc n) p f g same = ap₂ k.or (any_agree n p f g (λ j l. same j (omega arith))) (ap (λ x. cond (p n) x k.no) (same n (omega arith)))

  all_agree : (n : ℕ) (p : ℕ → Bool) (f g : ℕ → K) → Agree n f g → all k n p f ≡ all k n p g
  all_agree zero p f g same = refl
  all_agree (suc n) p f g same = ap₂ k.and (all_agree n p f g (λ j l. same j (omega arith))) (ap (λ x. cond (p n) x k.yes) (same n (omega arith)))

  cond_agree : (b : Bool) (x y z : K) → (b ≡ true → x ≡ y) → cond b x z ≡ cond b y z
  cond_agree true x y z same = same refl
  cond_agree false x y z same = refl

  module _ (r : Record K) (w : Window) (i : ℕ) (li : i < count r) where
    sometime_agree : (f g : ℕ → K) → Agree (count r) f g → sometime k r w f i ≡ sometime k r w g i
    sometime_agree f g same = ap (λ x. k.or x (mark k r w i)) (any_agree (count r) (future k r w i) f g same)

    until_agree : (f f' g g' : ℕ → K) → Agree (count r) f f' → Agree (count r) g g' → until k r w f g i ≡ until k r w f' g' i
    until_agree f f' g g' sf sg =
        ap₂ k.or
        (any_agree (count r) (future k r w i) _ _ (λ j l. ap₂ k.and (sg j l) (all_agree j (λ m. leb i m) f f' (λ m h. sf m (omega arith)))))
        (ap (λ x. k.and x (mark k r w i)) (all_agree (count r) (λ m. leb i m) f f' sf))

    next_agree : (f g : ℕ → K) → Agree (count r) f g → next k r w f i ≡ next k r w g i
    next_agree f g same =
        cond_agree (ltb (suc i) (count r)) _ _ _ (λ e. ap (λ x. cond (future k r w i (suc i)) x k.no) (same (suc i) (ltb-true (suc i) (count r) e)))

    since_agree : (f f' g g' : ℕ → K) → Agree (count r) f f' → Agree (count r) g g' → since k r w f g i ≡ since k r w f' g' i
    since_agree f f' g g' sf sg =
        any_agree (suc i) (past k r w i) _ _
        (λ j l. ap₂ k.and (sg j (omega arith)) (all_agree (suc i) (λ m. ltb j m) f f' (λ m h. sf m (omega arith))))

  previous_agree : (r : Record K) (w : Window) (i : ℕ) → i < count r → (f g : ℕ → K) → Agree (count r) f g → previous k r w f i ≡ previous k r w g i
  previous_agree r w zero li f g same = refl
  previous_agree r w (suc i) li f g same = ap (λ x. cond (past k r w (suc i) i) x k.no) (same i (omega arith))

  -- ---- a node's value, from columns that agree with the formulas of the nodes before it

  module _ (r : Record K) (fs : List Formula) (of : ℕ → ℕ → K) (filled : (a : ℕ) → a < length fs → Agree (count r) (of a) (value k r (get_or fs a Truth))) where
    abbrev val : ℕ → ℕ → K
    val a = value k r (get_or fs a Truth)

    negated : (a : ℕ) → a < length fs → Agree (count r) (λ j. k.not (of a j)) (λ j. k.not (val a j))
    negated a l j h = ap k.not (filled a l j h)

    always_yes : Agree (count r) (λ _. k.yes) (λ _. k.yes)
    always_yes j l = refl

    pub node_agree : (x : Node) → place x ≤ length fs → Agree (count r) (node_value k r of (length fs) x) (value k r (formula fs x))
    node_agree node.True b i h = refl
    node_agree (node.Query q) b i h = refl
    node_agree (node.Not a) b i h = ap k.not (filled a (omega arith) i h)
    node_agree (node.And a c) b i h = ap₂ k.and (filled a (omega arith) i h) (filled c (omega arith) i h)
    node_agree (node.Or a c) b i h = ap₂ k.or (filled a (omega arith) i h) (filled c (omega arith) i h)
    node_agree (node.Implies a c) b i h = ap₂ k.or (ap k.not (filled a (omega arith) i h)) (filled c (omega arith) i h)
    node_agree (node.Next w a) b i h = next_agree r w i h (of a) (val a) (filled a (omega arith))
    node_agree (node.AllNext w a) b i h = ap k.not (next_agree r w i h _ _ (negated a (omega arith)))
    node_agree (node.Sometime w a) b i h = sometime_agree r w i h (of a) (val a) (filled a (omega arith))
    node_agree (node.Always w a) b i h = ap k.not (sometime_agree r w i h _ _ (negated a (omega arith)))
    node_agree (node.Until w a c) b i h = until_agree r w i h (of a) (val a) (of c) (val c) (filled a (omega arith)) (filled c (omega arith))
    node_agree (node.Previous w a) b i h = previous_agree r w i h (of a) (val a) (filled a (omega arith))
    node_agree (node.Once w a) b i h = since_agree r w i h _ _ (of a) (val a) always_yes (filled a (omega arith))
    node_agree (node.SoFar w a) b i h = ap k.not (since_agree r w i h _ _ _ _ always_yes (negated a (omega arith)))
    node_agree (node.Since w a c) b i h = since_agree r w i h (of a) (val a) (of c) (val c) (filled a (omega arith)) (filled c (omega arith))

  -- what an until keeps, from columns that agree
  pub kept_agree : (n i : ℕ) (of of' : ℕ → ℕ → K) (x : Node) → ((a : ℕ) → a < place x → Agree n (of a) (of' a)) → kept_of k of n i x ≡ kept_of k of' n i x
  kept_agree n i of of' node.True same = refl
  kept_agree n i of of' (node.Query q) same = refl
  kept_agree n i of of' (node.Not a) same = refl
  kept_agree n i of of' (node.And a b) same = refl
  kept_agree n i of of' (node.Or a b) same = refl
  kept_agree n i of of' (node.Implies a b) same = refl
  kept_agree n i of of' (node.Next w a) same = refl
  kept_agree n i of of' (node.AllNext w a) same = refl
  kept_agree n i of of' (node.Sometime w a) same = refl
  kept_agree n i of of' (node.Always w a) same = refl
  kept_agree n i of of' (node.Until w a b) same = all_agree n (λ m. leb i m) (of a) (of' a) (same a (omega arith))
  kept_agree n i of of' (node.Previous w a) same = refl
  kept_agree n i of of' (node.Once w a) same = refl
  kept_agree n i of of' (node.SoFar w a) same = refl
  kept_agree n i of of' (node.Since w a b) same = refl
