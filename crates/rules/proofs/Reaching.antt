-- The reaches of nodes, one after another.
use Rattle.std.proofs.Common.{◌≡◌, ℕ, zero, suc, ◌+◌, ◌*◌, ◌<◌, ◌≤◌, List, [], ◌∷◌, ◌++◌, map, length, get_or, take, Some, None, Option, sym, refl, ap, ◌∙◌, inl, inr, add-one, arith, length-append}
use Rattle.std.proofs.str.Laws.{order}
use Rattle.std.proofs.Math.Seq.{take-suc}
use Rattle.std.proofs.lemmas.List.{get_or_default, get_or_append_left, get_or_push, map-append, take_all}
use Rattle.syntax.specs.declared.Node.{Node}
use Rattle.syntax.specs.declared.Node.TheVariants as node
use Rattle.syntax.specs.Formula.{Formula, reach}
use Rattle.syntax.specs.Formula.Formula.{Truth}
use Rattle.syntax.specs.Nodes.{formula, formulas_after, formulas, formula_at}
use Rattle.rules.specs.Reaches.{node_reach, Upto, Small, Reached}

abbrev Reach : Type 0
Reach = Option ℕ

-- a node's reach, from the reaches of the formulas before it, is that of its formula
reach_at : (fs : List Formula) (a : ℕ) → get_or (map reach fs) a (Some 0) ≡ reach (get_or fs a Truth)
reach_at [] a = refl
reach_at (f ∷ fs) zero = refl
reach_at (f ∷ fs) (suc a) = reach_at fs a

formula_reach : (fs : List Formula) (x : Node) → node_reach (map reach fs) x ≡ reach (formula fs x)
formula_reach fs node.True = refl
formula_reach fs (node.Query q) = refl
formula_reach fs (node.Not a) = reach_at fs a
formula_reach fs (node.And a b) = simp reach_at
formula_reach fs (node.Or a b) = simp reach_at
formula_reach fs (node.Implies a b) = simp reach_at
formula_reach fs (node.Next w a) = simp reach_at
formula_reach fs (node.AllNext w a) = simp reach_at
formula_reach fs (node.Sometime w a) = simp reach_at
formula_reach fs (node.Always w a) = simp reach_at
formula_reach fs (node.Until w a b) = simp reach_at
formula_reach fs (node.Previous w a) = reach_at fs a
formula_reach fs (node.Once w a) = reach_at fs a
formula_reach fs (node.SoFar w a) = reach_at fs a
formula_reach fs (node.Since w a b) = simp reach_at

one_more : (fs : List Formula) (xs : List Node) (x : Node) → formulas_after fs (xs ++ x ∷ []) ≡ formulas_after fs xs ++ formula (formulas_after fs xs) x ∷ []
one_more fs [] x = refl
one_more fs (y ∷ ys) x = one_more (fs ++ formula fs y ∷ []) ys x

upto_more : (m n : ℕ) (o : Reach) → m ≤ n → Upto m o → Upto n o
upto_more m n None le h = tt
upto_more m n (Some d) le h = omega arith

-- these are the reaches of the first i nodes
pub record Sofar (xs : List Node) (i : ℕ) (rs : List Reach) : Type 0 where
  pub are : rs ≡ map reach (formulas (take i xs))
  pub count : length rs ≡ i
  pub small : Small rs

pub more : (xs : List Node) (i : ℕ) (rs : List Reach) (d : Node) (r : Reach) → Sofar xs i rs → i < length xs → Reached rs (get_or xs i d) r → Sofar xs (i + 1) (rs ++ r ∷ [])
more xs i rs d r h lt e =
    let front : take (i + 1) xs ≡ take i xs ++ get_or xs i d ∷ [] = rw add-one (take-suc xs i d lt) in
    let fs = formulas (take i xs) in
    let value : r ≡ reach (formula fs (get_or xs i d)) = e.value ∙ ap (λ l. node_reach l (get_or xs i d)) h.are ∙ formula_reach fs (get_or xs i d) in
    let n : length (rs ++ r ∷ []) ≡ length rs + 1 = length-append rs (r ∷ []) in
    record {
      are = ap (λ l. l ++ r ∷ []) h.are ∙ ap (λ z. map reach fs ++ z ∷ []) value ∙ sym (ap (λ l. map reach (formulas l)) front ∙ ap (map reach) (one_more [] (take i xs) (get_or xs i d)) ∙ map-append reach fs (formula fs (get_or xs i d) ∷ []));
      count = omega (arith, n, h.count);
      small = λ m below. elim (order m (length rs)) [
        | inl less ↦ rw (get_or_append_left rs (r ∷ []) None m less) (upto_more (length rs * 4294967295) _ _ (omega (arith, n)) (h.small m less))
        | inr ge ↦ rw (get_or_push rs r None m (omega (arith, n))) (upto_more ((length rs + 1) * 4294967295) _ _ (omega (arith, n)) e.small)
      ];
    }

pub all : (xs : List Node) (i : ℕ) (rs : List Reach) → Sofar xs i rs → length xs ≤ i → rs ≡ map reach (formulas xs)
all xs i rs h le = h.are ∙ ap (λ l. map reach (formulas l)) (take_all i xs le)

pub found : (xs : List Node) (rs : List Reach) (root : ℕ) (d : Reach) → rs ≡ map reach (formulas xs) → root < length rs → get_or rs root d ≡ reach (formula_at xs root)
found xs rs root d e lt = get_or_default rs root d (Some 0) lt ∙ ap (λ l. get_or l root (Some 0)) e ∙ reach_at (formulas xs) root
