-- Formulas and their reach.
use Rattle.std.specs.Prelude.{ℕ, ◌+◌, max, Bool, true, false, ◌||◌, Some, None, Option}
use Rattle.syntax.specs.declared.Window.{Window}

-- A leaf is a query, by its node number.
pub data Formula : Type 0 where
  Truth : Formula
  Query : ℕ → Formula
  Not : Formula → Formula
  And : Formula → Formula → Formula
  Or : Formula → Formula → Formula
  Implies : Formula → Formula → Formula
  Next : Window → Formula → Formula
  AllNext : Window → Formula → Formula
  Sometime : Window → Formula → Formula
  Always : Window → Formula → Formula
  Until : Window → Formula → Formula → Formula
  Previous : Window → Formula → Formula
  Once : Window → Formula → Formula
  SoFar : Window → Formula → Formula
  Since : Window → Formula → Formula → Formula

-- The greater of two reaches, and a bound added to a reach; none if a part has none.
abbrev pub greater : Option ℕ → Option ℕ → Option ℕ
greater None None = None
greater None (Some e) = None
greater (Some d) None = None
greater (Some d) (Some e) = Some (max d e)

abbrev pub plus : Option ℕ → Option ℕ → Option ℕ
plus None None = None
plus None (Some d) = None
plus (Some b) None = None
plus (Some b) (Some d) = Some (b + d)

-- How far past a state's stamp the record can matter to the formula there.
abbrev pub reach : Formula → Option ℕ
reach Truth = Some 0
reach (Query m) = Some 0
reach (Not f) = reach f
reach (And f g) = greater (reach f) (reach g)
reach (Or f g) = greater (reach f) (reach g)
reach (Implies f g) = greater (reach f) (reach g)
reach (Next w f) = plus w.high (reach f)
reach (AllNext w f) = plus w.high (reach f)
reach (Sometime w f) = plus w.high (reach f)
reach (Always w f) = plus w.high (reach f)
reach (Until w f g) = plus w.high (greater (reach f) (reach g))
reach (Previous w f) = reach f
reach (Once w f) = reach f
reach (SoFar w f) = reach f
reach (Since w f g) = greater (reach f) (reach g)

-- Whether a formula has a future operator.
abbrev pub ahead : Formula → Bool
ahead Truth = false
ahead (Query m) = false
ahead (Not f) = ahead f
ahead (And f g) = ahead f || ahead g
ahead (Or f g) = ahead f || ahead g
ahead (Implies f g) = ahead f || ahead g
ahead (Next w f) = true
ahead (AllNext w f) = true
ahead (Sometime w f) = true
ahead (Always w f) = true
ahead (Until w f g) = true
ahead (Previous w f) = ahead f
ahead (Once w f) = ahead f
ahead (SoFar w f) = ahead f
ahead (Since w f g) = ahead f || ahead g
