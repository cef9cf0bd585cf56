-- How many formulas a formula is made of.
use Rattle.std.specs.Prelude.{ℕ, ◌+◌}
use Rattle.syntax.specs.Formula.{Formula}
use Rattle.syntax.specs.Formula.Formula.{Truth, Query, Not, And, Or, Implies, Next, AllNext, Sometime, Always, Until, Previous, Once, SoFar, Since}

-- itself, and those inside it
abbrev pub size : Formula → ℕ
size Truth = 1
size (Query m) = 1
size (Not f) = 1 + size f
size (And f g) = 1 + (size f + size g)
size (Or f g) = 1 + (size f + size g)
size (Implies f g) = 1 + (size f + size g)
size (Next w f) = 1 + size f
size (AllNext w f) = 1 + size f
size (Sometime w f) = 1 + size f
size (Always w f) = 1 + size f
size (Until w f g) = 1 + (size f + size g)
size (Previous w f) = 1 + size f
size (Once w f) = 1 + size f
size (SoFar w f) = 1 + size f
size (Since w f g) = 1 + (size f + size g)
