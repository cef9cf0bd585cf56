-- What a walk through a relation finds.
use Rattle.std.specs.Prelude.{Bool, true, List, Some, None, Option, filter, int_le}
use Rattle.store.specs.declared.facts.Fact.{Fact}
use Rattle.store.specs.Facts.{at_or_after}

-- the facts that a walk from a start still comes to
abbrev pub ahead : Fact → List Fact → List Fact
ahead start xs = filter (at_or_after start) xs

-- the value of x is at most that of the fact beside it, if there is one
abbrev pub level_beside : Fact → Option Fact → Bool
level_beside x None = true
level_beside x (Some y) = int_le x.value y.value
