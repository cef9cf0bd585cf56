-- What a temporal operator sees from a state.
use Rattle.std.specs.Prelude.{ℕ, ◌<◌, length}
use Rattle.truth.specs.Kinds.{Kind}
use Rattle.eval.specs.declared.outlook.Outlook.{Outlook}
use Rattle.eval.specs.Stamps.{timed}
use Rattle.eval.specs.Truth.{Record}

-- the record that it looks over; `pending` is what an open mark is where it is not no
abbrev pub seen : {K : Type 0} → Kind K → Outlook → K → Record K
seen k o pending = timed k o.stamps.now pending

-- there is something at every state
abbrev pub Covers : Outlook → (ℕ → Type 0) → Type 0
Covers o has = (j : ℕ) → j < length o.stamps.now → has j
