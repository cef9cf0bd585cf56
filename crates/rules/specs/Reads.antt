-- How the reader's answers follow the reading of items.
use Rattle.std.specs.Prelude.{◌≡◌, Bool, true, false, List, map, ℤ, Ok, Err, vec_items, Result}
use Rattle.items.specs.declared.item.Kind.{Kind}
use Rattle.items.specs.declared.item.Kind.TheVariants as kind
use Rattle.items.specs.Cursors.{items_left, end_left}
use Rattle.grammar.specs.declared.fault.ReadFault.{ReadFault}
use Rattle.grammar.specs.declared.shape.Slot.{Slot}
use Rattle.grammar.specs.Entries.{Arg, entry_of}
use Rattle.grammar.specs.Reading.{State, Outcome, Step, done, stop, then, arg, arguments}
use Rattle.rules.specs.declared.reader.Reader.{Reader}

abbrev pub state_of : Reader → State
state_of r = record { rest = items_left r.items; past = end_left r.items; opened = r.opened; nodes = map entry_of (vec_items r.nodes) }

-- the answer, with the state after it, is what the reading gives
abbrev pub Reads : {V : Type 0} → Result V ReadFault → Outcome V → State → Type 0
Reads (Ok v) read after = read ≡ done v after
Reads (Err f) read after = read ≡ stop f

-- the same, where the answer stands for what is read
abbrev pub ReadsAs : {V W : Type 0} → (V → W) → Result V ReadFault → Outcome W → State → Type 0
ReadsAs f (Ok v) read after = read ≡ done (f v) after
ReadsAs f (Err e) read after = read ≡ stop e

-- what the items for these slots stand for, each at least the number before it where its slot asks that
abbrev pub args_from : List Slot → ℤ → Step (List Arg)
args_from slots before s = then (arguments slots before s) (λ its t. done (map arg its) t)

-- whether a kind holds nothing more
abbrev pub is_bare : Kind → Bool
is_bare kind.Open = true
is_bare kind.Close = true
is_bare kind.Space = true
is_bare kind.Newline = true
is_bare kind.Rule = true
is_bare kind.End = true
is_bare (kind.Form f) = false
is_bare (kind.Number z) = false
is_bare kind.Misspelt = true
is_bare kind.Other = true
