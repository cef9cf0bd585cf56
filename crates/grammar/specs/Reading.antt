-- How items are read: the value and what is left, or the first fault with its place.
use Rattle.std.specs.Prelude.{ℕ, zero, suc, ◌+◌, Bool, true, false, cond, ◌&&◌, List, [], ◌∷◌, ◌++◌, map, length, ℤ, pos, Some, None, Ok, Err, Result, ◌==◌, int_le, nat_lt}
use Rattle.items.specs.declared.item.Place.{Place}
use Rattle.items.specs.declared.item.Form.{Form}
use Rattle.items.specs.declared.item.Kind.{Kind}
use Rattle.items.specs.declared.item.Item.{Item}
use Rattle.items.specs.Items.{item_number}
use Rattle.items.specs.Cursors.{place_of}
use Rattle.grammar.specs.declared.fault.FaultKind.{FaultKind}
use Rattle.grammar.specs.declared.fault.ReadFault.{ReadFault as Fault}
use Rattle.grammar.specs.declared.shape.Slot.{Slot}
use Rattle.grammar.specs.declared.shape.Slot.TheVariants.{Range, Upper, UpperOrEnd}
use Rattle.grammar.specs.declared.shape.Arity.{Arity}
use Rattle.grammar.specs.declared.shape.Arity.TheVariants.{Zero, One, Two}
use Rattle.grammar.specs.Grammar.{slots, arity}
use Rattle.grammar.specs.Entries.{Arg, Entry, entry}
use Rattle.items.specs.declared.item.Kind.TheVariants as kind
use Rattle.grammar.specs.declared.fault.FaultKind.TheVariants as fault

-- the items left, the place past the last one, the formulas opened so far, and the nodes closed so far
pub record State : Type 0 where
  pub rest : List Item
  pub past : Place
  pub opened : ℕ
  pub nodes : List Entry

-- what was read and the state after it, or the fault that ended the reading
pub data Outcome (V : Type 0) : Type 0 where
  done : V → State → Outcome V
  stop : Fault → Outcome V

abbrev pub Step : Type 0 → Type 0
Step V = State → Outcome V

abbrev pub then : {V W : Type 0} → Outcome V → (V → Step W) → Outcome W
then (done v s) f = f v s
then (stop e) f = stop e

abbrev pub fault_at : State → FaultKind → Fault
fault_at s k = record { kind = k; place = place_of s.rest s.past }

abbrev pub left : State → List Item → State
left s items = record { rest = items; past = s.past; opened = s.opened; nodes = s.nodes }

-- two kinds that differ at most in the form or the number
abbrev pub rank : Kind → ℕ
rank kind.Open = 0
rank kind.Close = 1
rank kind.Space = 2
rank kind.Newline = 3
rank kind.Rule = 4
rank kind.End = 5
rank (kind.Form _) = 6
rank (kind.Number _) = 7
rank kind.Misspelt = 8
rank kind.Other = 9

abbrev pub same : Kind → Kind → Bool
same j k = rank j == rank k

-- a test of one item: what it gives, or how it fails to fit
abbrev pub Test : Type 0 → Type 0
Test V = Item → Result V FaultKind

abbrev pub tested : {V : Type 0} → Result V FaultKind → State → List Item → Outcome V
tested (Ok v) s items = done v (left s items)
tested (Err k) s items = stop (fault_at s k)

abbrev pub next : {V : Type 0} → Test V → Step V
next test s = elim s.rest [ [] ↦ stop (fault_at s fault.Misfit) | (it ∷ items) ↦ tested (test it) s items ]

-- any item
abbrev pub any : Test Item
any it = Ok it

abbrev pub is : Kind → Test (Unit {0})
is k it = cond (same it.kind k) (Ok tt) (Err fault.Misfit)

abbrev pub form_of : Kind → Result Form FaultKind
form_of kind.Open = Err fault.Misfit
form_of kind.Close = Err fault.Misfit
form_of kind.Space = Err fault.Misfit
form_of kind.Newline = Err fault.Misfit
form_of kind.Rule = Err fault.Misfit
form_of kind.End = Err fault.Misfit
form_of (kind.Form f) = Ok f
form_of (kind.Number z) = Err fault.Misfit
form_of kind.Misspelt = Err fault.Misfit
form_of kind.Other = Err fault.Misfit

abbrev pub within : ℤ → ℤ → Test Item
within low high it = cond (int_le low (item_number it) && int_le (item_number it) high) (Ok it) (Err fault.BadNumber)

-- and not below the number before it
abbrev pub rising : ℤ → ℤ → ℤ → Test Item
rising low high before it =
    cond (int_le low (item_number it) && int_le (item_number it) high) (cond (int_le before (item_number it)) (Ok it) (Err fault.Unordered)) (Err fault.BadNumber)

abbrev pub ranged : Slot → ℤ → Test Item
ranged (Range low high) before = within low high
ranged (Upper low high) before = rising low high before
ranged (UpperOrEnd low high) before = rising low high before

abbrev pub may_end : Slot → Bool
may_end (Range _ _) = false
may_end (Upper _ _) = false
may_end (UpperOrEnd _ _) = true

abbrev pub argument : Slot → ℤ → Test Item
argument slot before it =
    cond (same it.kind (kind.Number (pos 0))) (ranged slot before it)
    (cond (same it.kind kind.Misspelt) (Err fault.BadNumber)
    (cond (same it.kind kind.End && may_end slot) (Ok it) (Err fault.Misfit)))

-- a space and an argument for each slot
abbrev pub arguments : List Slot → ℤ → Step (List Item)
arguments [] before s = done [] s
arguments (slot ∷ more) before s =
    then (next (is kind.Space) s) (λ _ t. then (next (argument slot before) t) (λ it u. then (arguments more (item_number it) u) (λ its v. done (it ∷ its) v)))

-- a space and a formula
abbrev pub operand : Step ℕ → Step ℕ
operand formula s = then (next (is kind.Space) s) (λ _ t. formula t)

abbrev pub operands : Step ℕ → Arity → Step (List ℕ)
operands formula Zero s = done [] s
operands formula One s = then (operand formula s) (λ a t. done (a ∷ []) t)
operands formula Two s = then (operand formula s) (λ a t. then (operand formula t) (λ b u. done (a ∷ b ∷ []) u))

abbrev pub word : Test Form
word it = form_of it.kind

abbrev pub counted : State → State
counted s = record { rest = s.rest; past = s.past; opened = s.opened + 1; nodes = s.nodes }

-- an opening bracket with a level left, of at most 64, and a form's word
abbrev pub opening : ℕ → Step Form
opening levels s =
    then (next (is kind.Open) s) (λ _ t. cond (nat_lt 0 levels && nat_lt s.opened 64) (next word (counted t)) (stop (fault_at s fault.TooMany)))

abbrev pub arg : Item → Arg
arg it = cond (same it.kind kind.End) None (Some (item_number it))

abbrev pub pushed : Entry → State → State
pushed e s = record { rest = s.rest; past = s.past; opened = s.opened; nodes = s.nodes ++ (e ∷ []) }

-- a closing bracket, which adds the node; its number
abbrev pub closing : Entry → Step ℕ
closing e s = then (next (is kind.Close) s) (λ _ t. done (length t.nodes) (pushed e t))

-- a formula, with this many levels left; the number of its node
abbrev pub formula : ℕ → Step ℕ
formula zero s = then (opening 0 s) (λ f t. stop (fault_at t fault.TooMany))
formula (suc levels) s =
    then (opening (suc levels) s) (λ f t. then (arguments (slots f) (pos 0) t) (λ its u. then (operands (formula levels) (arity f) u) (λ os v. closing (entry f (map arg its) os) v)))
