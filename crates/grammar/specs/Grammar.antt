-- What each form has after its word, and how items are read.
use Rattle.std.specs.Prelude.{List, [], ◌∷◌, pos, negsuc}
use Rattle.items.specs.declared.item.Form.{Form}
use Rattle.grammar.specs.declared.shape.Slot.{Slot}
use Rattle.grammar.specs.declared.shape.Slot.TheVariants.{Range, Upper, UpperOrEnd}
use Rattle.grammar.specs.declared.shape.Arity.{Arity}
use Rattle.grammar.specs.declared.shape.Arity.TheVariants.{Zero, One, Two}
use Rattle.items.specs.declared.item.Form.TheVariants as form

abbrev pub relation : Slot
relation = Range (pos 0) (pos 15)

abbrev pub value : Slot
value = Range (negsuc 999999999) (pos 1000000000)

abbrev pub window : List Slot
window = Range (pos 0) (pos 1000000000) ∷ UpperOrEnd (pos 0) (pos 1000000000) ∷ []

abbrev pub values : List Slot
values = relation ∷ value ∷ Upper (negsuc 999999999) (pos 1000000000) ∷ []

abbrev pub fact : List Slot
fact = relation ∷ Range (pos 0) (pos 65535) ∷ value ∷ []

abbrev pub counts : List Slot
counts = relation ∷ Range (pos 0) (pos 1000000) ∷ Upper (pos 0) (pos 1000000) ∷ []

abbrev pub relations : List Slot
relations = relation ∷ relation ∷ []

-- the numbers of a form, in order
abbrev pub slots : Form → List Slot
slots form.True = []
slots form.Some = values
slots form.Every = values
slots form.Fact = fact
slots form.Number = counts
slots form.Refer = relations
slots form.Level = relations
slots form.Not = []
slots form.And = []
slots form.Or = []
slots form.Implies = []
slots form.Next = window
slots form.AllNext = window
slots form.Sometime = window
slots form.Always = window
slots form.Until = window
slots form.Previous = window
slots form.Once = window
slots form.SoFar = window
slots form.Since = window

-- how many formulas follow them
abbrev pub arity : Form → Arity
arity form.True = Zero
arity form.Some = Zero
arity form.Every = Zero
arity form.Fact = Zero
arity form.Number = Zero
arity form.Refer = Zero
arity form.Level = Zero
arity form.Not = One
arity form.And = Two
arity form.Or = Two
arity form.Implies = Two
arity form.Next = One
arity form.AllNext = One
arity form.Sometime = One
arity form.Always = One
arity form.Until = Two
arity form.Previous = One
arity form.Once = One
arity form.SoFar = One
arity form.Since = Two
