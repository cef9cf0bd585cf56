-- Arguments that were read fit their slots.
use Rattle.std.proofs.Common.{◌≡◌, ℕ, zero, suc, ◌<◌, true, T, List, [], ◌∷◌, map, ℤ, Some, None, sym, subst, arith}
use lib.Signed.{le_z, le_z_yes}
use Rattle.std.proofs.lemmas.Bool.{and_parts, false≢true}
use Rattle.items.specs.declared.item.Form.{Form}
use Rattle.items.specs.declared.item.Item.{Item}
use Rattle.items.specs.declared.item.Kind.TheVariants.{Open, Space}
use Rattle.items.specs.Items.{item_number}
use Rattle.grammar.specs.declared.fault.FaultKind.TheVariants.{TooMany}
use Rattle.grammar.specs.declared.shape.Slot.{Slot}
use Rattle.grammar.specs.declared.shape.Slot.TheVariants.{Range, Upper, UpperOrEnd}
use Rattle.grammar.specs.Entries.{Arg}
use Rattle.grammar.specs.Reading.{State, done, stop, next, is, arg, argument, arguments, opening, fault_at}
use Rattle.grammar.specs.Trees.{in_range, fits}
use Rattle.grammar.proofs.Inversion.{stopped, both, taken, argued}
use Rattle.rules.specs.Fitting.{Numeral, FitsSlot, Fitting}

numeral : (low high z : ℤ) → in_range low high z ≡ true → Numeral low high z
numeral low high z e =
    let b = and_parts (le_z low z) (le_z z high) e in
    record { above = le_z_yes (subst T (sym b.0) tt); below = le_z_yes (subst T (sym b.1) tt) }

fits_slot : (slot : Slot) (before : ℤ) (x : Arg) → fits slot before x ≡ true → FitsSlot slot x
fits_slot (Range low high) before (Some z) h = numeral low high z h
fits_slot (Range low high) before None h = absurd (false≢true h)
fits_slot (Upper low high) before (Some z) h = numeral low high z (and_parts (in_range low high z) (le_z before z) h).0
fits_slot (Upper low high) before None h = absurd (false≢true h)
fits_slot (UpperOrEnd low high) before (Some z) h = numeral low high z (and_parts (in_range low high z) (le_z before z) h).0
fits_slot (UpperOrEnd low high) before None h = tt

-- an argument that was read fits its slot
pub argument_fits : (slot : Slot) (before : ℤ) (s : State) (it : Item) (t : State) → next (argument slot before) s ≡ done it t → FitsSlot slot (arg it)
argument_fits slot before s it t h =
    let x = taken (argument slot before) s it t h in
    let g = argued slot before x.item it x.passed in
    fits_slot slot before (arg it) (subst (λ i. fits slot before (arg i) ≡ true) g.1 g.0.fit)

-- and so do all arguments
fitting_same : (all : List Slot) (f g : List Item) (s t : State) → done f s ≡ done g t → Fitting all (map arg f) → Fitting all (map arg g)
fitting_same all f g s t e h = let p : f ≡ g = cc in subst (λ xs. Fitting all (map arg xs)) p h

pub fitting : (all : List Slot) (before : ℤ) (s : State) (its : List Item) (t : State) → arguments all before s ≡ done its t → Fitting all (map arg its)
fitting [] before s its t e = fitting_same [] [] its s t e tt
fitting (slot ∷ more) before s its t e =
    let a = both (next (is Space) s) _ its t e in
    let b = both (next (argument slot before) a.state) _ its t a.then_done in
    let c = both (arguments more (item_number b.value) b.state) _ its t b.then_done in
    fitting_same (slot ∷ more) (b.value ∷ c.value) its c.state t c.then_done (argument_fits slot before a.state b.value b.state b.first, fitting more (item_number b.value) b.state c.value c.state c.first)

-- a bracket that was opened had a level left
pub opened_below : (levels : ℕ) (s : State) (f : Form) (t : State) → opening levels s ≡ done f t → 0 < levels
opened_below zero s f t e =
    let a = both (next (is Open) s) (λ _ _. stop (fault_at s TooMany)) f t e in
    absurd (stopped a.then_done)
opened_below (suc n) s f t e = omega arith
