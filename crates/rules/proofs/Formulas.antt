-- A formula's reading, as far as its parts were read.
use Rattle.std.proofs.Common.{◌≡◌, ℕ, zero, suc, ◌+◌, ◌-◌, ◌<◌, ◌≤◌, List, [], ◌∷◌, map, length, pos, Result, sym, refl, ap, ◌∙◌, subst, arith}
use Rattle.items.specs.declared.item.Form.{Form}
use Rattle.items.specs.declared.item.Item.{Item}
use Rattle.items.specs.declared.item.Kind.TheVariants.{Space}
use Rattle.grammar.specs.declared.fault.ReadFault.{ReadFault}
use Rattle.grammar.specs.declared.shape.Arity.{Arity}
use Rattle.grammar.specs.declared.shape.Arity.TheVariants.{Zero, One, Two}
use Rattle.grammar.specs.Grammar.{slots, arity}
use Rattle.grammar.specs.Entries.{Arg, Entry, entry}
use Rattle.grammar.specs.Reading.{State, Outcome, Step, done, stop, then, next, is, arguments, operand, operands, opening, closing, formula, arg}
use Rattle.grammar.proofs.Inversion.{both, formula_read, length_after, opens, args_read, slots_end}
use Rattle.rules.specs.Reads.{Reads, args_from}
use Rattle.rules.proofs.Fits.{opened_below}
use Rattle.rules.proofs.Taken.{kept}

-- a fault stops what follows too
stops : {V W : Type 0} (e : ReadFault) (o : Outcome V) (k : V → Step W) → o ≡ stop e → then o k ≡ stop e
stops e o k h = ap (λ x. then x k) h

-- what follows the arguments, with n levels left inside
abbrev after : ℕ → Form → List Arg → Step ℕ
after n f xs u = then (operands (formula n) (arity f) u) (λ os v. closing (entry f xs os) v)

by_args : (o : Outcome (List Item)) (k : List Arg → Step ℕ) → then o (λ its u. k (map arg its) u) ≡ then (then o (λ its u. done (map arg its) u)) k
by_args (done its u) k = refl
by_args (stop e) k = refl

opened : (levels : ℕ) (s : State) (f : Form) (t : State) → opening levels s ≡ done f t → formula levels s ≡ then (args_from (slots f) (pos 0) t) (after (levels - 1) f)
opened zero s f t o = absurd (omega (arith, opened_below 0 s f t o))
opened (suc k) s f t o =
    let less : suc k - 1 ≡ k = omega arith in
    ap (λ x. then x (λ g u. then (arguments (slots g) (pos 0) u) (λ its v. after k g (map arg its) v))) o ∙ by_args (arguments (slots f) (pos 0) t) (after k f) ∙ ap (λ n. then (args_from (slots f) (pos 0) t) (after n f)) (sym less)

pub args_stop : (levels : ℕ) (s : State) (f : Form) (t : State) → opening levels s ≡ done f t → (e : ReadFault) → args_from (slots f) (pos 0) t ≡ stop e → formula levels s ≡ stop e
args_stop levels s f t o e h = opened levels s f t o ∙ stops e _ (after (levels - 1) f) h

-- as many formulas as were opened in a reading are closed in it
abbrev Kept : State → State → Type 0
Kept s t = length t.nodes + s.opened ≡ length s.nodes + t.opened

operand_kept : (levels : ℕ) (s : State) (n : ℕ) (t : State) → operand (formula levels) s ≡ done n t → Kept s t
operand_kept levels s n t h =
    let a = both (next (is Space) s) _ n t h in
    let k = kept (is Space) s a.value a.state a.first in
    let m = formula_read levels a.state n t a.then_done in
    omega (arith, m.opened, ap length m.nodes, length_after a.state.nodes m.tree, ap length k.0, k.1)

done_same : {V : Type 0} (a b : V) (s t u : State) → done a s ≡ done b t → Kept u s → Kept u t
done_same a b s t u e h = let q : s ≡ t = cc in subst (λ (x : State). Kept u x) q h

operands_kept : (levels : ℕ) (n : Arity) (s : State) (os : List ℕ) (t : State) → operands (formula levels) n s ≡ done os t → Kept s t
operands_kept levels Zero s os t h = done_same [] os s t s h refl
operands_kept levels One s os t h =
    let a = both (operand (formula levels) s) _ os t h in
    done_same (a.value ∷ []) os a.state t s a.then_done (operand_kept levels s a.value a.state a.first)
operands_kept levels Two s os t h =
    let a = both (operand (formula levels) s) _ os t h in
    let b = both (operand (formula levels) a.state) _ os t a.then_done in
    let p = operand_kept levels s a.value a.state a.first in
    let q = operand_kept levels a.state b.value b.state b.first in
    done_same (a.value ∷ b.value ∷ []) os b.state t s b.then_done (omega (arith, p, q))

args_kept : (ss : Form) (s : State) (xs : List Arg) (t : State) → args_from (slots ss) (pos 0) s ≡ done xs t → (t.nodes ≡ s.nodes) × (t.opened ≡ s.opened)
args_kept f s xs t h =
    let a = both (arguments (slots f) (pos 0) s) _ xs t h in
    let same : a.state ≡ t = cc a.then_done in
    let y = args_read (slots f) (slots_end f) (pos 0) s a.value a.state a.first in
    (sym (ap (λ (z : State). z.nodes) same) ∙ ap (λ (z : State). z.nodes) y.after, sym (ap (λ (z : State). z.opened) same) ∙ ap (λ (z : State). z.opened) y.after)

-- a form's word and arguments were read
pub record Head (levels : ℕ) (s : State) (f : Form) (xs : List Arg) (u : State) : Type 0 where
  pub at : State
  pub opens_at : opening levels s ≡ done f at
  pub reads : args_from (slots f) (pos 0) at ≡ done xs u

-- its operands were read too, and this is its node
pub record Operands (levels : ℕ) (f : Form) (xs : List Arg) (u v : State) (b : Entry) : Type 0 where
  pub numbers : List ℕ
  pub read : operands (formula (levels - 1)) (arity f) u ≡ done numbers v
  pub node : b ≡ entry f xs numbers

module _ {levels : ℕ} {s : State} {f : Form} {xs : List Arg} {u : State} (h : Head levels s f xs u) where
  read : formula levels s ≡ after (levels - 1) f xs u
  read = opened levels s f h.at h.opens_at ∙ ap (λ x. then x (after (levels - 1) f)) h.reads

  pub operands_stop : (e : ReadFault) → operands (formula (levels - 1)) (arity f) u ≡ stop e → formula levels s ≡ stop e
  operands_stop e p = read ∙ stops e (operands (formula (levels - 1)) (arity f) u) _ p

  module _ {v : State} {b : Entry} (o : Operands levels f xs u v b) where
    pub closes : (r : Result ℕ ReadFault) (w : State) → Reads r (closing b v) w → Reads r (formula levels s) w
    closes r w q = subst (λ x. Reads r x w) (sym (read ∙ ap (λ x. then x (λ os t. closing (entry f xs os) t)) o.read)) (subst (λ x. Reads r (closing x v) w) o.node q)

    -- the formula itself is still open when its closing bracket comes
    pub still_open : length s.nodes ≤ s.opened → length v.nodes < v.opened
    still_open le =
        let x = opens levels s f h.at h.opens_at in
        let y = args_kept f h.at xs u h.reads in
        let tn = ap (λ (z : State). length z.nodes) x.after_head in
        let to = ap (λ (z : State). z.opened) x.after_head in
        omega (arith, tn, to, ap length y.0, y.1, operands_kept (levels - 1) (arity f) u o.numbers v o.read)

-- operands, one after another
module _ (inner : Step ℕ) (u : State) where
  pub one_stops : (e : ReadFault) → operand inner u ≡ stop e → operands inner One u ≡ stop e
  one_stops e h = stops e (operand inner u) _ h

  pub two_stops : (e : ReadFault) → operand inner u ≡ stop e → operands inner Two u ≡ stop e
  two_stops e h = stops e (operand inner u) _ h

  module _ (a : ℕ) (v : State) (first : operand inner u ≡ done a v) where
    pub one_read : operands inner One u ≡ done (a ∷ []) v
    one_read = ap (λ x. then x (λ m t. done (m ∷ []) t)) first

    after_first : operands inner Two u ≡ then (operand inner v) (λ n t. done (a ∷ n ∷ []) t)
    after_first = ap (λ x. then x (λ m t. then (operand inner t) (λ n w. done (m ∷ n ∷ []) w))) first

    pub second_stops : (e : ReadFault) → operand inner v ≡ stop e → operands inner Two u ≡ stop e
    second_stops e h = after_first ∙ stops e (operand inner v) _ h

    pub two_read : (b : ℕ) (w : State) → operand inner v ≡ done b w → operands inner Two u ≡ done (a ∷ b ∷ []) w
    two_read b w h = after_first ∙ ap (λ x. then x (λ n t. done (a ∷ n ∷ []) t)) h
