-- A kind with nothing in it is known by its rank.
use Rattle.std.proofs.Common.{◌≡◌, ℕ, Bool, true, false, cond, eqb, Ok, Err, Result, sym, ap, ◌∙◌, subst, arith, eqb-true}
use Rattle.items.specs.declared.item.Form.{Form}
use Rattle.items.specs.declared.item.Kind.{Kind}
use Rattle.grammar.specs.Reading.{rank, same, form_of}
use Rattle.items.specs.declared.item.Kind.TheVariants as kind

pub err_ok : {V E : Type 0} {e : E} {v : V} → ◌≡◌ {A = Result V E} (Err e) (Ok v) → ⊥
err_ok h = cc

-- no kind's rank but a form's and a number's
abbrev bare_rank : ℕ → Bool
bare_rank n = cond (eqb n 6) false (cond (eqb n 7) false true)

-- a kind with nothing in it
abbrev pub bare : Kind → Bool
bare k = bare_rank (rank k)

abbrev by_rank : ℕ → Kind
by_rank n =
    cond (eqb n 0) kind.Open (cond (eqb n 1) kind.Close (cond (eqb n 2) kind.Space (cond (eqb n 3) kind.Newline
    (cond (eqb n 4) kind.Rule (cond (eqb n 5) kind.End (cond (eqb n 8) kind.Misspelt kind.Other))))))

ranked : (k : Kind) → bare k ≡ true → by_rank (rank k) ≡ k
ranked k h = grind arith

-- the same kind as one with nothing in it is that kind
pub same_bare : (j k : Kind) → bare k ≡ true → same j k ≡ true → j ≡ k
same_bare j k h e =
    let r : rank j ≡ rank k = eqb-true (rank j) (rank k) e in
    sym (ranked j (subst (λ n. bare_rank n ≡ true) (sym r) h)) ∙ ap by_rank r ∙ ranked k h

pub is_form : (k : Kind) (g : Form) → form_of k ≡ Ok g → k ≡ kind.Form g
is_form k g h = grind arith
