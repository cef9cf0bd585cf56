use Rattle.std.proofs.Common.{◌≡◌, ◌≤◌, length, get_or, subst, ◌∙◌, arith}
use Rattle.std.proofs.lemmas.List.{get_or_past}
use borrow.Author.Tests.{ltb-true}
use Rattle.recordtext.proofs.Spelling.{decimal_no_plus, decimal_no_zero, parsed}
use Rattle.recordtext.proofs.reading.natural.Goals as goal
use Rattle.recordtext.proofs.reading.natural.Goals.{in_default-via-then-as_bytes-lt1, in_default-via-else-as_bytes-lt1+then-this-lt2+in_default-1, in_default-via-else-as_bytes-lt1+else-this-lt2+in_default-1}

pub returns-in-43 : goal.returns-in-43
returns-in-43 c n small is = decimal_no_plus n _ small (c.as_bytes.ensures.value ∙ is) (omega arith)

pub returns-in-43-2 : goal.returns-in-43-2
returns-in-43-2 c n small is = decimal_no_plus n _ small (c.as_bytes.ensures.value ∙ is) (omega arith)

pub returns-in-43-3 : goal.returns-in-43-3
returns-in-43-3 c n small is = decimal_no_zero n _ small (c.as_bytes.ensures.value ∙ is) (omega arith) (omega arith)

pub returns-in_default : goal.returns-in_default
returns-in_default c =
    let bs = c.as_bytes.result.now in
    let plain : get_or bs 0 0 ≡ 43 → ⊥ =
    λ e.
    elim c.in_default.branch [
      | in_default-via-then-as_bytes-lt1 w ↦ omega (arith, ltb-true, get_or_past bs 0 0)
      | in_default-via-else-as_bytes-lt1+then-this-lt2+in_default-1 w ↦ omega arith
      | in_default-via-else-as_bytes-lt1+else-this-lt2+in_default-1 w ↦ omega arith
    ] in
    let alone : get_or bs 0 0 ≡ 48 → length bs ≤ 1 =
    λ e.
    elim c.in_default.branch [
      | in_default-via-then-as_bytes-lt1 w ↦ omega (arith, ltb-true)
      | in_default-via-else-as_bytes-lt1+then-this-lt2+in_default-1 w ↦ omega (arith, ltb-true)
      | in_default-via-else-as_bytes-lt1+else-this-lt2+in_default-1 w ↦ omega arith
    ] in
    rw c.ok.ensures.value (parsed _ _ c.parse.ensures.value.0 (subst (λ xs. get_or xs 0 0 ≡ 43 → ⊥) c.as_bytes.ensures.value plain) (subst (λ xs. get_or xs 0 0 ≡ 48 → length xs ≤ 1) c.as_bytes.ensures.value alone))
