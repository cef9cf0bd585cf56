-- The states at which no value is undecided.
use Rattle.std.proofs.Common.{◌≡◌, ℕ, zero, suc, ◌+◌, ◌-◌, ◌*◌, ◌<◌, ◌≤◌, Bool, true, false, cond, List, [], ◌∷◌, length, drop, get_or, sym, refl, ap, ◌∙◌, ⊎_elim, add-mul, arith}
use Rattle.std.proofs.lemmas.Nat.{mul-le}
use Rattle.std.proofs.lemmas.List.{get_or-drop, length-drop}
use Rattle.std.proofs.lemmas.Bool.{and_from, cases_lt, lt-ltb}
use Rattle.std.proofs.lemmas.List.Folds.{length-prefix_len}
use Rattle.std.specs.List.{take_while, prefix_len}
use Rattle.truth.specs.declared.Three.{Three}
use Rattle.truth.specs.declared.Three.TheVariants.{False}
use Rattle.truth.specs.Kleene.{three}
use Rattle.syntax.specs.declared.Node.{Node}
use Rattle.eval.specs.Columns.{value_at}
use Rattle.eval.specs.Standing.{decided, stays_decided, Settled, Right}
use Rattle.eval.specs.Truth.{Record, count}
use Rattle.eval.specs.Values.{all_values}
use Rattle.eval.proofs.Filling.{all_values_at}

-- what stands before the first that fails passes the test
taken_by :
    {X : Type 0} (b : Bool) (p : X → Bool) (x : X) (xs : List X) (j : ℕ) (d : X) → p x ≡ b → ((i : ℕ) → i < prefix_len p xs → p (get_or xs i d) ≡ true)
    → j < cond b (1 + prefix_len p xs) 0 → p (get_or (x ∷ xs) j d) ≡ true
taken_by true p x xs zero d e rest l = e
taken_by true p x xs (suc j) d e rest l = rest j (omega arith)
taken_by false p x xs j d e rest l = absurd (omega arith)

taken : {X : Type 0} (p : X → Bool) (xs : List X) (j : ℕ) (d : X) → j < prefix_len p xs → p (get_or xs j d) ≡ true
taken p [] j d l = absurd (omega arith)
taken p (x ∷ xs) j d l = taken_by (p x) p x xs j d refl (λ i h. taken p xs i d h) l

prefix_short : {X : Type 0} (p : X → Bool) (xs : List X) → prefix_len p xs ≤ length xs
prefix_short p [] = omega arith
prefix_short p (x ∷ xs) = elim (p x) as (λ b. cond b (1 + prefix_len p xs) 0 ≤ suc (length xs)) [ true ↦ omega (arith, prefix_short p xs) | false ↦ omega arith ]

-- rows of w values that lie in n rows are at most n
rows_within : (q w n c : ℕ) → q * w ≤ c → c ≤ n * w → (w ≡ 0 → q ≡ 0) → q ≤ n
rows_within q w n c l h none =
    ⊎_elim (λ (lt : n < q).
    let one : n * w + 1 * w ≤ q * w = omega (arith, mul-le (n + 1) w q w (omega arith) (omega arith), add-mul n 1 w) in
    ⊎_elim (λ (z : w < 1). omega (arith, none (omega arith))) (λ z. absurd (omega arith)) (cases_lt w 1))
    (λ le. le) (cases_lt n q)

-- the settled states and the whole rows behind them are states
pub settled_within :
    (n from q w c : ℕ) (values : List Three) → length values ≡ n * w → from ≤ n → c ≡ length (take_while decided (drop (from * w) values))
    → q * w ≤ c → (w ≡ 0 → q ≡ 0) → from + q ≤ n
settled_within n from q w c values total le is rows none =
    let d = n - from in
    let e : from + d ≡ n = omega arith in
    let s : from * w + d * w ≡ n * w = sym (add-mul from d w) ∙ ap (λ k. k * w) e in
    let short : c ≤ d * w = omega (arith, is, length-prefix_len decided (drop (from * w) values), prefix_short decided (drop (from * w) values), length-drop (from * w) values, total, s) in
    omega (arith, rows_within q w d c rows short none)

-- the place of a value in a row behind the first
row_place : (from q w a c : ℕ) → a < w → q * w ≤ c → (i : ℕ) → from ≤ i → i < from + q → (from * w + ((i - from) * w + a) ≡ i * w + a) × ((i - from) * w + a < c)
row_place from q w a c la le i lo hi =
    let d = i - from in
    let e : from + d ≡ i = omega arith in
    let s : from * w + d * w ≡ i * w = sym (add-mul from d w) ∙ ap (λ n. n * w) e in
    let m : (d + 1) * w ≤ q * w = mul-le (d + 1) w q w (omega arith) (omega arith) in
    (omega (arith, s), omega (arith, m, add-mul d 1 w))

-- the settled states stay so, and the rows of decided values behind them are settled too
pub settled_more :
    (r : Record Three) (nodes : List Node) (old values : List Three) (n from q : ℕ) → values ≡ all_values three r nodes
    → Right three r nodes old (stays_decided n) → Settled nodes old from → from ≤ n → n ≤ count r
    → q * length nodes ≤ length (take_while decided (drop (from * length nodes) values)) → from + q ≤ count r
    → Settled nodes values (from + q)
settled_more r nodes old values n from q is right settled le ln rows within a i la li =
    ⊎_elim
    (λ (l : i < from).
    let d = settled a i la l in
    ap decided (ap (λ (vs : List Three). value_at three vs (length nodes) a i) is ∙ all_values_at three r nodes i a False (omega arith) la
    ∙ sym (right a i la (omega arith) (and_from _ _ (lt-ltb i n (omega arith)) d)))
    ∙ d)
    (λ (l : from ≤ i).
    let p = row_place from q (length nodes) a (prefix_len decided (drop (from * length nodes) values)) la (omega (arith, rows, length-prefix_len decided (drop (from * length nodes) values))) i l li in
    ap decided (ap (λ k. get_or values k False) (sym p.0) ∙ sym (get_or-drop (from * length nodes) values ((i - from) * length nodes + a) False))
    ∙ taken decided (drop (from * length nodes) values) ((i - from) * length nodes + a) False p.1)
    (cases_lt i from)
