-- The first run of a text.
use Rattle.std.proofs.Common.{◌≡◌, ℕ, suc, ◌+◌, ◌-◌, ◌<◌, ◌≤◌, Bool, true, false, cond, List, [], ◌∷◌, length, take, drop, get_or, not, ◌||◌, sym, refl, ap, ap₂, ◌∙◌, subst, arith}
use Rattle.std.proofs.lemmas.List.{take_all}
use Rattle.std.proofs.lemmas.List.Folds.{length-prefix_len}
use Rattle.std.specs.List.{prefix_len, take_while}
use Rattle.items.specs.declared.cut.Class.{Class}
use Rattle.items.specs.Marks.{stands_alone}
use Rattle.items.specs.Items.{class_of, letter, digit, is_letter, is_digit, goes_on, joins, before, runs, first as first_byte}

-- a text's first run begins with its first byte
pub begins_before : (y : ℕ) (bss : List (List ℕ)) → (cs : List ℕ) × (rs : List (List ℕ)) × (before y bss ≡ (y ∷ cs) ∷ rs)
begins_before y [] = ([], [], refl)
begins_before y ([] ∷ rs) = ([], rs, refl)
begins_before y ((c ∷ cs) ∷ rs) =
    elim (joins y c) as (λ b. (ds : List ℕ) × (qs : List (List ℕ)) × (cond b ((y ∷ c ∷ cs) ∷ rs) ((y ∷ []) ∷ (c ∷ cs) ∷ rs) ≡ (y ∷ ds) ∷ qs)) [ true ↦ (c ∷ cs, rs, refl) | false ↦ ([], (c ∷ cs) ∷ rs, refl) ]

-- a byte that does not join the next one is a run
pub alone : (x : ℕ) (ys : List ℕ) → ((y : ℕ) (zs : List ℕ) → ys ≡ y ∷ zs → joins x y ≡ false) → runs (x ∷ ys) ≡ (x ∷ []) ∷ runs ys
alone x [] h = refl
alone x (y ∷ ys) h =
    let b = begins_before y (runs ys) in
    let no = h y ys refl in
    rw (b.2, no)

-- a length of the first run
pub record First (xs : List ℕ) (n : ℕ) : Type 0 where
  pub within : n ≤ length xs
  pub front : runs xs ≡ take n xs ∷ runs (drop n xs)

first_by : (t : Bool) (x y : ℕ) (ys : List ℕ) (n : ℕ) → First (y ∷ ys) (suc n) → joins x y ≡ t → First (x ∷ y ∷ ys) (suc (cond t (1 + n) 0))
first_by true x y ys n h e =
    let one : 1 + n ≡ suc n = omega arith in
    record { within = omega (arith, h.within); front = rw (one, h.front, e) }
first_by false x y ys n h e = record { within = omega arith; front = rw (h.front, e) }

-- what goes on with a run of a byte's class is of that class, and joins the byte
letter_of : (b : ℕ) → is_letter (class_of b) ≡ letter b
letter_of b = grind arith

digit_of : (b : ℕ) → is_digit (class_of b) ≡ digit b
digit_of b = grind arith

joins_on : (x y : ℕ) → joins x y ≡ goes_on (class_of x) y
joins_on x y = rw (letter_of y, digit_of y) refl

same_class : (k : Class) (y : ℕ) → goes_on k y ≡ true → class_of y ≡ k
same_class k y h = grind arith

-- a byte and those after it that go on with its class are the first run
first_run_by : (t : Bool) (x y : ℕ) (ys : List ℕ) → goes_on (class_of x) y ≡ t → First (y ∷ ys) (suc (prefix_len (goes_on (class_of y)) ys)) → First (x ∷ y ∷ ys) (suc (prefix_len (goes_on (class_of x)) (y ∷ ys)))
first_run_by true x y ys e h =
    let k : class_of y ≡ class_of x = same_class (class_of x) y e in
    rw e (first_by true x y ys _ (subst (λ k. First (y ∷ ys) (suc (prefix_len (goes_on k) ys))) k h) (joins_on x y ∙ e))
first_run_by false x y ys e h = rw e (first_by false x y ys _ h (joins_on x y ∙ e))

first_run : (x : ℕ) (ys : List ℕ) → First (x ∷ ys) (suc (prefix_len (goes_on (class_of x)) ys))
first_run x [] = record { within = omega arith; front = refl }
first_run x (y ∷ ys) = first_run_by (goes_on (class_of x) y) x y ys refl (first_run y ys)

pub first : (k : Class) (xs : List ℕ) (n : ℕ) → 0 < length xs → k ≡ class_of (first_byte xs) → n ≡ length (take_while (goes_on k) (take (length xs - 1) (drop 1 xs))) → First xs (1 + n)
first k [] n h c e = absurd (omega arith)
first k (x ∷ xs) n h c e =
    let all : take (suc (length xs) - 1) xs ≡ xs = take_all _ xs (omega arith) in
    let m : n ≡ prefix_len (goes_on (class_of x)) xs = e ∙ length-prefix_len (goes_on k) (take (suc (length xs) - 1) xs) ∙ ap (prefix_len (goes_on k)) all ∙ ap (λ k. prefix_len (goes_on k) xs) c in
    let s : suc (prefix_len (goes_on (class_of x)) xs) ≡ 1 + n = omega (arith, m) in
    subst (First (x ∷ xs)) s (first_run x xs)

-- a byte that joins no other is a run by itself
lone : (k : Class) (y : ℕ) → not (is_letter k || is_digit k) ≡ true → goes_on k y ≡ false
lone k y h = grind arith

pub lone_run : (b d : ℕ) (text : List ℕ) → stands_alone b ≡ true → 1 ≤ length text → get_or text 0 d ≡ b → runs text ≡ (b ∷ []) ∷ runs (take (length text - 1) (drop 1 text))
lone_run b d [] s l e = absurd (omega arith)
lone_run b d (x ∷ xs) s l e =
    let all : take (suc (length xs) - 1) xs ≡ xs = take_all _ xs (omega arith) in
    let own : runs (x ∷ xs) ≡ (x ∷ []) ∷ runs xs = alone x xs (λ y zs _. joins_on x y ∙ lone (class_of x) y (subst (λ c. stands_alone c ≡ true) (sym e) s)) in
    own ∙ ap₂ (λ c cs. (c ∷ []) ∷ runs cs) e (sym all)
