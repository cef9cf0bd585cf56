-- A number's one spelling is read as it, and nothing else is.
use Rattle.std.proofs.Common.{◌≡◌, ℕ, zero, suc, ◌+◌, ◌-◌, ◌*◌, ◌^◌, ◌<◌, ◌≤◌, Bool, true, false, cond, ◌&&◌, eqb, leb, List, [], ◌∷◌, length, get_or, ℤ, pos, negsuc, Some, None, decimal, Option, sym, refl, ap, ◌∙◌, arith, rules, ne_eqb, eqb-true, le-leb, leb-true}
use lib.Signed.{mag}
use Rattle.std.proofs.lemmas.Bool.{and_parts, and_from, eqb-false}
use Rattle.std.proofs.lemmas.Str.Parse.{IsNumeralModel, numerals_by_fold}
use Rattle.std.proofs.lemmas.Fmt.{decimal-digits_value, digits_decimal, digits_value-decimal, first_decimal, decimal_nonempty, decimal_digit}
use Rattle.std.specs.Fmt.{signed_decimal}
use Rattle.items.specs.declared.cut.Class.{Class}
use Rattle.items.specs.declared.cut.Class.TheVariants as class
use Rattle.items.specs.Items.{class_of, between, digit_after, read_on, zero_alone, natural, plain, minus, number_of}

abbrev value_on : ℕ → List ℕ → ℕ
value_on n [] = n
value_on n (d ∷ ds) = value_on (n * 10 + (d - 48)) ds

abbrev pub digits : List ℕ → Bool
digits [] = true
digits (d ∷ ds) = between 48 57 d && digits ds

own : IsNumeralModel (λ ds. digits ds ≡ true) (value_on 0)
own = numerals_by_fold _ (search rules) value_on (search rules)

-- the numbers that can be spelt
abbrev pub most : ℕ
most = 1000000009

record Digit (n d : ℕ) : Type 0 where
  low : 48 ≤ d
  high : d ≤ 57
  few : n ≤ 100000000

digit : (n d : ℕ) → digit_after n d ≡ true → Digit n d
digit n d h =
    let a = and_parts (between 48 57 d) (leb n 100000000) h in
    let b = and_parts (leb 48 d) (leb d 57) a.0 in
    record { low = leb-true 48 d b.0; high = leb-true d 57 b.1; few = leb-true n 100000000 a.1 }

record Spelt (n : ℕ) (ds : List ℕ) (m : ℕ) : Type 0 where
  all : digits ds ≡ true
  is : m ≡ value_on n ds
  small : m ≤ most

mutual_read : (b : Bool) (n d : ℕ) (ds : List ℕ) (m : ℕ) → digit_after n d ≡ b → cond b (read_on (n * 10 + (d - 48)) ds) None ≡ Some m → (b ≡ true) × (read_on (n * 10 + (d - 48)) ds ≡ Some m)
mutual_read true n d ds m e h = (refl, h)
mutual_read false n d ds m e h = absurd cc

read_on_sound : (ds : List ℕ) (n m : ℕ) → n ≤ most → read_on n ds ≡ Some m → Spelt n ds m
read_on_sound [] n m le h =
    let e : m ≡ n = cc in
    record { all = refl; is = e; small = omega arith }
read_on_sound (d ∷ ds) n m le h =
    let p = mutual_read (digit_after n d) n d ds m refl h in
    let g = digit n d p.0 in
    let r = read_on_sound ds (n * 10 + (d - 48)) m (omega (arith, g.low, g.high, g.few)) p.1 in
    let q = and_parts (between 48 57 d) (leb n 100000000) p.0 in
    record { all = and_from _ _ q.0 r.all; is = r.is; small = r.small }

at_least : (ds : List ℕ) (n : ℕ) → n ≤ value_on n ds
at_least [] n = omega arith
at_least (d ∷ ds) n = omega (arith, at_least ds (n * 10 + (d - 48)))

read_on_complete : (ds : List ℕ) (n : ℕ) → digits ds ≡ true → value_on n ds ≤ most → read_on n ds ≡ Some (value_on n ds)
read_on_complete [] n h le = refl
read_on_complete (d ∷ ds) n h le =
    let p = and_parts (between 48 57 d) (digits ds) h in
    let few : n ≤ 100000000 = omega (arith, at_least ds (n * 10 + (d - 48))) in
    let t = and_from _ _ p.0 (le-leb n 100000000 few) in
    ap (λ b. cond b (read_on (n * 10 + (d - 48)) ds) None) t ∙ read_on_complete ds (n * 10 + (d - 48)) p.1 le

-- digits with no leading zero
zero_sound : (ds : List ℕ) (n : ℕ) → zero_alone ds ≡ Some n → (ds ≡ []) × (n ≡ 0)
zero_sound [] n h = (refl, cc)
zero_sound (d ∷ ds) n h = absurd cc

zero_text : decimal 0 ≡ 48 ∷ []
zero_text = decimal_digit 0 (omega arith)

natural_by : (b : Bool) (d : ℕ) (ds : List ℕ) (n : ℕ) → eqb d 48 ≡ b → cond b (zero_alone ds) (read_on 0 (d ∷ ds)) ≡ Some n → (decimal n ≡ d ∷ ds) × (n ≤ most)
natural_by true d ds n e h =
    let p = zero_sound ds n h in
    let q : d ≡ 48 = eqb-true d 48 e in
    (ap decimal p.1 ∙ zero_text ∙ ap (λ x. x ∷ []) (sym q) ∙ ap (λ x. d ∷ x) (sym p.0), omega (arith, p.1))
natural_by false d ds n e h =
    let r = read_on_sound (d ∷ ds) 0 n (omega arith) h in
    (ap decimal r.is ∙ decimal-digits_value own (d ∷ ds) r.all (omega arith) (λ z. absurd (eqb-false d 48 e z)) (omega (arith, r.is, r.small)), r.small)

pub natural_sound : (ds : List ℕ) (n : ℕ) → natural ds ≡ Some n → (decimal n ≡ ds) × (n ≤ most)
natural_sound [] n h = absurd cc
natural_sound (d ∷ ds) n h = natural_by (eqb d 48) d ds n refl h

natural_from : (ds : List ℕ) → digits ds ≡ true → 48 < get_or ds 0 0 → value_on 0 ds ≤ most → natural ds ≡ Some (value_on 0 ds)
natural_from [] h first le = absurd (omega arith)
natural_from (d ∷ ds) h first le =
    let ne : eqb d 48 ≡ false = ne_eqb d 48 (λ e. omega arith) in
    ap (λ b. cond b (zero_alone ds) (read_on 0 (d ∷ ds))) ne ∙ read_on_complete (d ∷ ds) 0 h le

pub natural_complete : (n : ℕ) → n ≤ most → natural (decimal n) ≡ Some n
natural_complete zero le = ap natural zero_text
natural_complete (suc n) le =
    let small : suc n < 2 ^ 64 = omega arith in
    let v = digits_value-decimal own (suc n) small in
    natural_from (decimal (suc n)) (digits_decimal own (suc n) small) (first_decimal (suc n) (omega arith) small) (omega (arith, v)) ∙ ap Some v

plain_sound : (o : Option ℕ) (z : ℤ) → plain o ≡ Some z → (n : ℕ) × (o ≡ Some n) × (z ≡ pos n)
plain_sound None z h = absurd cc
plain_sound (Some n) z h = (n, refl, cc)

minus_sound : (o : Option ℕ) (z : ℤ) → minus o ≡ Some z → (n : ℕ) × (o ≡ Some (suc n)) × (z ≡ negsuc n)
minus_sound None z h = absurd cc
minus_sound (Some zero) z h = absurd cc
minus_sound (Some (suc n)) z h =
    let e : eqb (suc n) 0 ≡ false = ne_eqb (suc n) 0 (λ q. omega arith) in
    let k : ◌≡◌ {A = Option ℤ} (Some (negsuc n)) (Some z) = sym (ap (λ b. cond b None (Some (negsuc n))) e) ∙ h in
    (n, refl, cc)

number_by : (b : Bool) (d : ℕ) (ds : List ℕ) (z : ℤ) → eqb d 45 ≡ b → cond b (minus (natural ds)) (plain (natural (d ∷ ds))) ≡ Some z → signed_decimal z ≡ d ∷ ds
number_by true d ds z e h =
    let m = minus_sound (natural ds) z h in
    let t = natural_sound ds (suc m.0) m.1 in
    let q : d ≡ 45 = eqb-true d 45 e in
    ap signed_decimal m.2 ∙ ap (λ x. 45 ∷ x) t.0 ∙ ap (λ x. x ∷ ds) (sym q)
number_by false d ds z e h =
    let m = plain_sound (natural (d ∷ ds)) z h in
    ap signed_decimal m.2 ∙ (natural_sound (d ∷ ds) m.0 m.1).0

-- a run that spells a number is the number's text
pub number_sound : (run : List ℕ) (z : ℤ) → number_of run ≡ Some z → signed_decimal z ≡ run
number_sound [] z h = absurd cc
number_sound (d ∷ ds) z h = number_by (eqb d 45) d ds z refl h

plain_from : (ds : List ℕ) → 48 ≤ get_or ds 0 0 → number_of ds ≡ plain (natural ds)
plain_from [] h = absurd (omega arith)
plain_from (d ∷ ds) h =
    let ne : eqb d 45 ≡ false = ne_eqb d 45 (λ e. omega arith) in
    ap (λ b. cond b (minus (natural ds)) (plain (natural (d ∷ ds)))) ne

first_digit : (n : ℕ) → n ≤ most → 48 ≤ get_or (decimal n) 0 0
first_digit zero le = omega (arith, ap (λ l. get_or l 0 0) zero_text)
first_digit (suc n) le = omega (arith, first_decimal (suc n) (omega arith) (omega arith))

-- a number's text spells it
pub number_complete : (z : ℤ) → mag z < most → number_of (signed_decimal z) ≡ Some z
number_complete (pos n) le = plain_from (decimal n) (first_digit n (omega arith)) ∙ ap plain (natural_complete n (omega arith))
number_complete (negsuc n) le =
    let e : eqb (suc n) 0 ≡ false = ne_eqb (suc n) 0 (λ q. omega arith) in
    ap minus (natural_complete (suc n) (omega arith)) ∙ ap (λ b. cond b None (Some (negsuc n))) e

-- the bytes of a number's text
abbrev pub All-class : Class → List ℕ → Type 0
All-class k [] = Unit {0}
All-class k (b ∷ bs) = (class_of b ≡ k) × All-class k bs

digit_class : (b : ℕ) → between 48 57 b ≡ true → class_of b ≡ class.Digit
digit_class b h = grind arith

digits_class : (ds : List ℕ) → digits ds ≡ true → All-class class.Digit ds
digits_class [] h = tt
digits_class (d ∷ ds) h =
    let p = and_parts (between 48 57 d) (digits ds) h in
    (digit_class d p.0, digits_class ds p.1)

pub signed_all : (z : ℤ) → mag z < most → All-class class.Digit (signed_decimal z)
signed_all (pos n) le = digits_class (decimal n) (digits_decimal own n (omega arith))
signed_all (negsuc n) le = (refl, digits_class (decimal (suc n)) (digits_decimal own (suc n) (omega arith)))

pub signed_some : (z : ℤ) → mag z < most → 0 < length (signed_decimal z)
signed_some (pos n) le = decimal_nonempty n (omega arith)
signed_some (negsuc n) le = omega arith
