-- The bits of a row are the answers of the nodes.
use Rattle.std.proofs.Common.{◌≡◌, ℕ, zero, suc, ◌+◌, ◌*◌, ◌/◌, ◌%◌, ◌^◌, ◌<◌, Bool, false, cond, eqb, List, [], ◌∷◌, length, get_or, reverse, ◌++◌, fold, sym, refl, ap, ◌∙◌, arith, add-one, lit<, pow_mono, length-append}
use native.Mathlib.Nat.{pow-succ', div-div-eq-div-mul, zero-div}
use Rattle.std.proofs.lemmas.List.{reverse-append}
use Rattle.std.proofs.lemmas.Bool.Decides.{nat_tests}
use Rattle.std.proofs.lemmas.List.Sums.{fold_push}
use Rattle.store.specs.declared.facts.Fact.{Fact}
use Rattle.syntax.specs.declared.Query.{Query}
use Rattle.syntax.specs.declared.Node.{Node}
use Rattle.syntax.specs.declared.Node.TheVariants as node
use Rattle.query.specs.Queries.{node_answer}
use Rattle.syntax.specs.Rows.{bit_of}
use Rattle.query.specs.Rows.{row_of, Answers}

low_bit : (b : Bool) (r : ℕ) → eqb ((cond b 1 0 + 2 * r) / 1 % 2) 1 ≡ b
low_bit b r = grind (arith, nat_tests)

half : (b : Bool) (r : ℕ) → (cond b 1 0 + 2 * r) / 2 ≡ r
half b r = grind arith

high_bit : (w m : ℕ) → w / 2 ^ suc m ≡ w / 2 / 2 ^ m
high_bit w m = ap (λ n. w / n) (pow-succ' 2 m) ∙ sym (div-div-eq-div-mul w 2 (2 ^ m))

no_bit : (m : ℕ) → bit_of 0 m ≡ false
no_bit m = ap (λ n. eqb (n % 2) 1) (zero-div (2 ^ m))

pub bit_row : (nodes : List Node) (facts : List Fact) (m : ℕ) → bit_of (row_of nodes facts) m ≡ node_answer (get_or nodes m node.True) facts
bit_row [] facts m = no_bit m
bit_row (x ∷ xs) facts zero = low_bit (node_answer x facts) (row_of xs facts)
bit_row (x ∷ xs) facts (suc m) =
    ap (λ n. eqb (n % 2) 1) (high_bit _ m ∙ ap (λ n. n / 2 ^ m) (half (node_answer x facts) (row_of xs facts))) ∙ bit_row xs facts m

-- ---- the row built from its highest bit down

-- the row r with one more bit below
abbrev pub with_bit : List Fact → ℕ → Node → ℕ
with_bit facts r x = 2 * r + cond (node_answer x facts) 1 0

pub row_fold : (nodes : List Node) (facts : List Fact) → fold (with_bit facts) 0 (reverse nodes) ≡ row_of nodes facts
row_fold [] facts = refl
row_fold (x ∷ xs) facts =
    rw (reverse-append (x ∷ []) xs, fold_push (with_bit facts) 0 (reverse xs) x, row_fold xs facts) (omega arith)

pub row_small : (nodes : List Node) (facts : List Fact) → row_of nodes facts < 2 ^ length nodes
row_small [] facts = lit< tt
row_small (x ∷ xs) facts = let rest = row_small xs facts in rw (pow-succ' 2 (length xs)) (grind arith)

-- a row of n bits grows to n + 1, and one of fewer than 64 has room for one more
pub row_grows : {A : Type 0} (xs : List A) (x : A) (b : Bool) {r s : ℕ} → r < 2 ^ length xs → s ≡ 2 * r + cond b 1 0 → s < 2 ^ length (xs ++ (x ∷ []))
row_grows xs x b {r} {s} small e = rw (length-append xs (x ∷ []), add-one (length xs), pow-succ' 2 (length xs), e) (grind arith)

pub row_room : {A : Type 0} (xs : List A) {r : ℕ} → r < 2 ^ length xs → length xs < 64 → r < 2 ^ 63
row_room xs small few = omega (arith, small, pow_mono {i = length xs} {j = 63} (omega arith))

-- ---- what the bits say

other_node : (x : Node) (facts : List Fact) → ((q : Query) → x ≡ node.Query q → ⊥) → node_answer x facts ≡ false
other_node x facts h = grind arith

-- past the last node there is no query
inside : (nodes : List Node) (m : ℕ) (q : Query) → get_or nodes m node.True ≡ node.Query q → m < length nodes
inside [] m q e = grind arith
inside (x ∷ xs) zero q e = omega arith
inside (x ∷ xs) (suc m) q e = omega (arith, inside xs m q e)

pub row_answers : (nodes : List Node) (facts : List Fact) {row : ℕ} → row ≡ row_of nodes facts → Answers nodes facts row
row_answers nodes facts {row} e =
    let bit : (m : ℕ) → bit_of row m ≡ node_answer (get_or nodes m node.True) facts = λ m. ap (λ n. bit_of n m) e ∙ bit_row nodes facts m in
    record {
      queries = λ m q l is. bit m ∙ ap (λ x. node_answer x facts) is;
      others = λ m none. bit m ∙ other_node (get_or nodes m node.True) facts (λ q is. none q (inside nodes m q is) is);
    }
