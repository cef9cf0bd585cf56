-- A run of a known length as the list of its bytes.
use Rattle.std.proofs.Common.{◌≡◌, ℕ, zero, suc, List, [], ◌∷◌, length, get_or, refl, ap, ◌∙◌, arith}

-- the bytes from a place on, this many
abbrev bytes : List ℕ → ℕ → ℕ → List ℕ
bytes xs i zero = []
bytes xs i (suc n) = get_or xs i 0 ∷ bytes xs (suc i) n

behind : (x : ℕ) (xs : List ℕ) (i n : ℕ) → bytes xs i n ≡ bytes (x ∷ xs) (suc i) n
behind x xs i zero = refl
behind x xs i (suc n) = ap (λ bs. get_or xs i 0 ∷ bs) (behind x xs (suc i) n)

listed : (n : ℕ) (xs : List ℕ) → length xs ≡ n → xs ≡ bytes xs 0 n
listed zero [] e = refl
listed zero (x ∷ xs) e = absurd (omega arith)
listed (suc n) [] e = absurd (omega arith)
listed (suc n) (x ∷ xs) e = ap (λ bs. x ∷ bs) (listed n xs (omega arith) ∙ behind x xs 0 n)

pub five : (xs : List ℕ) → length xs ≡ 5 → xs ≡ get_or xs 0 0 ∷ get_or xs 1 0 ∷ get_or xs 2 0 ∷ get_or xs 3 0 ∷ get_or xs 4 0 ∷ []
five xs e = listed 5 xs e

pub six : (xs : List ℕ) → length xs ≡ 6 → xs ≡ get_or xs 0 0 ∷ get_or xs 1 0 ∷ get_or xs 2 0 ∷ get_or xs 3 0 ∷ get_or xs 4 0 ∷ get_or xs 5 0 ∷ []
six xs e = listed 6 xs e

pub seven : (xs : List ℕ) → length xs ≡ 7 → xs ≡ get_or xs 0 0 ∷ get_or xs 1 0 ∷ get_or xs 2 0 ∷ get_or xs 3 0 ∷ get_or xs 4 0 ∷ get_or xs 5 0 ∷ get_or xs 6 0 ∷ []
seven xs e = listed 7 xs e

pub eight : (xs : List ℕ) → length xs ≡ 8 → xs ≡ get_or xs 0 0 ∷ get_or xs 1 0 ∷ get_or xs 2 0 ∷ get_or xs 3 0 ∷ get_or xs 4 0 ∷ get_or xs 5 0 ∷ get_or xs 6 0 ∷ get_or xs 7 0 ∷ []
eight xs e = listed 8 xs e

pub ruleset letters = (five, six, seven, eight)
