-- A line, and under it a mark.
use Rattle.std.proofs.Common.{◌≡◌, ℕ, ◌+◌, ◌-◌, List, [], ◌∷◌, ◌++◌, length, take, replicate, ap, ◌∙◌, append_assoc, arith, take_all}

-- a list that grew by so many spaces
pub resized : (xs : List ℕ) (len n more : ℕ) → len ≡ length xs → n ≡ len + more → take n xs ++ replicate (n - len) 32 ≡ xs ++ replicate more 32
resized xs len n more is grown =
    let left : n - len ≡ more = omega arith in
    ap (λ k. take n xs ++ replicate k 32) left ∙ ap (λ ys. ys ++ replicate more 32) (take_all n xs (omega arith))

-- what was put one after another
pub joined : {line a b c d : List ℕ} (spaces mark : List ℕ) → a ≡ line → b ≡ a ++ (10 ∷ []) → c ≡ b ++ spaces → d ≡ c ++ mark → d ≡ line ++ (10 ∷ (spaces ++ mark))
joined {line} spaces mark p q r s =
    s ∙ ap (λ l. l ++ mark) r ∙ append_assoc _ spaces mark ∙ ap (λ l. l ++ (spaces ++ mark)) q ∙ append_assoc _ (10 ∷ []) (spaces ++ mark) ∙ ap (λ l. l ++ (10 ∷ (spaces ++ mark))) p
