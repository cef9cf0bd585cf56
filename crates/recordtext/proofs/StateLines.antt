-- The lines of states.
use Rattle.std.proofs.Common.{rules, ◌≡◌, ℕ, ◌+◌, ◌-◌, ◌^◌, ◌<◌, ◌≤◌, true, false, cond, eqb, ltb, List, [], ◌∷◌, ◌++◌, length, get_or, take, drop, Some, None, Ok, Err, Result, IsUtf8, codes, decimal, sym, refl, ap, ◌∙◌, subst, ap₂, ⊎_elim, append_assoc, append-nil, arith, take-append-drop, take_all, length-drop}
use Rattle.std.specs.Result.{MatchResult, result_ok}
use Rattle.std.specs.List.{All, position, position_or_len}
use Rattle.std.proofs.lemmas.List.{length-append, length_push, get_or_append_left, get_or_at, get_or_push, take_at, take_more, append_cancel_right}
use Rattle.std.proofs.lemmas.List.Elements.{All-append, All-from_recursion, All-from_get_or, All-get_or}
use Rattle.std.proofs.lemmas.List.Sums.{position_or_len_is}
use Rattle.std.proofs.lemmas.List.Quantifiers.{position-Some}
use Rattle.std.proofs.lemmas.Option.{same_Some, none-some}
use Rattle.std.proofs.lemmas.Fmt.{IsAscii-decimal}
use Rattle.std.proofs.lemmas.Bool.{cases_lt, cond-true, lt-ltb, ne_eqb, eqb-true}
use Rattle.std.proofs.lemmas.Str.{IsUtf8-from_ascii}
use Rattle.std.proofs.lemmas.Str.Ascii.{IsAscii-from_all, All-from_ascii}
use Rattle.recordtext.specs.Texts.{state_body, state_line, record_text, Small}
use Rattle.recordtext.specs.Reads.{numbers}
use Rattle.recordtext.proofs.Spelling.{decimal_lacks}

-- ---- the parts of a line

-- what `ok` loses of a result
module _ {T E : Type 0} (P : T → Type 0) (Q : E → Type 0) where
  pub at_none : (r : Result T E) → None ≡ result_ok r → MatchResult r P Q → (y : E) × Q y
  at_none (Ok y) e h = absurd (none-some y e)
  at_none (Err y) e h = (y, h)

-- two numbers put together again
pub numbers_from : (text pair stamp row : List ℕ) → text ≡ pair ++ (41 ∷ []) → pair ≡ stamp ++ (32 ∷ row) → text ≡ stamp ++ (codes " " ++ (row ++ codes ")"))
numbers_from text pair stamp row closed apart = closed ∙ ap (λ xs. xs ++ (41 ∷ [])) apart ∙ append_assoc stamp (32 ∷ row) (41 ∷ [])

-- what holds of each byte of five parts
joined_all : (P : ℕ → Type 0) (a b c d e : List ℕ) → All P a → All P b → All P c → All P d → All P e → All P (a ++ (b ++ (c ++ (d ++ e))))
joined_all P a b c d e pa pb pc pd pe = All-append P a _ pa (All-append P b _ pb (All-append P c _ pc (All-append P d e pd pe)))

module _ (t w : ℕ) (ts : t < 2 ^ 64) (ws : w < 2 ^ 64) where
  pub pair_of : (text pair : List ℕ) → text ≡ numbers t w → text ≡ pair ++ (41 ∷ []) → pair ≡ decimal t ++ (32 ∷ decimal w)
  pair_of text pair is closed = append_cancel_right pair (decimal t ++ (32 ∷ decimal w)) (41 ∷ []) (sym closed ∙ is ∙ sym (append_assoc (decimal t) (32 ∷ decimal w) (41 ∷ [])))

  pub stamp_lacks_space : (k : ℕ) → k < length (decimal t) → get_or (decimal t) k 0 ≡ 32 → ⊥
  stamp_lacks_space = decimal_lacks 32 t ts (λ h. omega (arith, h.0))

  numbers_ascii : All (λ b. b < 128) (numbers t w)
  numbers_ascii =
      let P : ℕ → Type 0 = λ b. b < 128 in
      All-append P (decimal t) _ (All-from_ascii (decimal t) (IsAscii-decimal t ts))
      (All-append P (codes " ") _ (All-from_recursion P (codes " ") (search rules))
      (All-append P (decimal w) (codes ")") (All-from_ascii (decimal w) (IsAscii-decimal w ws)) (All-from_recursion P (codes ")") (search rules))))

  pub numbers_utf8 : IsUtf8 (numbers t w)
  numbers_utf8 = IsUtf8-from_ascii (numbers t w) (IsAscii-from_all (numbers t w) numbers_ascii)

  number_lacks_newline : (n : ℕ) → n < 2 ^ 64 → All (λ b. eqb b 10 ≡ false) (decimal n)
  number_lacks_newline n small = All-from_get_or (λ b. eqb b 10 ≡ false) (decimal n) 0 (λ k lt. ne_eqb _ 10 (decimal_lacks 10 n small (λ h. omega (arith, h.0)) k lt))

  body_lacks_newline : All (λ b. eqb b 10 ≡ false) (state_body t w)
  body_lacks_newline =
      let P : ℕ → Type 0 = λ b. eqb b 10 ≡ false in
      joined_all P (codes "(state ") (decimal t) (codes " ") (decimal w) (codes ")") (All-from_recursion P (codes "(state ") (search rules)) (number_lacks_newline t ts)
      (All-from_recursion P (codes " ") (search rules)) (number_lacks_newline w ws) (All-from_recursion P (codes ")") (search rules))

  -- the line of a state ends at the first newline
  pub newline_at : (text tail : List ℕ) → text ≡ state_line t w ++ tail → position (λ b. eqb b 10) text ≡ Some (length (state_body t w))
  newline_at text tail is =
      let n = length (state_body t w) in
      let parts : text ≡ state_body t w ++ (10 ∷ tail) = is ∙ append_assoc (state_body t w) (10 ∷ []) tail in
      let within : n < length text = omega (arith, ap length parts, length-append (state_body t w) (10 ∷ tail)) in
      let before : (k : ℕ) → k < n → eqb (get_or text k 0) 10 ≡ false =
      λ k lt.
      ap (λ xs. eqb (get_or xs k 0) 10) parts ∙ ap (λ b. eqb b 10) (get_or_append_left (state_body t w) (10 ∷ tail) 0 k lt) ∙ All-get_or (λ b. eqb b 10 ≡ false) (state_body t w) k 0 lt body_lacks_newline in
      let here : eqb (get_or text n 0) 10 ≡ true = ap (λ xs. eqb (get_or xs n 0) 10) parts ∙ ap (λ b. eqb b 10) (get_or_at (state_body t w) 10 tail 0 n refl) in
      let first : position_or_len (λ b. eqb b 10) text ≡ n = position_or_len_is (λ b. eqb b 10) text n 0 (omega (arith, within)) before (λ _. here) in
      ap (λ m. cond (ltb m (length text)) (Some m) None) first ∙ cond-true _ _ _ (lt-ltb n (length text) within)

  pub body_before_newline : (text tail : List ℕ) (n : ℕ) → text ≡ state_line t w ++ tail → Some n ≡ position (λ b. eqb b 10) text → take n text ≡ state_body t w
  body_before_newline text tail n is found =
      ap (take n) (is ∙ append_assoc (state_body t w) (10 ∷ []) tail) ∙ take_at (state_body t w) (10 ∷ tail) n (sym (same_Some _ _ (found ∙ newline_at text tail is)))

-- a body and its newline
pub line_at : (text : List ℕ) (n t w : ℕ) → Some n ≡ position (λ b. eqb b 10) text → take n text ≡ state_body t w → (take (n + 1) text ≡ state_line t w) × (n + 1 ≤ length text)
line_at text n t w found body =
    let at = position-Some (λ b. eqb b 10) text n 0 (sym found) in
    (take_more text n 0 at.0 ∙ ap₂ (λ xs b. xs ++ (b ∷ [])) body (eqb-true _ 10 at.1), omega (arith, at.0))

-- ---- all lines

-- a front, and what stands behind it
pub behind : (text : List ℕ) (n : ℕ) → text ≡ take n text ++ take (length text - n) (drop n text)
behind text n = sym (take-append-drop n text) ∙ ap (λ xs. take n text ++ xs) (sym (take_all (length text - n) (drop n text) (omega (arith, length-drop n text))))

pub record_push : (ts ws : List ℕ) (t w : ℕ) → length ts ≡ length ws → record_text (ts ++ (t ∷ [])) (ws ++ (w ∷ [])) ≡ record_text ts ws ++ state_line t w
record_push [] [] t w e = append-nil (state_line t w)
record_push [] (y ∷ ws) t w e = absurd (omega arith)
record_push (x ∷ ts) [] t w e = absurd (omega arith)
record_push (x ∷ ts) (y ∷ ws) t w e =
    ap (λ xs. state_line x y ++ xs) (record_push ts ws t w (omega arith)) ∙ sym (append_assoc (state_line x y) (record_text ts ws) (state_line t w))

-- one line more is read
pub line_read : (text rest more ts ws x : List ℕ) (t w : ℕ) → length ts ≡ length ws → text ≡ record_text ts ws ++ rest → rest ≡ x ++ more → x ≡ state_line t w
    → text ≡ record_text (ts ++ (t ∷ [])) (ws ++ (w ∷ [])) ++ more
line_read text rest more ts ws x t w paired before parts line =
    before ∙ ap (λ xs. record_text ts ws ++ xs) (parts ∙ ap (λ xs. xs ++ more) line) ∙ sym (append_assoc (record_text ts ws) (state_line t w) more)
    ∙ ap (λ xs. xs ++ more) (sym (record_push ts ws t w paired))

pub small_push : (xs : List ℕ) (x : ℕ) → x < 2 ^ 64 → Small xs → Small (xs ++ (x ∷ []))
small_push xs x fits small k l =
    ⊎_elim
    (λ lt. subst (λ v. v < 2 ^ 64) (sym (get_or_append_left xs (x ∷ []) 0 k lt)) (small k lt))
    (λ le.
    let e : length xs ≡ k = omega (arith, length_push xs x) in
    subst (λ v. v < 2 ^ 64) (sym (get_or_push xs x 0 k e)) fits)
    (cases_lt k (length xs))
