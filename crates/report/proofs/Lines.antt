-- The lines of a text are what `split` gives.
use Rattle.std.proofs.Common.{◌≡◌, ℕ, zero, suc, ◌+◌, ◌-◌, Bool, eqb, List, [], ◌∷◌, get_or, drop, take, Some, None, Option, sym, refl, ap, ◌∙◌, ⊎_elim, arith}
use Rattle.std.proofs.Common.{Bor}
use Rattle.std.specs.List.{slice_get, slice_split, onto_first}
use Rattle.std.specs.Option.{option_map, unwrap_or}
use Rattle.std.proofs.lemmas.Bool.{cond-true, cond-false, cases_Bool}
use Rattle.std.proofs.lemmas.List.Splits.{slice_split-cons_yes, slice_split-cons_no}
use Rattle.std.proofs.lemmas.Option.{unwrap_or-slice_get}
use Rattle.report.specs.Lines.{line_length, line_after, line_of}

abbrev newline : ℕ → Bool
newline b = eqb b 10

none_after : (n : ℕ) → [] ≡ line_after n []
none_after zero = refl
none_after (suc n) = none_after n

first_at : (b : ℕ) (parts : List (List ℕ)) → get_or (onto_first b parts) 0 [] ≡ b ∷ get_or parts 0 []
first_at b [] = refl
first_at b (part ∷ parts) = refl

later_at : (b : ℕ) (parts : List (List ℕ)) (n : ℕ) → get_or (onto_first b parts) (suc n) [] ≡ get_or parts (suc n) []
later_at b [] n = refl
later_at b (part ∷ parts) n = refl

-- one more byte before the lines of a text
module _ (b : ℕ) (bs : List ℕ) where
  after_newline : (n : ℕ) → line_length (b ∷ bs) ≡ 0 → ((m : ℕ) → get_or (slice_split newline bs) m [] ≡ line_after m bs) → get_or ([] ∷ slice_split newline bs) n [] ≡ line_after n (b ∷ bs)
  after_newline zero e lines = ap (λ k. take k (b ∷ bs)) (sym e)
  after_newline (suc n) e lines = lines n ∙ ap (λ k. line_after n (drop (k + 1) (b ∷ bs))) (sym e)

  after_other : (n : ℕ) → line_length (b ∷ bs) ≡ suc (line_length bs) → ((m : ℕ) → get_or (slice_split newline bs) m [] ≡ line_after m bs) → get_or (onto_first b (slice_split newline bs)) n [] ≡ line_after n (b ∷ bs)
  after_other zero e lines = first_at b (slice_split newline bs) ∙ ap (λ l. b ∷ l) (lines 0) ∙ ap (λ k. take k (b ∷ bs)) (sym e)
  after_other (suc n) e lines =
      let k : suc (line_length bs + 1) ≡ line_length (b ∷ bs) + 1 = omega (arith, e) in
      later_at b (slice_split newline bs) n ∙ lines (suc n) ∙ ap (λ k. line_after n (drop k (b ∷ bs))) k

line_at : (text : List ℕ) (n : ℕ) → get_or (slice_split newline text) n [] ≡ line_after n text
line_at [] zero = refl
line_at [] (suc n) = none_after n
line_at (b ∷ bs) n =
    ⊎_elim
    (λ yes. ap (λ l. get_or l n []) (slice_split-cons_yes newline b bs yes) ∙ after_newline b bs n (cond-true _ _ _ yes) (line_at bs))
    (λ no. ap (λ l. get_or l n []) (slice_split-cons_no newline b bs no) ∙ after_other b bs n (cond-false _ _ _ no) (line_at bs))
    (cases_Bool (newline b))

found : (r : Option (Bor (List ℕ))) (d : Bor (List ℕ)) → d.now ≡ [] → (unwrap_or r d).now ≡ unwrap_or (option_map (λ x. x.now) r) []
found (Some x) d e = refl
found None d e = e

pub line_found : (text : List ℕ) (line n : ℕ) (r : Option (Bor (List ℕ))) (d : Bor (List ℕ)) → d.now ≡ [] → n ≡ line - 1 → option_map (λ x. x.now) r ≡ slice_get (slice_split (λ b. eqb b 10) text) n → (unwrap_or r d).now ≡ line_of text line
line_found text line n r d none is lines =
    found r d none ∙ ap (λ o. unwrap_or o []) lines ∙ unwrap_or-slice_get (slice_split newline text) n [] ∙ line_at text n ∙ ap (λ k. line_after k text) is
