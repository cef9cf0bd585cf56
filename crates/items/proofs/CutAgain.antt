-- The bytes of items are cut into them again.
use Rattle.std.proofs.Common.{◌≡◌, ℕ, ◌<◌, Bool, true, false, cond, ◌&&◌, ◌||◌, ◌⊎◌, List, [], ◌∷◌, ◌++◌, length, codes, sym, refl, ap, ◌∙◌, subst, inl, inr, arith, rules}
use Rattle.std.proofs.Math.Bool.{and-false}
use Rattle.std.proofs.lemmas.Bool.{false≢true}
use Rattle.std.specs.Fmt.{signed_decimal}
use Rattle.items.specs.declared.item.Place.{Place}
use Rattle.items.specs.declared.item.Form.{Form}
use Rattle.items.specs.declared.item.Kind.{Kind}
use Rattle.items.specs.declared.item.Kind.TheVariants as kind
use Rattle.items.specs.declared.cut.Class.{Class}
use Rattle.items.specs.declared.cut.Class.TheVariants as class
use Rattle.items.specs.Items.{class_of, is_letter, is_digit, joins, before, runs, first, past, spelt, by_class, kind_of, items_from}
use Rattle.items.specs.Tokens.{word_text, tokens, kind_text, spell}
use Rattle.items.proofs.Numerals.{number_complete, signed_all, signed_some, All-class}
use Rattle.items.proofs.Spelling.{Spelled, no_join}
use Rattle.items.proofs.Runs.{alone}

-- items that stand by themselves
abbrev pub sep : Kind → Bool
sep kind.Open = true
sep kind.Close = true
sep kind.Space = true
sep kind.Newline = true
sep kind.Rule = false
sep kind.End = false
sep (kind.Form f) = false
sep (kind.Number z) = false
sep kind.Misspelt = false
sep kind.Other = false

abbrev pub Starts : List Kind → Type 0
Starts [] = Unit {0}
Starts (x ∷ xs) = sep x ≡ true

-- a word or a number stands before one that stands by itself, or last
abbrev pub Apart : List Kind → Type 0
Apart [] = Unit {0}
Apart (x ∷ xs) = Spelled x × ((sep x ≡ true) ⊎ Starts xs) × Apart xs

-- the first byte joins nothing
abbrev Stops : List ℕ → Type 0
Stops [] = Unit {0}
Stops (b ∷ bs) = (is_letter (class_of b) ≡ false) × (is_digit (class_of b) ≡ false)

stops_kind : (k : Kind) (r : List ℕ) → sep k ≡ true → Stops (kind_text k ++ r)
stops_kind k r h = search rules

stops : (xs : List Kind) → Starts xs → Stops (spell xs)
stops [] h = tt
stops (k ∷ xs) h = stops_kind k (spell xs) h

-- the first run
abbrev solid : Class → Bool
solid k = is_letter k || is_digit k

last_joins : (b : ℕ) (rest : List ℕ) → Stops rest → (y : ℕ) (zs : List ℕ) → rest ≡ y ∷ zs → joins b y ≡ false
last_joins b [] h y zs e = absurd cc
last_joins b (x ∷ rest) h y zs e =
    let q : x ≡ y = cc in
    subst (λ u. joins b u ≡ false) q (rw (h.0, h.1, and-false (is_letter (class_of b)), and-false (is_digit (class_of b))))

solid_joins : (k : Class) → solid k ≡ true → (is_letter k && is_letter k) || (is_digit k && is_digit k) ≡ true
solid_joins k h = grind arith

both_join : (b c : ℕ) (k : Class) → class_of b ≡ k → class_of c ≡ k → solid k ≡ true → joins b c ≡ true
both_join b c k p q h = rw (p, q) (solid_joins k h)

front_solid : (k : Class) → solid k ≡ true → (t rest : List ℕ) → 0 < length t → All-class k t → Stops rest → runs (t ++ rest) ≡ t ∷ runs rest
front_solid k s [] rest some h st = absurd (omega arith)
front_solid k s (b ∷ []) rest some h st = alone b rest (last_joins b rest st)
front_solid k s (b ∷ c ∷ cs) rest some h st =
    let m = front_solid k s (c ∷ cs) rest (omega arith) h.1 st in
    let j = both_join b c k h.0 h.1.0 s in
    ap (before b) m ∙ ap (λ u. cond u ((b ∷ c ∷ cs) ∷ runs rest) ((b ∷ []) ∷ (c ∷ cs) ∷ runs rest)) j

front_one : (b : ℕ) (k : Class) (rest : List ℕ) → class_of b ≡ k → is_letter k ≡ false → is_digit k ≡ false → runs (b ∷ rest) ≡ (b ∷ []) ∷ runs rest
front_one b k rest e l d = alone b rest (λ y zs _. no_join b y k e l d)

word_letters : (f : Form) → All-class class.Letter (word_text f)
word_letters f = search rules

word_some : (f : Form) → 0 < length (word_text f)
word_some f = grind arith

starts_of : (b : Bool) (xs : List Kind) → b ≡ false → (b ≡ true) ⊎ Starts xs → Starts xs
starts_of b xs e (inl h) = absurd (false≢true (sym e ∙ h))
starts_of b xs e (inr h) = h

front : (k : Kind) (xs : List Kind) → Spelled k → (sep k ≡ true) ⊎ Starts xs → runs (kind_text k ++ spell xs) ≡ kind_text k ∷ runs (spell xs)
front kind.Open xs h s = front_one 40 class.Open (spell xs) refl refl refl
front kind.Close xs h s = front_one 41 class.Close (spell xs) refl refl refl
front kind.Space xs h s = front_one 32 class.Space (spell xs) refl refl refl
front kind.Newline xs h s = front_one 10 class.Newline (spell xs) refl refl refl
front kind.Rule xs h s = front_solid class.Letter refl (codes "rule") (spell xs) (omega arith) (refl, (refl, (refl, (refl, tt)))) (stops xs (starts_of false xs refl s))
front kind.End xs h s = front_solid class.Letter refl (codes "end") (spell xs) (omega arith) (refl, (refl, (refl, tt))) (stops xs (starts_of false xs refl s))
front (kind.Form f) xs h s = front_solid class.Letter refl (word_text f) (spell xs) (word_some f) (word_letters f) (stops xs (starts_of false xs refl s))
front (kind.Number z) xs h s = front_solid class.Digit refl (signed_decimal z) (spell xs) (signed_some z h) (signed_all z h) (stops xs (starts_of false xs refl s))
front kind.Misspelt xs h s = absurd h
front kind.Other xs h s = absurd h

-- each text is the item again
form_back : (f : Form) → kind_of (word_text f) ≡ kind.Form f
form_back f = grind arith

first_class : (k : Class) (t : List ℕ) → 0 < length t → All-class k t → class_of (first t) ≡ k
first_class k [] some h = absurd (omega arith)
first_class k (b ∷ bs) some h = h.0

back : (k : Kind) → Spelled k → kind_of (kind_text k) ≡ k
back kind.Open h = refl
back kind.Close h = refl
back kind.Space h = refl
back kind.Newline h = refl
back kind.Rule h = refl
back kind.End h = refl
back (kind.Form f) h = form_back f
back (kind.Number z) h =
    ap (λ k. by_class k (signed_decimal z)) (first_class class.Digit (signed_decimal z) (signed_some z h) (signed_all z h)) ∙ ap spelt (number_complete z h)
back kind.Misspelt h = absurd h
back kind.Other h = absurd h

-- the bytes of items that stand apart are cut into them again
pub cut_spell : (xs : List Kind) (p : Place) → Apart xs → tokens (items_from p (runs (spell xs))) ≡ xs
cut_spell [] p h = refl
cut_spell (x ∷ xs) p h =
    ap (λ rs. tokens (items_from p rs)) (front x xs h.0 h.1) ∙ ap (λ t. t ∷ tokens (items_from (past p (kind_text x)) (runs (spell xs)))) (back x h.0) ∙ ap (λ ts. x ∷ ts) (cut_spell xs (past p (kind_text x)) h.2)
