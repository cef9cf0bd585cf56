-- Items and their bytes: a text is the bytes of its items, and their bytes are cut into them again.
use Rattle.std.proofs.Common.{◌≡◌, ℕ, ◌<◌, Bool, true, false, cond, ◌⊎◌, List, [], ◌∷◌, ◌++◌, ℤ, Some, None, codes, Option, sym, refl, ap, ◌∙◌, subst, inl, inr, arith, rules}
use lib.Signed.{mag}
use Rattle.std.proofs.lemmas.Bool.{false≢true}
use Rattle.std.proofs.lemmas.Slice.Eq.{bytes_eq-Decides}
use Rattle.std.specs.Str.{bytes_eq}
use Rattle.items.specs.declared.item.Place.{Place}
use Rattle.items.specs.declared.item.Form.{Form}
use Rattle.items.specs.declared.item.Kind.{Kind}
use Rattle.items.specs.declared.item.Kind.TheVariants as kind
use Rattle.items.specs.declared.cut.Class.{Class}
use Rattle.items.specs.declared.cut.Class.TheVariants as class
use Rattle.items.specs.Items.{class_of, is_letter, is_digit, joins, before, runs, past, query_words, connective_words, future_words, past_words, look_up, or_else, form_word, form_kind, number_of, spelt, by_class, kind_of, items_from, items, start}
use Rattle.items.specs.Tokens.{word_text}
use Rattle.items.specs.Tokens.{tokens, kind_text, spell}
use Rattle.items.proofs.Numerals.{most, number_sound}

-- an item that has a text
abbrev pub Spelled : Kind → Type 0
Spelled kind.Open = Unit {0}
Spelled kind.Close = Unit {0}
Spelled kind.Space = Unit {0}
Spelled kind.Newline = Unit {0}
Spelled kind.Rule = Unit {0}
Spelled kind.End = Unit {0}
Spelled (kind.Form f) = Unit {0}
Spelled (kind.Number z) = mag z < most
Spelled kind.Misspelt = ⊥
Spelled kind.Other = ⊥

abbrev pub All-spelled : List Kind → Type 0
All-spelled [] = Unit {0}
All-spelled (x ∷ xs) = Spelled x × All-spelled xs

-- runs
abbrev Run : List ℕ → Type 0
Run [] = ⊥
Run (b ∷ []) = Unit {0}
Run (b ∷ c ∷ cs) = joins b c ≡ true

abbrev All-runs : List (List ℕ) → Type 0
All-runs [] = Unit {0}
All-runs (r ∷ rs) = Run r × All-runs rs

abbrev join : List (List ℕ) → List ℕ
join [] = []
join (r ∷ rs) = r ++ join rs

before_runs_by : (t : Bool) (b c : ℕ) (cs : List ℕ) (rs : List (List ℕ)) → joins b c ≡ t → Run (c ∷ cs) → All-runs rs → All-runs (cond t ((b ∷ c ∷ cs) ∷ rs) ((b ∷ []) ∷ (c ∷ cs) ∷ rs)) × (join (cond t ((b ∷ c ∷ cs) ∷ rs) ((b ∷ []) ∷ (c ∷ cs) ∷ rs)) ≡ b ∷ c ∷ (cs ++ join rs))
before_runs_by true b c cs rs e h hs = ((e, hs), refl)
before_runs_by false b c cs rs e h hs = ((tt, (h, hs)), refl)

before_runs : (b : ℕ) (rs : List (List ℕ)) → All-runs rs → All-runs (before b rs) × (join (before b rs) ≡ b ∷ join rs)
before_runs b [] h = ((tt, tt), refl)
before_runs b ([] ∷ rs) h = absurd h.0
before_runs b ((c ∷ cs) ∷ rs) h = before_runs_by (joins b c) b c cs rs refl h.0 h.1

-- the runs of a text, joined, are the text
runs_join : (text : List ℕ) → All-runs (runs text) × (join (runs text) ≡ text)
runs_join [] = (tt, refl)
runs_join (b ∷ bs) =
    let r = runs_join bs in
    let m = before_runs b (runs bs) r.0 in
    (m.0, m.1 ∙ ap (λ x. b ∷ x) r.1)

-- what a byte's class says of it
abbrev pub Means : Class → ℕ → Type 0
Means class.Open b = b ≡ 40
Means class.Close b = b ≡ 41
Means class.Space b = b ≡ 32
Means class.Newline b = b ≡ 10
Means class.Letter b = Unit {0}
Means class.Digit b = Unit {0}
Means class.Other b = Unit {0}

pub means : (b : ℕ) → Means (class_of b) b
means b = search rules

-- a byte that joins nothing is a run by itself
pub no_join : (b c : ℕ) (k : Class) → class_of b ≡ k → is_letter k ≡ false → is_digit k ≡ false → joins b c ≡ false
no_join b c k e l d = grind arith

single : (b : ℕ) (bs : List ℕ) (k : Class) → class_of b ≡ k → is_letter k ≡ false → is_digit k ≡ false → Run (b ∷ bs) → bs ≡ []
single b [] k e l d h = refl
single b (c ∷ cs) k e l d h = absurd (false≢true (sym (no_join b c k e l d) ∙ h))

one_byte : (b : ℕ) (bs : List ℕ) (n : ℕ) → b ≡ n → bs ≡ [] → b ∷ bs ≡ n ∷ []
one_byte b bs n p q = cc

-- words
same_bytes : (xs ys : List ℕ) → bytes_eq xs ys ≡ true → xs ≡ ys
same_bytes xs ys h = (bytes_eq-Decides xs ys).0 h

abbrev Texts : List (List ℕ × Form) → Type 0
Texts [] = Unit {0}
Texts (p ∷ ps) = (p.0 ≡ word_text p.1) × Texts ps

look_up_by : (t : Bool) (w v : List ℕ) (f g : Form) (o : Option Form) → (bytes_eq w v ≡ t) → cond t (Some f) o ≡ Some g → ((w ≡ v) × (f ≡ g)) ⊎ (o ≡ Some g)
look_up_by true w v f g o e h = inl (same_bytes w v e, cc)
look_up_by false w v f g o e h = inr h

look_up_sound : (w : List ℕ) (ps : List (List ℕ × Form)) (f : Form) → Texts ps → look_up w ps ≡ Some f → w ≡ word_text f
look_up_sound w [] f t h = absurd cc
look_up_sound w (p ∷ ps) f t h =
    elim (look_up_by (bytes_eq w p.0) w p.0 p.1 f (look_up w ps) refl h) [ inl e ↦ e.0 ∙ t.0 ∙ ap word_text e.1 | inr e ↦ look_up_sound w ps f t.1 e ]

or_else_by : (o q : Option Form) (f : Form) → or_else o q ≡ Some f → (o ≡ Some f) ⊎ (q ≡ Some f)
or_else_by (Some g) q f h = inl h
or_else_by None q f h = inr h

form_sound : (w : List ℕ) (f : Form) → form_word w ≡ Some f → w ≡ word_text f
form_sound w f h =
    elim (or_else_by (look_up w query_words) _ f h) [
      | inl e ↦ look_up_sound w query_words f (refl, (refl, (refl, (refl, (refl, (refl, (refl, tt))))))) e
      | inr h2 ↦
          elim (or_else_by (look_up w connective_words) _ f h2) [
            | inl e ↦ look_up_sound w connective_words f (refl, (refl, (refl, (refl, tt)))) e
            | inr h3 ↦
                elim (or_else_by (look_up w future_words) _ f h3) [ inl e ↦ look_up_sound w future_words f (refl, (refl, (refl, (refl, (refl, tt))))) e | inr e ↦ look_up_sound w past_words f (refl, (refl, (refl, (refl, tt)))) e ]
          ]
    ]

word_by : (t u : Bool) (o : Option Form) (w : List ℕ) → bytes_eq w (codes "rule") ≡ t → bytes_eq w (codes "end") ≡ u → form_word w ≡ o → Spelled (cond t kind.Rule (cond u kind.End (form_kind o))) → w ≡ kind_text (cond t kind.Rule (cond u kind.End (form_kind o)))
word_by true u o w p q r h = same_bytes w (codes "rule") p
word_by false true o w p q r h = same_bytes w (codes "end") q
word_by false false (Some f) w p q r h = form_sound w f r
word_by false false None w p q r h = absurd h

number_by : (o : Option ℤ) (run : List ℕ) → number_of run ≡ o → Spelled (spelt o) → run ≡ kind_text (spelt o)
number_by (Some z) run e h = sym (number_sound run z e)
number_by None run e h = absurd h

-- a run with a text of its own is that text
run_by : (k : Class) (b : ℕ) (bs : List ℕ) → class_of b ≡ k → Means k b → Run (b ∷ bs) → Spelled (by_class k (b ∷ bs)) → b ∷ bs ≡ kind_text (by_class k (b ∷ bs))
run_by class.Open b bs e m r h = one_byte b bs 40 m (single b bs class.Open e refl refl r)
run_by class.Close b bs e m r h = one_byte b bs 41 m (single b bs class.Close e refl refl r)
run_by class.Space b bs e m r h = one_byte b bs 32 m (single b bs class.Space e refl refl r)
run_by class.Newline b bs e m r h = one_byte b bs 10 m (single b bs class.Newline e refl refl r)
run_by class.Letter b bs e m r h = word_by (bytes_eq (b ∷ bs) (codes "rule")) (bytes_eq (b ∷ bs) (codes "end")) (form_word (b ∷ bs)) (b ∷ bs) refl refl refl h
run_by class.Digit b bs e m r h = number_by (number_of (b ∷ bs)) (b ∷ bs) refl h
run_by class.Other b bs e m r h = absurd h

run_text : (run : List ℕ) → Run run → Spelled (kind_of run) → run ≡ kind_text (kind_of run)
run_text [] r h = absurd r
run_text (b ∷ bs) r h = run_by (class_of b) b bs refl (means b) r h

joined : (rs : List (List ℕ)) (p : Place) → All-runs rs → All-spelled (tokens (items_from p rs)) → join rs ≡ spell (tokens (items_from p rs))
joined [] p r h = refl
joined (run ∷ rs) p r h =
    let a = run_text run r.0 h.0 in
    let b = joined rs (past p run) r.1 h.1 in
    ap (λ x. x ++ join rs) a ∙ ap (λ x. kind_text (kind_of run) ++ x) b

-- a text whose items all have a text is the bytes of its items
pub text_of_items : (text : List ℕ) (xs : List Kind) → All-spelled xs → tokens (items text) ≡ xs → text ≡ spell xs
text_of_items text xs h e =
    let r = runs_join text in
    sym r.1 ∙ joined (runs text) start r.0 (subst All-spelled (sym e) h) ∙ ap spell e
