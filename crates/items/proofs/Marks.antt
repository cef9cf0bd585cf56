-- An item that stands alone is known by its byte.
use Rattle.std.proofs.Common.{◌≡◌, ℕ, Bool, true, false, cond, List, [], ◌∷◌, ℤ, Some, None, Option, sym, refl, ap, ◌∙◌, subst}
use Rattle.std.proofs.lemmas.Bool.{false≢true}
use Rattle.std.specs.Str.{bytes_eq}
use Rattle.std.specs.Prelude.{codes, MatchBool}
use Rattle.items.specs.declared.item.Place.{Place}
use Rattle.items.specs.declared.item.Form.{Form}
use Rattle.items.specs.declared.item.Item.{Item}
use Rattle.items.specs.Cursors.{first_item}
use Rattle.items.specs.declared.item.Kind.{Kind}
use Rattle.items.specs.declared.item.Kind.TheVariants as kind
use Rattle.items.specs.declared.cut.Class.{Class}
use Rattle.items.specs.declared.cut.Class.TheVariants as class
use Rattle.items.specs.Items.{class_of, runs, before, past, form_word, form_kind, number_of, spelt, by_class, kind_of, items_from, end_from}
use Rattle.items.specs.Tokens.{kind_text}
use Rattle.items.specs.Marks.{StartsOtherwise, BeginsOtherwise, TakesIf}
use Rattle.items.proofs.CutAgain.{sep}
use Rattle.items.proofs.Cuts.{begins}
use Rattle.items.proofs.Runs.{begins_before}
use Rattle.items.proofs.Spelling.{Means, means}

word_sep : (t u : Bool) (o : Option Form) → sep (cond t kind.Rule (cond u kind.End (form_kind o))) ≡ false
word_sep true u o = refl
word_sep false true o = refl
word_sep false false (Some f) = refl
word_sep false false None = refl

number_sep : (o : Option ℤ) → sep (spelt o) ≡ false
number_sep (Some z) = refl
number_sep None = refl

-- a run of a kind that stands alone begins with the byte of the kind
marked_by : (j : Class) (c : ℕ) (cs : List ℕ) → Means j c → sep (by_class j (c ∷ cs)) ≡ true → kind_text (by_class j (c ∷ cs)) ≡ c ∷ []
marked_by class.Open c cs m s = ap (λ x. x ∷ []) (sym m)
marked_by class.Close c cs m s = ap (λ x. x ∷ []) (sym m)
marked_by class.Space c cs m s = ap (λ x. x ∷ []) (sym m)
marked_by class.Newline c cs m s = ap (λ x. x ∷ []) (sym m)
marked_by class.Letter c cs m s = absurd (false≢true (sym (word_sep (bytes_eq (c ∷ cs) (codes "rule")) (bytes_eq (c ∷ cs) (codes "end")) (form_word (c ∷ cs))) ∙ s))
marked_by class.Digit c cs m s = absurd (false≢true (sym (number_sep (number_of (c ∷ cs))) ∙ s))
marked_by class.Other c cs m s = absurd (false≢true s)

marked : (k : Kind) (b c : ℕ) (cs : List ℕ) → sep k ≡ true → kind_text k ≡ b ∷ [] → kind_of (c ∷ cs) ≡ k → c ≡ b
marked k b c cs s t e =
    let text : kind_text k ≡ c ∷ [] =
    ap kind_text (sym e) ∙ marked_by (class_of c) c cs (means c) (ap sep e ∙ s) in
    let same : c ∷ [] ≡ b ∷ [] = sym text ∙ t in
    cc

otherwise_by : (k : Kind) (b : ℕ) (p : Place) (c : ℕ) (rs : List (List ℕ)) → sep k ≡ true → kind_text k ≡ b ∷ [] → (c ≡ b → ⊥)
    → (ds : List ℕ) × (qs : List (List ℕ)) × (rs ≡ (c ∷ ds) ∷ qs) → BeginsOtherwise k (items_from p rs)
otherwise_by k b p c rs s t n (ds, qs, e) = rw e (λ h. n (marked k b c ds s t h))

otherwise : (k : Kind) (b : ℕ) (p : Place) (text : List ℕ) → sep k ≡ true → kind_text k ≡ b ∷ [] → StartsOtherwise b text → BeginsOtherwise k (items_from p (runs text))
otherwise k b p [] s t n = tt
otherwise k b p (c ∷ cs) s t n = otherwise_by k b p c (before c (runs cs)) s t n (begins_before c (runs cs))

-- what is taken by its byte is taken by its kind
takes :
    (k : Kind) (b : ℕ) (text rest : List ℕ) (p q : Place) (r : Bool) → sep k ≡ true → kind_text k ≡ b ∷ [] → kind_of (b ∷ []) ≡ k
    → MatchBool r ((runs text ≡ (b ∷ []) ∷ runs rest) × (q ≡ past p (b ∷ []))) (StartsOtherwise b text × ((rest ≡ text) × (q ≡ p)))
    → TakesIf k (items_from p (runs text)) (end_from p (runs text)) r (items_from q (runs rest))
takes k b text rest p q true s t e h =
    ap (items_from p) h.0 ∙ (rw (sym (begins p (runs text)), e, h.1) refl)
takes k b text rest p q false s t e h = (otherwise k b p text s t h.0, rw (h.1.0, h.1.1) refl)

pub takes_as :
    (j k : Kind) (b : ℕ) (text rest : List ℕ) (p q : Place) (r : Bool) → j ≡ k → sep j ≡ true → kind_text j ≡ b ∷ [] → kind_of (b ∷ []) ≡ j
    → MatchBool r ((runs text ≡ (b ∷ []) ∷ runs rest) × (q ≡ past p (b ∷ []))) (StartsOtherwise b text × ((rest ≡ text) × (q ≡ p)))
    → TakesIf k (items_from p (runs text)) (end_from p (runs text)) r (items_from q (runs rest))
takes_as j k b text rest p q r is s t e h =
    subst (λ x. TakesIf x (items_from p (runs text)) (end_from p (runs text)) r (items_from q (runs rest))) is (takes j b text rest p q r s t e h)

pub not_first : (k : Kind) (items : List Item) (it : Item) → Some it ≡ first_item items → (it.kind ≡ k → ⊥) → BeginsOtherwise k items
not_first k [] it e n = tt
not_first k (x ∷ xs) it e n = λ h. n (let same : it ≡ x = cc in ap (λ (i : Item). i.kind) same ∙ h)
