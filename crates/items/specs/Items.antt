-- How a text is cut into items.
use Rattle.std.specs.Prelude.{ℕ, ◌+◌, ◌-◌, ◌*◌, Bool, true, false, cond, ◌&&◌, ◌||◌, List, [], ◌∷◌, length, ℤ, pos, neg_ℤ, Some, None, codes, Option, ◌==◌, nat_le}
use Rattle.items.specs.declared.item.Place.{Place}
use Rattle.std.specs.Str.{bytes_eq}
use Rattle.items.specs.declared.item.Form.{Form}
use Rattle.items.specs.declared.item.Form.TheVariants as form
use Rattle.items.specs.declared.item.Kind.{Kind}
use Rattle.items.specs.declared.item.Kind.TheVariants as kind
use Rattle.items.specs.declared.item.Item.{Item}
use Rattle.items.specs.declared.cut.Class.{Class}
use Rattle.items.specs.declared.cut.Class.TheVariants as class

abbrev pub between : ℕ → ℕ → ℕ → Bool
between low high b = nat_le low b && nat_le b high

abbrev pub letter : ℕ → Bool
letter b = between 97 122 b

abbrev pub digit : ℕ → Bool
digit b = between 48 57 b || b == 45

abbrev pub class_of : ℕ → Class
class_of b =
    cond (b == 40) class.Open (cond (b == 41) class.Close (cond (b == 32) class.Space (cond (b == 10) class.Newline
    (cond (letter b) class.Letter (cond (digit b) class.Digit class.Other)))))

abbrev pub is_letter : Class → Bool
is_letter class.Open = false
is_letter class.Close = false
is_letter class.Space = false
is_letter class.Newline = false
is_letter class.Letter = true
is_letter class.Digit = false
is_letter class.Other = false

abbrev pub is_digit : Class → Bool
is_digit class.Open = false
is_digit class.Close = false
is_digit class.Space = false
is_digit class.Newline = false
is_digit class.Letter = false
is_digit class.Digit = true
is_digit class.Other = false

-- a byte goes on with a run of this class
abbrev pub goes_on : Class → ℕ → Bool
goes_on k b = (is_letter k && letter b) || (is_digit k && digit b)

-- letters run together, and so do digits and minus signs
abbrev pub joins : ℕ → ℕ → Bool
joins b c = (is_letter (class_of b) && is_letter (class_of c)) || (is_digit (class_of b) && is_digit (class_of c))

-- a byte before the runs of what follows it
abbrev pub before : ℕ → List (List ℕ) → List (List ℕ)
before b [] = (b ∷ []) ∷ []
before b ([] ∷ rs) = (b ∷ []) ∷ rs
before b ((c ∷ cs) ∷ rs) = cond (joins b c) ((b ∷ c ∷ cs) ∷ rs) ((b ∷ []) ∷ (c ∷ cs) ∷ rs)

abbrev pub runs : List ℕ → List (List ℕ)
runs [] = []
runs (b ∷ bs) = before b (runs bs)

abbrev pub first : List ℕ → ℕ
first [] = 0
first (b ∷ _) = b

-- the place after a run
abbrev pub past : Place → List ℕ → Place
past p run = cond (first run == 10) (record { line = p.line + 1; byte = 1 }) (record { line = p.line; byte = p.byte + length run })

abbrev pub query_words : List (List ℕ × Form)
query_words = (codes "true", form.True) ∷ (codes "some", form.Some) ∷ (codes "every", form.Every) ∷ (codes "fact", form.Fact) ∷ (codes "number", form.Number) ∷ (codes "refer", form.Refer) ∷ (codes "level", form.Level) ∷ []

abbrev pub connective_words : List (List ℕ × Form)
connective_words = (codes "not", form.Not) ∷ (codes "and", form.And) ∷ (codes "or", form.Or) ∷ (codes "implies", form.Implies) ∷ []

abbrev pub future_words : List (List ℕ × Form)
future_words = (codes "next", form.Next) ∷ (codes "allnext", form.AllNext) ∷ (codes "sometime", form.Sometime) ∷ (codes "always", form.Always) ∷ (codes "until", form.Until) ∷ []

abbrev pub past_words : List (List ℕ × Form)
past_words = (codes "previous", form.Previous) ∷ (codes "once", form.Once) ∷ (codes "sofar", form.SoFar) ∷ (codes "since", form.Since) ∷ []

abbrev pub look_up : List ℕ → List (List ℕ × Form) → Option Form
look_up w [] = None
look_up w (p ∷ ps) = cond (bytes_eq w p.0) (Some p.1) (look_up w ps)

abbrev pub or_else : Option Form → Option Form → Option Form
or_else (Some f) o = Some f
or_else None o = o

abbrev pub form_word : List ℕ → Option Form
form_word w = or_else (look_up w query_words) (or_else (look_up w connective_words) (or_else (look_up w future_words) (look_up w past_words)))

abbrev pub form_kind : Option Form → Kind
form_kind (Some f) = kind.Form f
form_kind None = kind.Other

abbrev pub word_kind : List ℕ → Kind
word_kind w = cond (bytes_eq w (codes "rule")) kind.Rule (cond (bytes_eq w (codes "end")) kind.End (form_kind (form_word w)))

-- a digit after a number that is not yet past every range
abbrev pub digit_after : ℕ → ℕ → Bool
digit_after n d = between 48 57 d && nat_le n 100000000

-- the number that digits spell after n
abbrev pub read_on : ℕ → List ℕ → Option ℕ
read_on n [] = Some n
read_on n (d ∷ ds) = cond (digit_after n d) (read_on (n * 10 + (d - 48)) ds) None

abbrev pub zero_alone : List ℕ → Option ℕ
zero_alone [] = Some 0
zero_alone (d ∷ ds) = None

-- digits with no leading zero
abbrev pub natural : List ℕ → Option ℕ
natural [] = None
natural (d ∷ ds) = cond (d == 48) (zero_alone ds) (read_on 0 (d ∷ ds))

abbrev pub plain : Option ℕ → Option ℤ
plain None = None
plain (Some n) = Some (pos n)

-- zero has no minus sign
abbrev pub minus : Option ℕ → Option ℤ
minus None = None
minus (Some n) = cond (n == 0) None (Some (neg_ℤ (pos n)))

abbrev pub number_of : List ℕ → Option ℤ
number_of [] = None
number_of (b ∷ bs) = cond (b == 45) (minus (natural bs)) (plain (natural (b ∷ bs)))

-- the kind of a run
abbrev pub spelt : Option ℤ → Kind
spelt (Some z) = kind.Number z
spelt None = kind.Misspelt

abbrev pub by_class : Class → List ℕ → Kind
by_class class.Open run = kind.Open
by_class class.Close run = kind.Close
by_class class.Space run = kind.Space
by_class class.Newline run = kind.Newline
by_class class.Letter run = word_kind run
by_class class.Digit run = spelt (number_of run)
by_class class.Other run = kind.Other

abbrev pub kind_of : List ℕ → Kind
kind_of run = by_class (class_of (first run)) run

abbrev pub item_of : List ℕ → Place → Item
item_of run p = record { kind = kind_of run; place = p }

-- the number that an item is, and 0 for every other item
abbrev pub kind_number : Kind → ℤ
kind_number kind.Open = pos 0
kind_number kind.Close = pos 0
kind_number kind.Space = pos 0
kind_number kind.Newline = pos 0
kind_number kind.Rule = pos 0
kind_number kind.End = pos 0
kind_number (kind.Form f) = pos 0
kind_number (kind.Number z) = z
kind_number kind.Misspelt = pos 0
kind_number kind.Other = pos 0

abbrev pub item_number : Item → ℤ
item_number it = kind_number it.kind

-- the runs as items, from a place on, and the place after them
abbrev pub items_from : Place → List (List ℕ) → List Item
items_from p [] = []
items_from p (run ∷ more) = item_of run p ∷ items_from (past p run) more

abbrev pub end_from : Place → List (List ℕ) → Place
end_from p [] = p
end_from p (run ∷ more) = end_from (past p run) more

abbrev pub start : Place
start = record { line = 1; byte = 1 }

abbrev pub items : List ℕ → List Item
items text = items_from start (runs text)

abbrev pub end_of : List ℕ → Place
end_of text = end_from start (runs text)
