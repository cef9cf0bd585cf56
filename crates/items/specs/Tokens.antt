-- Items without their places, and their bytes.
use Rattle.std.specs.Prelude.{ℕ, List, [], ◌∷◌, ◌++◌, codes}
use Rattle.std.specs.Fmt.{signed_decimal}
use Rattle.items.specs.declared.item.Form.{Form}
use Rattle.items.specs.declared.item.Form.TheVariants as form
use Rattle.items.specs.declared.item.Kind.{Kind}
use Rattle.items.specs.declared.item.Kind.TheVariants as kind
use Rattle.items.specs.declared.item.Item.{Item}

-- items without their places
abbrev pub tokens : List Item → List Kind
tokens [] = []
tokens (it ∷ items) = it.kind ∷ tokens items

abbrev pub word_text : Form → List ℕ
word_text form.True = codes "true"
word_text form.Some = codes "some"
word_text form.Every = codes "every"
word_text form.Fact = codes "fact"
word_text form.Number = codes "number"
word_text form.Refer = codes "refer"
word_text form.Level = codes "level"
word_text form.Not = codes "not"
word_text form.And = codes "and"
word_text form.Or = codes "or"
word_text form.Implies = codes "implies"
word_text form.Next = codes "next"
word_text form.AllNext = codes "allnext"
word_text form.Sometime = codes "sometime"
word_text form.Always = codes "always"
word_text form.Until = codes "until"
word_text form.Previous = codes "previous"
word_text form.Once = codes "once"
word_text form.SoFar = codes "sofar"
word_text form.Since = codes "since"

-- the last two have no text of their own: no rule has them
abbrev pub kind_text : Kind → List ℕ
kind_text kind.Open = codes "("
kind_text kind.Close = codes ")"
kind_text kind.Space = codes " "
kind_text kind.Newline = 10 ∷ []
kind_text kind.Rule = codes "rule"
kind_text kind.End = codes "end"
kind_text (kind.Form f) = word_text f
kind_text (kind.Number z) = signed_decimal z
kind_text kind.Misspelt = []
kind_text kind.Other = []

abbrev pub spell : List Kind → List ℕ
spell [] = []
spell (k ∷ ks) = kind_text k ++ spell ks
