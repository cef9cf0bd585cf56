-- A node as its form, its numbers and its operands.
use Rattle.std.specs.Prelude.{ℕ, List, [], ◌∷◌, ℤ, pos, Some, None, Option}
use Rattle.items.specs.declared.item.Form.{Form}
use Rattle.items.specs.declared.item.Form.TheVariants as form
use Rattle.syntax.specs.declared.Window.{Window}
use Rattle.syntax.specs.declared.Query.{Query}
use Rattle.syntax.specs.declared.Query.TheVariants as query
use Rattle.syntax.specs.declared.Node.{Node}
use Rattle.syntax.specs.declared.Node.TheVariants as node

-- an argument: a number, or the word `end`, which is none
abbrev pub Arg : Type 0
Arg = Option ℤ

pub record Entry : Type 0 where
  pub word : Form
  pub args : List Arg
  pub operands : List ℕ

abbrev pub entry : Form → List Arg → List ℕ → Entry
entry w xs os = record { word = w; args = xs; operands = os }

abbrev pub whole : ℕ → Arg
whole n = Some (pos n)

abbrev pub end : Option ℕ → Arg
end (Some n) = whole n
end None = None

abbrev pub window : Window → List Arg
window w = whole w.low ∷ end w.high ∷ []

abbrev pub query_entry : Query → Entry
query_entry (query.Some r l h) = entry form.Some (whole r ∷ Some l ∷ Some h ∷ []) []
query_entry (query.Every r l h) = entry form.Every (whole r ∷ Some l ∷ Some h ∷ []) []
query_entry (query.Fact r k v) = entry form.Fact (whole r ∷ whole k ∷ Some v ∷ []) []
query_entry (query.Number r p q) = entry form.Number (whole r ∷ whole p ∷ whole q ∷ []) []
query_entry (query.Refer r s) = entry form.Refer (whole r ∷ whole s ∷ []) []
query_entry (query.Level r s) = entry form.Level (whole r ∷ whole s ∷ []) []

abbrev pub entry_of : Node → Entry
entry_of node.True = entry form.True [] []
entry_of (node.Query q) = query_entry q
entry_of (node.Not a) = entry form.Not [] (a ∷ [])
entry_of (node.And a b) = entry form.And [] (a ∷ b ∷ [])
entry_of (node.Or a b) = entry form.Or [] (a ∷ b ∷ [])
entry_of (node.Implies a b) = entry form.Implies [] (a ∷ b ∷ [])
entry_of (node.Next w a) = entry form.Next (window w) (a ∷ [])
entry_of (node.AllNext w a) = entry form.AllNext (window w) (a ∷ [])
entry_of (node.Sometime w a) = entry form.Sometime (window w) (a ∷ [])
entry_of (node.Always w a) = entry form.Always (window w) (a ∷ [])
entry_of (node.Until w a b) = entry form.Until (window w) (a ∷ b ∷ [])
entry_of (node.Previous w a) = entry form.Previous (window w) (a ∷ [])
entry_of (node.Once w a) = entry form.Once (window w) (a ∷ [])
entry_of (node.SoFar w a) = entry form.SoFar (window w) (a ∷ [])
entry_of (node.Since w a b) = entry form.Since (window w) (a ∷ b ∷ [])
