use Rattle.std.proofs.Common.{sym, refl, ◌∙◌, rules}
use Rattle.items.proofs.Marks.{not_first}
use Rattle.items.proofs.cursor.Cursor.take_kind.Goals as goal

pub returns-then-ne-clause-item : goal.returns-then-ne-clause-item
returns-then-ne-clause-item c = (not_first c.args.kind _ c.in-Some.item (sym c.in-Some.is ∙ c.take.ensures.item) (search rules), refl)
