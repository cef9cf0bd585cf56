use Rattle.std.proofs.Common.{◌∙◌}
use Rattle.items.proofs.Cuts.{none_left}
use Rattle.items.proofs.cursor.Cursor.is_empty.Goals as goal

pub returns : goal.returns
returns c = c.is_empty.ensures ∙ none_left c.args.self.now.place c.args.self.now.rest.now
