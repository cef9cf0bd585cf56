use Rattle.items.proofs.Runs.{lone_run}
use Rattle.items.proofs.cursor.Cursor.take_byte.Goals as goal

pub returns : goal.returns
returns c = (lone_run c.args.byte _ c.args.self.now.rest.now c.requires c.in-len1-up.len_at_least c.if-first-byte.false, c.after.ensures)
