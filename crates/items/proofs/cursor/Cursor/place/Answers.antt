use Rattle.items.specs.Items.{runs}
use Rattle.items.proofs.Cuts.{begins}
use Rattle.items.proofs.cursor.Cursor.place.Goals as goal

pub returns : goal.returns
returns c = begins c.args.self.now.place (runs c.args.self.now.rest.now)
