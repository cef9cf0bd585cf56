use Rattle.session.specs.View.{view}
use Rattle.session.proofs.Books.{holds_current}
use Rattle.session.proofs.session.Session.close.Goals as goal

pub returns-clause-book : goal.returns-clause-book
returns-clause-book g c = holds_current (view g.S.Store.meaning c.args.self)
