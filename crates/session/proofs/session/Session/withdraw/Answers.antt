use Rattle.std.proofs.Common.{false, Some, rules}
use Rattle.session.specs.View.{view, with_change}
use Rattle.session.proofs.Books.{brings_back}
use Rattle.session.proofs.session.Session.withdraw.Goals as goal

pub returns-clause-answer : goal.returns-clause-answer
returns-clause-answer g c = search rules

pub returns-clause-book : goal.returns-clause-book
returns-clause-book g c =
    let m = g.S.Store.meaning in
    let u = view m c.undo_all.new.self in
    brings_back (view m c.args.self.now) (with_change u.begins false u.undo u) c.args.slip (Some c.len-count.result) (returns-clause-answer g c)
