use Rattle.std.proofs.Common.{sym, subst, rules}
use Rattle.session.specs.View.{view}
use Rattle.session.specs.Law.{Law}
use Rattle.session.proofs.Laws.{lawful}
use Rattle.session.proofs.session.Session.verdict.Goals as goal

pub returns-clause-answer : goal.returns-clause-answer
returns-clause-answer g c = search rules

pub returns-clause-law : goal.returns-clause-law
returns-clause-law g c =
    let v = view g.S.Store.meaning c.args.self.now in
    subst (Law v c.args.rule c.args.state) (sym (returns-clause-answer g c).answer) (lawful v c.args.rule c.args.state)
