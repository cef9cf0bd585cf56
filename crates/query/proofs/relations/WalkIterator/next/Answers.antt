use Rattle.std.proofs.Common.{◌∷◌, length, sym, ap, ◌∙◌, rules}
use Rattle.query.specs.Walks.{ahead}
use Rattle.store.proofs.Walks.{ahead_none, walk_next}
use Rattle.query.proofs.relations.WalkIterator.next.Goals as goal

pub returns-in_err-fact-clause-steps : goal.returns-in_err-fact-clause-steps
returns-in_err-fact-clause-steps g c =
    let none = sym c.self.view_is ∙ ahead_none c.self.inside.from (g.S.Store.meaning c.self.inside.store.now).facts (sym c.in_err-fact.ensures) in
    rw c.from_residual.ensures (none, none)

pub returns-clause-steps : goal.returns-clause-steps
returns-clause-steps g c =
    let m = g.S.Store.meaning c.self.inside.store.now in
    let fact = c.in_ok-fact.fact in
    sym c.self.view_is ∙ walk_next m (g.met.S.Store.lawful c.self.inside.store.now) c.self.inside.from fact (sym c.in_ok-fact.ensures)
    ∙ ap (λ s. fact ∷ ahead s m.facts) (sym c.past-self-inside.ensures)

pub returns-clause-goes : goal.returns-clause-goes
returns-clause-goes g c =
    let shorter = ap length (returns-clause-steps g c) in
    search rules
