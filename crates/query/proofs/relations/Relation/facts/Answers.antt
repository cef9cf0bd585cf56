use Rattle.std.proofs.Common.{ap, ◌∙◌}
use Rattle.query.specs.Walks.{ahead}
use Rattle.store.proofs.Walks.{ahead_start}
use Rattle.query.proofs.Keys.{ranged}
use Rattle.query.proofs.relations.Relation.facts.Goals as goal

pub returns : goal.returns
returns g c =
    let r = c.self.inside in
    let facts = (g.S.Store.meaning r.store.now).facts in
    ap (λ s. ahead s facts) c.least_of.ensures ∙ ahead_start r.number facts (ranged (g.met.S.Store.lawful r.store.now)) ∙ c.self.view_is
