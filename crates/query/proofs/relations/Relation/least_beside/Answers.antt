use Rattle.std.proofs.Common.{◌≡◌, is_some, ap, ◌∙◌, rules}
use Rattle.query.specs.Queries.{has_key_of, level_with}
use Rattle.query.specs.Walks.{level_beside}
use Rattle.query.proofs.Keys.{at_same_key, beside_key, beside_level, ranged}
use Rattle.query.proofs.relations.Relation.least_beside.Goals as goal

pub returns : goal.returns
returns g c =
    let r = c.self.inside in
    let m = g.S.Store.meaning r.store.now in
    let lawful = g.met.S.Store.lawful r.store.now in
    let x = c.args.fact in
    let kept : c.filter.result ≡ at_same_key x c.walk.result = search rules in
    let found = kept ∙ ap (at_same_key x) c.walk.ensures in
    record {
      key = ap is_some found ∙ beside_key r.number x m.facts lawful.rises (ranged lawful) ∙ ap (has_key_of x) c.self.view_is;
      level = ap (level_beside x) found ∙ beside_level r.number x m.facts lawful.rises (ranged lawful) ∙ ap (level_with x) c.self.view_is;
    }
