use Rattle.store.proofs.Theorems.{drop_result}
use Rattle.store.proofs.by_members.drop_fact.Goals as goal

pub returns : goal.returns
returns g c =
    let s = c.args.store.now in
    drop_result (g.S.Store.meaning s) _ c.args.fact c.drop_fact.result (g.met.S.Store.lawful s) c.drop_fact.ensures.answer c.drop_fact.ensures.after
