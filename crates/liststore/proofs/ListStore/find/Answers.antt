use Rattle.liststore.specs.PlacesLemmas.{searched}
use Rattle.liststore.proofs.ListStore.find.Goals as goal

pub returns : goal.returns
returns c =
    let s = c.args.self.now in
    searched c.args.fact s.facts.items c.binary_search.result s.ordered (rw c.deref.ensures.value at c.binary_search.ensures.bound)
    (rw c.deref.ensures.value at c.binary_search.ensures.position)
