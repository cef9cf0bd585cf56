use Rattle.std.proofs.Common.{rules, ap, ◌∙◌}
use Rattle.std.specs.List.{remove}
use Rattle.liststore.specs.PlacesLemmas.{turned_out}
use Rattle.liststore.proofs.remove.Goals as goal

pub returns-clause-items : goal.returns-clause-items
returns-clause-items c =
    c.pop.ensures.rest
    ∙ turned_out c.deref_mut.result.now c.rotate_left.new.self _ _ c.args.at _ (search rules) (search rules) c.rotate_left.ensures.after
    ∙ ap (λ xs. remove xs c.args.at) c.deref_mut.ensures.value
