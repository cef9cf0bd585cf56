use Rattle.std.proofs.Common.{vec_items, vec_len, arith, rules}
use Rattle.rules.proofs.Roots.{root_below}
use Rattle.rules.proofs.table.Table.root.Goals as goal

pub returns : goal.returns
returns c =
    let t = c.args.self.now in
    record {
      value = search rules;
      within = λ m e. omega (arith, root_below c.args.number (vec_len t.nodes) (vec_items t.rules) m t.roots e, t.nodes.ok.0);
    }
