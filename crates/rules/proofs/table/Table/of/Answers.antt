use Rattle.std.proofs.Common.{◌≡◌, true, map, length, vec_items, vec_len, sym, ◌∙◌, subst, arith}
use Rattle.std.proofs.lemmas.List.{length-map}
use Rattle.syntax.specs.Nodes.{rooted}
use Rattle.grammar.specs.Entries.{entry_of}
use Rattle.grammar.proofs.TableFacts.{few, short, roots, once, bounds, risen}
use Rattle.rules.proofs.Placed.{ordered}
use Rattle.rules.proofs.table.Table.of.Goals as goal

pub invariant_of-result : goal.invariant_of-result
invariant_of-result c =
    let xs = vec_items c.args.nodes in
    let es = map entry_of xs in
    let rs = vec_items c.args.rules in
    let h = c.requires.formed in
    let n : length es ≡ vec_len c.args.nodes = length-map xs entry_of ∙ sym c.args.nodes.ok.0 in
    record {
      few = omega (arith, few es rs h, n);
      short = omega (arith, short es rs h, c.args.rules.ok.0);
      ordered = ordered xs rs h;
      roots = subst (λ k. rooted k rs ≡ true) n (roots es rs h);
      once = once es rs h;
      bounds = bounds es rs h;
      risen = risen es rs h;
      formed = ∣ h ∣₁;
      wide = c.requires.wide;
      long = c.requires.long;
    }
