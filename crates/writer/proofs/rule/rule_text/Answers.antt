use Rattle.std.proofs.Common.{◌-◌, ◌^◌, ◌<◌, length, drop, vec_len, rules}
use Rattle.writer.proofs.Places.{filled}
use Rattle.writer.proofs.NodeTexts.{rule_root, text_of_rule}
use Rattle.writer.proofs.rule.rule_text.Goals as goal

pub put_alone-length-requires : goal.put_alone-length-requires
put_alone-length-requires c = rule_root c.args.table.now c.rules.result.now _ (record { number = 0; root = 0 }) c.in-Some.rule.now c.rules.ensures.value c.in-Some.ensures.lookup.3.0 (c.in-Some.ensures.lookup.3.1 _)

pub put_alone-requires : goal.put_alone-requires
put_alone-requires c = rule_root c.args.table.now c.rules.result.now _ (record { number = 0; root = 0 }) c.in-Some.rule.now c.rules.ensures.value c.in-Some.ensures.lookup.3.0 (c.in-Some.ensures.lookup.3.1 _)

pub returns : goal.returns
returns c =
    let same = text_of_rule c.args.table.now c.rules.result.now _ (record { number = 0; root = 0 }) c.in-Some.rule.now c.rules.ensures.value c.in-Some.ensures.lookup.3.0 (c.in-Some.ensures.lookup.3.1 _) in
    let v = c.in_ok-text.text in
    let short : vec_len v < 2 ^ 64 - 1 = search rules in
    filled (drop (length c.put_alone.new.out) v.items) (vec_len v) c.put_alone-length.ensures c.in_ok-text.ensures.len c.as_mut_slice.ensures.len short c.put_alone.ensures same
