use Rattle.std.proofs.Common.{rules, sym, subst}
use Rattle.recordtext.specs.Reads.{Front}
use Rattle.recordtext.specs.Texts.{Small}
use Rattle.recordtext.proofs.StateLines.{behind, line_read, small_push}
use Rattle.recordtext.proofs.reading.read.Goals as goal

pub loop-rest-preserved : goal.loop-rest-preserved
loop-rest-preserved c =
    let inv = c.loop-rest.invariant in
    let rest = c.loop-rest.rest.now in
    let line = subst (Front rest) c.in_ok-line.ensures.ok_part c.first_state.ensures in
    let stamps = c.in_ok-push.ensures.items in
    let rows = c.in_ok-push-2.ensures.items in
    record {
      paired = search rules;
      small = (subst Small (sym stamps) (small_push _ _ line.3.0 inv.small.0), subst Small (sym rows) (small_push _ _ line.3.1 inv.small.1));
      before = rw (stamps, rows) (line_read _ rest _ _ _ _ _ _ inv.paired inv.before (behind rest c.in_ok-line.line.length) line.0);
    }
