use Rattle.std.proofs.Common.{◌≡◌, ◌++◌, length, vec_items}
use Rattle.recordtext.specs.Texts.{record_text, Small}
use Rattle.recordtext.proofs.reading.read.Given as goal

abbrev pub invariant-loop-rest : goal.invariant-loop-rest
invariant-loop-rest l =
    record {
      paired : length (vec_items l.stamps) ≡ length (vec_items l.rows);
      small : Small (vec_items l.stamps) × Small (vec_items l.rows);
      before : l.text ≡ record_text (vec_items l.stamps) (vec_items l.rows) ++ l.rest;
    }

abbrev pub decreases-loop-rest : goal.decreases-loop-rest
decreases-loop-rest l = length l.rest
