use Rattle.std.proofs.Common.{ℤ, pos, nat_abs, ap, ◌∙◌, w32, SFits, rules}
use Rattle.std.proofs.lemmas.Int.{to_z-of_z}
use Rattle.std.specs.Int.{int_max}
use Rattle.gridstore.specs.Grids.{low_at_once, low_at_value}
use Rattle.gridstore.proofs.low_bit.Goals as goal

pub returns-then-key-start : goal.returns-then-key-start
returns-then-key-start c = low_at_once c.args.start c.args.key c.if-key-start.true

pub returns : goal.returns
returns c =
    let fits : SFits w32 c.args.start.value = search rules in
    let more : SFits w32 c.max.result = search rules in
    rw c.then_some.ensures (low_at_value c.args.start c.args.key c.unsigned_abs-low.result c.requires c.if-key-start.false
    (c.unsigned_abs-low.ensures.value ∙ ap nat_abs (to_z-of_z w32 _ more ∙ c.max.ensures.value ∙ ap (λ (z : ℤ). int_max z (pos 0)) (to_z-of_z w32 _ fits))))
