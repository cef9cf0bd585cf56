use Rattle.std.proofs.Common.{arith}
use Rattle.items.proofs.Runs.{first}
use Rattle.items.proofs.cut.run_len.Goals as goal

pub overflow_add-result : goal.overflow_add-result
overflow_add-result c =
    let f = first c.args.class c.args.text.now c.going_on.result c.requires.some c.requires.class c.going_on.ensures in
    omega (arith, f.within)

pub returns : goal.returns
returns c =
    let f = first c.args.class c.args.text.now c.going_on.result c.requires.some c.requires.class c.going_on.ensures in
    record { some = omega arith; within = f.within; front = f.front }
