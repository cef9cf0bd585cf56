use Rattle.std.proofs.Common.{◌≡◌, drop}
use Rattle.items.specs.Items.{read_on}
use Rattle.items.proofs.number.value.Given as goal

abbrev pub invariant-loop-d : goal.invariant-loop-d
invariant-loop-d l = read_on 0 l.digits ≡ read_on l.n (drop l.d-index l.digits)
