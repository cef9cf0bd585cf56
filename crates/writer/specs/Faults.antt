-- The numbers of the writer's refusals.
use Rattle.std.specs.Prelude.{ℕ}
use Rattle.writer.specs.declared.fault.WriteFault.{WriteFault}
use Rattle.writer.specs.declared.fault.WriteFault.TheVariants.{TooShort}

abbrev pub fault_number : WriteFault → ℕ
fault_number TooShort = 27
