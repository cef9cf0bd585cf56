-- The numbers of the judge's refusals.
use Rattle.std.specs.Prelude.{ℕ}
use Rattle.rules.specs.declared.refusal.JudgeFault.{JudgeFault}
use Rattle.rules.specs.declared.refusal.JudgeFault.TheVariants.{Record, Stamp, UnknownRule, NoSuchState}

abbrev pub judge_number : JudgeFault → ℕ
judge_number Record = 21
judge_number Stamp = 22
judge_number UnknownRule = 25
judge_number NoSuchState = 26
