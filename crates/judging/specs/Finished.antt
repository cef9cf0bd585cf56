-- The record that no refusal fits.
use Rattle.std.specs.Prelude.{ℕ, List, Ok, Err, Result}
use Rattle.rules.specs.declared.refusal.JudgeFault.{JudgeFault}
use Rattle.judging.specs.declared.finished.Finished.{Finished}

-- its stamps and rows
abbrev pub parts_of : Finished → List ℕ × List ℕ
parts_of r = (r.stamps.now, r.rows.now)

abbrev pub checked_parts : Result Finished JudgeFault → Result (List ℕ × List ℕ) JudgeFault
checked_parts (Ok r) = Ok (parts_of r)
checked_parts (Err fault) = Err fault
