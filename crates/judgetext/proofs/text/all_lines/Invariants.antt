use Rattle.std.proofs.Common.{◌≡◌, ◌++◌, drop, string_bytes}
use Rattle.judging.specs.Judged.{case_of}
use Rattle.judgetext.specs.Outputs.{lines_at, lines_upto}
use Rattle.judgetext.proofs.text.all_lines.Given as goal

abbrev pub invariant-loop-state : goal.invariant-loop-state
invariant-loop-state l = let c = case_of l.judged in string_bytes l.out ≡ lines_upto c.table c.stamps c.rows l.state

-- what is written, and what is still to write
abbrev pub invariant-loop-rule : goal.invariant-loop-rule
invariant-loop-rule l =
    let c = case_of l.judged in
    string_bytes l.out ++ lines_at c.table c.stamps c.rows l.state (drop l.rule-index l.rule-items)
    ≡ lines_upto c.table c.stamps c.rows l.state ++ lines_at c.table c.stamps c.rows l.state l.rule-items
