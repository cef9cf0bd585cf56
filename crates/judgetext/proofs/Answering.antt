-- What is told of a record follows what the judge answers.
use Rattle.std.proofs.Common.{◌≡◌, ℕ, List, [], ◌∷◌, Ok, Err, ap}
use Rattle.rules.specs.declared.refusal.JudgeFault.{JudgeFault}
use Rattle.rules.specs.Refusals.{judge_number}
use Rattle.judging.specs.Answers.{answered}
use Rattle.judging.specs.Judged.{Case}
use Rattle.recordtext.specs.Texts.{refused_line}
use Rattle.judgetext.specs.Outputs.{told}

pub told_lines : (fs : List JudgeFault) (x c : Case) (lines : Case → List ℕ) → Ok c ≡ answered fs x → lines c ≡ told fs (lines x)
told_lines [] x c lines e = let same : c ≡ x = cc in ap lines same
told_lines (f ∷ fs) x c lines e = cc

pub told_refusal : (fs : List JudgeFault) (x : Case) (fault : JudgeFault) (text : List ℕ) → Err fault ≡ answered fs x → refused_line (judge_number fault) ≡ told fs text
told_refusal [] x fault text e = cc
told_refusal (f ∷ fs) x fault text e = let same : fault ≡ f = cc in ap (λ g. refused_line (judge_number g)) same
