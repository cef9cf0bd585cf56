use Rattle.history.proofs.Worked.{worked_facts}
use Rattle.history.proofs.worked_facts.Goals as goal

pub returns : goal.returns
returns c = worked_facts
