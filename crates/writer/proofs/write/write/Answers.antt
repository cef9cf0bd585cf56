use Rattle.writer.proofs.NodeTexts.{read_again}
use Rattle.writer.proofs.write.write.Goals as goal

pub returns-then-out-counter-clause-law : goal.returns-then-out-counter-clause-law
returns-then-out-counter-clause-law c = read_again c.args.table.now

pub returns-clause-law : goal.returns-clause-law
returns-clause-law c = read_again c.args.table.now
