use Rattle.domain_core.proofs.CopiedEntries.{all_behind}
use Rattle.domain_core.proofs.copying.Mark.start.Goals as goal

pub returns-clause-all : goal.returns-clause-all
returns-clause-all c = all_behind
