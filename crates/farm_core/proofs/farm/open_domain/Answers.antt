use Rattle.farm_core.proofs.Opened.{opened_unused}
use Rattle.farm_core.proofs.farm.open_domain.Goals as goal

pub returns-clause-words : goal.returns-clause-words
returns-clause-words c =
    opened_unused c.open.result 32 c.new.result c.ranges-2.result c.new.ensures.row c.open.ensures.row
