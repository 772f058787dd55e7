use Rattle.farm_core.proofs.Wholes.{AreMeantBelow}
use Rattle.farm_core.proofs.farm.PlainFarm.whole_law.Given as goal

-- the domains so far are their journals
abbrev pub invariant-loop-domain : goal.invariant-loop-domain
invariant-loop-domain l = AreMeantBelow l.self l.domain-index
