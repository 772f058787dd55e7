use Rattle.std.proofs.Common.{take, AllPairs, flat_map}
use Rattle.plan_rules.proofs.differing.differ.Given as goal

-- the items of the domains so far differ
abbrev pub invariant-loop-i : goal.invariant-loop-i
invariant-loop-i g l = AllPairs g.T.Differs.differs_from (flat_map g.T.PartOfDomain.list (take l.i l.domains))
