use Rattle.std.proofs.Common.{take, AllPairs}
use Rattle.plan_rules.proofs.differing.are_apart.Given as goal

-- the items so far differ
abbrev pub invariant-loop-i : goal.invariant-loop-i
invariant-loop-i g l = AllPairs g.T.Differs.differs_from (take l.i l.items)
