use Rattle.std.proofs.Common.{take, All}
use Rattle.plan_rules.proofs.differing.is_new.Given as goal

-- the item differs from the elements so far
abbrev pub invariant-loop-x : goal.invariant-loop-x
invariant-loop-x g l = All (λ x. g.T.Differs.differs_from x l.item) (take l.x-index l.earlier)
