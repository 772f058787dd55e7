use Rattle.std.proofs.Common.{take, All}
use Rattle.plan_rules.proofs.differing.are_new.Given as goal

-- the items so far are new
abbrev pub invariant-loop-item : goal.invariant-loop-item
invariant-loop-item g l = All (λ y. All (λ x. g.T.Differs.differs_from x y) l.earlier) (take l.item-index l.items)
