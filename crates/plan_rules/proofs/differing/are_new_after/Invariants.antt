use Rattle.std.proofs.Common.{take, All}
use Rattle.plan_rules.proofs.differing.are_new_after.Given as goal

-- the items are new after the domains so far
abbrev pub invariant-loop-domain : goal.invariant-loop-domain
invariant-loop-domain g l =
    All (λ d. All (λ y. All (λ x. g.T.Differs.differs_from x y) (g.T.PartOfDomain.list d)) l.items)
    (take l.domain-index l.earlier)
