use Rattle.std.proofs.Common.{[], ◌∷◌, take, All}
use Rattle.plan_rules.specs.Separate.{Rule}
use Rattle.plan_rules.proofs.smallest.each_keeps.Given as goal

-- the domains so far keep the rule
abbrev pub invariant-loop-domain : goal.invariant-loop-domain
invariant-loop-domain l = All (λ d. Rule l.rule (d ∷ [])) (take l.domain-index l.domains)
