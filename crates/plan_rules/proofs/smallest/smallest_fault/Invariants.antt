use Rattle.std.proofs.Common.{◌+◌}
use Rattle.plan_rules.specs.Separate.{KeepsBelow}
use Rattle.plan_rules.proofs.smallest.smallest_fault.Given as goal

-- the rules of smaller numbers are kept
abbrev pub invariant-loop-rule : goal.invariant-loop-rule
invariant-loop-rule l = KeepsBelow l.domains (l.rule-index + 3)
