use Rattle.std.proofs.Common.{◌≡◌, map, take}
use Rattle.plan_rules.specs.Part.{part_of}
use Rattle.plan_rules.proofs.parts.parts_of.Given as goal

abbrev pub invariant-loop-domain : goal.invariant-loop-domain
invariant-loop-domain l = l.parts.items ≡ map part_of (take l.domain-index l.domains)
