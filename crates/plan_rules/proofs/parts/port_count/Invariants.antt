use Rattle.std.proofs.Common.{◌≡◌, ◌≤◌, ◌*◌, pos, take}
use Rattle.plan_rules.specs.Separate.{port_count}
use Rattle.plan_rules.proofs.parts.port_count.Given as goal

abbrev pub invariant-loop-range : goal.invariant-loop-range
invariant-loop-range l = (pos l.count ≡ port_count (take l.range-index l.ranges)) × (l.count ≤ 32 * l.range-index)
