use Rattle.std.proofs.Common.{◌≡◌, pos, ◌≤ℤ◌, ◌+ℤ◌, take}
use Rattle.plan_rules.specs.Separate.{port_count}
use Rattle.plan_rules.proofs.ports.is_virtual_port.Given as goal

-- the port lies past the ranges so far, by what is left
abbrev pub invariant-loop-range : goal.invariant-loop-range
invariant-loop-range l = (pos 0 ≤ℤ l.left) × (l.port ≡ port_count (take l.range-index l.ranges) +ℤ l.left)
