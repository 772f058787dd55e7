use Rattle.std.proofs.Common.{◌≡◌, map, take}
use Rattle.plan_rules.specs.Part.{node_part}
use Rattle.plan_rules.proofs.parts.node_parts.Given as goal

abbrev pub invariant-loop-node : goal.invariant-loop-node
invariant-loop-node l = l.parts.items ≡ map node_part (take l.node-index l.nodes)
