use Rattle.std.proofs.Common.{◌≡◌, map, take}
use Rattle.bootstrap.specs.Opening.{opened_node}
use Rattle.domain_core.proofs.devices.open_nodes.Given as goal

abbrev pub invariant-loop-part : goal.invariant-loop-part
invariant-loop-part l = l.nodes.items ≡ map (λ n. opened_node n.memory) (take l.part-index l.parts)
