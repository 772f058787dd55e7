use Rattle.std.proofs.Common.{◌≡◌, length}
use Rattle.bootstrap.specs.Opening.{opened_node}
use Rattle.domain_core.specs.Hosts.{opened_host}
use Rattle.domain_core.proofs.Lists.{changed_to}
use Rattle.domain_core.proofs.devices.Devices.clear.Given as goal

abbrev pub invariant-loop-node : goal.invariant-loop-node
invariant-loop-node l = l.node-items ≡ changed_to (λ n. opened_node (length n.memory)) l.node-index l.initial.node-items

abbrev pub invariant-loop-host : goal.invariant-loop-host
invariant-loop-host l = l.host-items ≡ changed_to (λ h. opened_host) l.host-index l.initial.host-items
