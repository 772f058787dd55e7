use Rattle.std.proofs.Common.{◌≡◌, drop}
use Rattle.domain_core.specs.Devices.{link_at_port}
use Rattle.domain_core.proofs.table.link_at_port.Given as goal

abbrev pub invariant-loop-number : goal.invariant-loop-number
invariant-loop-number l = link_at_port 0 l.nodes l.port ≡ link_at_port l.number (drop l.number l.nodes) l.port
