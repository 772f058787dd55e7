use Rattle.std.proofs.Common.{◌≡◌, drop}
use Rattle.domain_core.specs.Devices.{host_at_port}
use Rattle.domain_core.proofs.table.host_at_port.Given as goal

abbrev pub invariant-loop-number : goal.invariant-loop-number
invariant-loop-number l = host_at_port 0 l.hosts l.port ≡ host_at_port l.number (drop l.number l.hosts) l.port
