use Rattle.std.proofs.Common.{◌≡◌, replicate}
use Rattle.domain_core.specs.Hosts.{opened_host}
use Rattle.domain_core.proofs.devices.open_hosts.Given as goal

abbrev pub invariant-loop-number : goal.invariant-loop-number
invariant-loop-number l = l.hosts.items ≡ replicate l._number opened_host
