use Rattle.domain_core.specs.Ticket.{Bursts}
use Rattle.domain_core.proofs.ticket.Ticket.burst_to_start.Given as goal

-- it has done a burst of as many Steps as it tried
abbrev pub invariant-loop-tried : goal.invariant-loop-tried
invariant-loop-tried l = Bursts l.tried l.fn.self l.self
