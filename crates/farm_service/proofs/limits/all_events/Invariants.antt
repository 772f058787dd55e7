use Rattle.std.proofs.Common.{◌≡◌, take, length}
use Rattle.domain_core.specs.Journal.{expanded}
use Rattle.farm_service.proofs.limits.all_events.Given as goal

-- the events of the entries so far
abbrev pub invariant-loop-index : goal.invariant-loop-index
invariant-loop-index l = l.events ≡ length (expanded (take l.index l.journal.entries))
