use Rattle.std.proofs.Common.{take}
use Rattle.farm_service.specs.Restarts.{AllListed}
use Rattle.farm_service.proofs.restarting.all_listed.Given as goal

abbrev pub invariant-loop-session : goal.invariant-loop-session
invariant-loop-session l = AllListed l.journal.entries (take l.session-index l.sessions)
