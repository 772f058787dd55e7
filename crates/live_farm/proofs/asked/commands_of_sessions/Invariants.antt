use Rattle.std.proofs.Common.{◌≡◌, take}
use Rattle.record_keeping.specs.Counts.{saturated}
use Rattle.live_farm.specs.Asking.{commands_of_sessions}
use Rattle.live_farm.proofs.asked.commands_of_sessions.Given as goal

-- the lists of the sessions so far are counted
abbrev pub invariant-loop-session : goal.invariant-loop-session
invariant-loop-session l = l.commands ≡ saturated (commands_of_sessions (take l.session-index l.sessions))
