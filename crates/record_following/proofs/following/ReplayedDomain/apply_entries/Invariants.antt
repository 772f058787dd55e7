use Rattle.std.proofs.Common.{take}
use Rattle.record_following.specs.Following.{entry_calls, calls_before, MovesOn}
use Rattle.record_following.proofs.following.ReplayedDomain.apply_entries.Given as goal

-- the entries so far have led here
abbrev pub invariant-loop-entry : goal.invariant-loop-entry
invariant-loop-entry l =
    MovesOn l.fn.self (calls_before l.fn.most l.fn.self (entry_calls (take l.entry-index l.entries))) l.self
