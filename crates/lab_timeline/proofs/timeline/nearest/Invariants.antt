use Rattle.std.proofs.Common.{◌≤◌}
use Rattle.lab_timeline.specs.Advance.{IsOfKept}
use Rattle.lab_timeline.proofs.timeline.nearest.Given as goal

-- what was found so far
abbrev pub invariant-loop-cursor : goal.invariant-loop-cursor
invariant-loop-cursor l = record {
  cursor : IsOfKept l.opening l.kept l.found;
  before : l.found.replayed.recorded ≤ l.event;
}
