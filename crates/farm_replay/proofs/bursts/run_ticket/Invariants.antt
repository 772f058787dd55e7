use Rattle.std.proofs.Common.{◌-◌, ◌≤◌}
use Rattle.farm_replay.proofs.Bursting.{HasDone}
use Rattle.farm_replay.proofs.bursts.run_ticket.Given as goal

-- the Steps that aren't left were done
abbrev pub invariant-loop-left : goal.invariant-loop-left
invariant-loop-left g l = record {
  done : HasDone (l.fn.most - l.left) l.fn.ticket l.ticket;
  within : l.left ≤ l.fn.most;
}

abbrev pub decreases-loop-left : goal.decreases-loop-left
decreases-loop-left g l = l.left
