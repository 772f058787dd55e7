use Rattle.std.proofs.Common.{◌≡◌, ◌-◌, ◌≤◌, length, vec_capacity}
use Rattle.node_memory.specs.Kept.{memory_of}
use Rattle.node_memory.proofs.memory.reach.Given as goal

abbrev pub invariant-loop-kept : goal.invariant-loop-kept
invariant-loop-kept l = record {
  same : memory_of l.kept.items l.size ≡ memory_of l.fn.kept.items l.fn.size;
  below : length l.kept.items ≤ l.end;
  wide : l.size ≤ vec_capacity l.kept;
}

abbrev pub decreases-loop-kept : goal.decreases-loop-kept
decreases-loop-kept l = l.end - length l.kept.items
