use Rattle.std.proofs.Common.{◌≡◌, ◌≤◌, take}
use Rattle.record_keeping.specs.Counts.{commands_among}
use Rattle.record_keeping.proofs.record.commands_of_all.Given as goal

-- the commands of the entries so far are counted: no more than there are entries
abbrev pub invariant-loop-entry : goal.invariant-loop-entry
invariant-loop-entry l = record {
  counted : l.commands ≡ commands_among (take l.entry-index l.entries);
  few : l.commands ≤ l.entry-index;
}
