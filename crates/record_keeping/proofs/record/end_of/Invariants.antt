use Rattle.std.proofs.Common.{◌≡◌, vec_capacity}
use Rattle.record_keeping.specs.Counts.{IsCountBefore}
use Rattle.record_keeping.proofs.record.end_of.Given as goal

-- the commands of the entries so far are counted
abbrev pub invariant-loop : goal.invariant-loop
invariant-loop l = record {
  counted : IsCountBefore l.journal.entries l.reached.mark l.reached.commands;
  places : vec_capacity l.room ≡ vec_capacity l.fn.room;
}
