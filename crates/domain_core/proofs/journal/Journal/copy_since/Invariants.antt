use Rattle.std.proofs.Common.{◌≡◌, ◌≤◌, ◌+◌, length, vec_capacity, vec_len}
use Rattle.domain_core.specs.Marks.{Copies, events_behind, events_from}
use Rattle.domain_core.proofs.journal.Journal.copy_since.Given as goal

-- the entries before this one are copied
abbrev pub invariant-loop-index : goal.invariant-loop-index
invariant-loop-index l = record {
  copies : Copies l.self.entries l.fn.mark l.reached l.fn.room.items l.room.items;
  next : events_from l.reached l.self.entries ≡ events_behind l.index l.events l.self.entries;
  begun : l.fn.mark.entries ≤ l.index;
  filled : vec_len l.room + l.fn.mark.entries ≤ vec_len l.fn.room + l.index;
  capacity : vec_capacity l.room ≡ vec_capacity l.fn.room;
  past : length l.self.entries ≤ l.fn.mark.entries → (l.reached ≡ l.fn.mark) × (l.room.items ≡ l.fn.room.items);
}
