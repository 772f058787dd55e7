-- How a journal keeps its entries: small ones, and apart from them what looks saw.
use Rattle.std.specs.Prelude.{ℕ, zero, suc, ◌<◌, ◌≤◌, ◌-◌, ◌⊎◌, ◌≡◌, Bool, true, false, List, [], length, slice_index_or}
use Rattle.bootstrap.specs.declared.seen.Activity.TheVariants.{Booting}
use Rattle.bootstrap.specs.declared.seen.Seen.{Seen}
use Rattle.domain_core.specs.declared.entries.SmallEntry.{SmallEntry}
use Rattle.domain_core.specs.declared.entries.SmallEntry.TheVariants.{One, Look, Run}
use Rattle.domain_core.specs.declared.entries.SmallReply.{SmallReply}
use Rattle.domain_core.specs.declared.entries.SmallReply.TheVariants as small
use Rattle.domain_core.specs.declared.event.Event.{Event}
use Rattle.domain_core.specs.declared.event.Event.TheVariants as event
use Rattle.domain_core.specs.declared.event.Reply.{Reply}
use Rattle.domain_core.specs.declared.event.Reply.TheVariants as reply
use Rattle.domain_core.specs.declared.journal.Entry.{Entry}
use Rattle.domain_core.specs.declared.journal.Entry.TheVariants as entry
use Rattle.domain_core.specs.Journal.{JournalValue}

-- what contracts see of the entries: themselves, for how many more entries and how many more looks there is room, and
-- for how many entries in all memory is reserved, whether they are looks or not
pub record EntriesValue : Type 0 where
  pub entries : List Entry
  pub room : ℕ
  pub look_room : ℕ
  pub reserved : ℕ

-- the journal that has these entries
abbrev pub journal_of : EntriesValue → JournalValue
journal_of e = record { entries = e.entries; reserved = e.reserved }

-- memory is reserved for this number of entries, whether they are looks or not: there are no more looks than entries,
-- and no more entries than are reserved, if any are
pub record AreReserved (reserved entries looks entry_capacity look_capacity : ℕ) : Type 0 where
  pub for_entries : reserved ≤ entry_capacity
  pub for_looks : reserved ≤ look_capacity
  pub fewer : looks ≤ entries
  pub within : (reserved ≡ 0) ⊎ (entries ≤ reserved)

-- how many more entries there may be: those that are left of the reserved ones, and if none are reserved, as many as
-- the memory that was taken has places for
abbrev pub entries_left : (reserved entries capacity : ℕ) → ℕ
entries_left zero entries capacity = capacity - entries
entries_left (suc reserved) entries capacity = suc reserved - entries

-- the reply that a small one stands for
abbrev pub reply_of : SmallReply → Reply
reply_of (small.Config answer) = reply.Config answer
reply_of small.Written = reply.Written
reply_of small.Full = reply.Full
reply_of (small.Read byte) = reply.Read byte
reply_of small.Reset = reply.Reset
reply_of (small.Stepped answer) = reply.Stepped answer
reply_of (small.Moved answer) = reply.Moved answer

-- what is taken for a look at a place where none is kept
abbrev pub no_look : Seen
no_look = record { state = Booting; overruns = [] }

-- the entry that a small one stands for: that of a look has the place of what was seen
abbrev pub entry_of : List Seen → SmallEntry → Entry
entry_of seen (One by asked answer) = entry.One by asked (reply_of answer)
entry_of seen (Look by asked place) = entry.One by asked (reply.Look (slice_index_or seen place no_look))
entry_of seen (Run by node last count) = entry.Run by node count last

-- what a look saw is kept at its place, and a run has a Step
abbrev pub IsStored : List Seen → SmallEntry → Type 0
IsStored seen (One by asked answer) = Unit {0}
IsStored seen (Look by asked place) = place < length seen
IsStored seen (Run by node last count) = 0 < count

-- an event whose reply shows what a node is
abbrev pub is_look : Event → Bool
is_look (event.Config byte) = false
is_look (event.Write host byte) = false
is_look (event.Read host) = false
is_look (event.Reset node) = false
is_look (event.Look node) = true
is_look (event.Step node) = false
is_look (event.Move port) = false

-- there is room for what the reply shows, if it is that to a look
abbrev pub HasRoomToShow : Reply → ℕ → Type 0
HasRoomToShow (reply.Config answer) room = Unit {0}
HasRoomToShow reply.Written room = Unit {0}
HasRoomToShow reply.Full room = Unit {0}
HasRoomToShow (reply.Read byte) room = Unit {0}
HasRoomToShow reply.Reset room = Unit {0}
HasRoomToShow (reply.Look seen) room = 0 < room
HasRoomToShow (reply.Stepped answer) room = Unit {0}
HasRoomToShow (reply.Moved answer) room = Unit {0}
