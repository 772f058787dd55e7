-- Sets of numbers, as words of bits, and what was met of the uses of a process.
use Rattle.std.specs.Prelude.{ℕ, ◌≡◌, ◌/◌, ◌%◌, ◌==◌, ◌&&◌, ◌||◌, Bool, List, Option, is_none, slice_index}
use Rattle.std.specs.Int.{bit_at}
use Rattle.occam_core.specs.declared.process.CorePlace.{CorePlace}
use Rattle.occam_core.specs.declared.process.CoreProcess.{CoreProcess}
use Rattle.occam_uses.specs.declared.finding.PlacedClash.{PlacedClash}
use Rattle.occam_uses.specs.declared.number_set.NumberSet.{NumberSet}
use Rattle.occam_uses.specs.declared.marks.UsageMarks.{UsageMarks}
use Rattle.occam_uses.specs.declared.subscripts.LoopIndex.{LoopIndex}
use Rattle.occam_uses.specs.declared.usage.Usage.{Usage}
use Rattle.occam_uses.specs.declared.usage.UsageWay.{UsageWay}
use Rattle.occam_uses.specs.declared.usage.UsageWay.TheVariants.{Changes, Reads, Sends, Receives}
use Rattle.occam_uses.specs.Uses.{has_usage, is_used_well, are_apart, process_uses}

-- the bit of a number in blocks of 64
unfoldable pub has_bit : List ℕ → ℕ → Bool
has_bit blocks n = bit_at (slice_index blocks (n / 64)) (n % 64) == 1

abbrev pub has_number : NumberSet → ℕ → Bool
has_number set n = has_bit set.blocks.items n

-- the set of the numbers that are used in a way
abbrev pub marked : UsageMarks → UsageWay → NumberSet
marked marks Changes = marks.changed
marked marks Reads = marks.read
marked marks Sends = marks.sent
marked marks Receives = marks.received

abbrev pub is_marked : UsageMarks → UsageWay → ℕ → Bool
is_marked marks way n = has_number (marked marks way) n

-- a number that is used in a way which clashes with this one
abbrev pub is_taken : UsageMarks → UsageWay → ℕ → Bool
is_taken marks Changes n = has_number marks.changed n || has_number marks.read n
is_taken marks Reads n = has_number marks.changed n
is_taken marks Sends n = has_number marks.sent n
is_taken marks Receives n = has_number marks.received n

-- the marks are those of these uses
abbrev pub AreMarksOf : List Usage → UsageMarks → Type 0
AreMarksOf uses marks = (way : UsageWay) (n : ℕ) → is_marked marks way n ≡ has_usage uses way n

-- a component of a parallel is used well, and what it uses clashes with none of the uses of those before it
abbrev pub is_component_well : List Usage → CorePlace → List LoopIndex → CoreProcess → Bool
is_component_well before place indices p =
    is_used_well place indices p && are_apart before (process_uses place indices p)

-- no clash is noted now exactly if none was before, and this holds
abbrev pub StaysNone : Option PlacedClash → Option PlacedClash → Bool → Type 0
StaysNone old new well = is_none new ≡ (is_none old && well)
