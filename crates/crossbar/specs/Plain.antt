-- A row of words that nobody shares, kept in the order of the virtual numbers.
use Rattle.std.specs.Prelude.{◌≡◌, ℕ, List, take, length, All, slice_get}
use Rattle.std.specs.List.{filter_map}
use Rattle.crossbar.specs.declared.word.Word.{Word}
use Rattle.crossbar.specs.declared.range.PortRange.{PortRange}
use Rattle.std.specs.Prelude.{Option}
use Rattle.crossbar.specs.Ranges.{ranged_ports, AreRanges}
use Rattle.crossbar.specs.Row.{Row, IsRow, IsWordOf}

-- the words of these ports, of one word for each port of the crossbar
abbrev pub words_at : List Word → List ℕ → List Word
words_at words ports = filter_map (slice_get words) ports

-- the ports of the ranges with their words
abbrev pub outputs_of : List Word → List (Option PortRange) → Row
outputs_of words ranges = record { ports = ranged_ports ranges; words = words_at words (ranged_ports ranges) }

-- each word of the ranges' ports is proper and names an input among them
pub record IsPlain (words : List Word) (ranges : List (Option PortRange)) : Type 0 where
  pub ranges_are : AreRanges ranges
  pub each : All (IsWordOf (ranged_ports ranges)) (words_at words (ranged_ports ranges))

-- the first words stand for the ports
pub record IsPlainRow (ports : List ℕ) (words : List Word) : Type 0 where
  pub room : length words ≡ 32
  pub row : IsRow (record { ports = ports; words = take (length ports) words })
