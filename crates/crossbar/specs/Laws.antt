-- What holds of every private switch, of the numbers of ports and of rows of words.
use Rattle.std.specs.Prelude.{◌≡◌, ℕ, ◌<◌, ◌≤◌, ◌&&◌, Bool, true, false, List, length, Option, Some, None, is_some, replicate, slice_get, nat_lt, if◌then◌else◌}
use Rattle.std.specs.List.{AllZip}
use Rattle.std.specs.Option.{option_and_then}
use Rattle.std.specs.FinMap as map
use Rattle.std.specs.FinSet as set
use Rattle.crossbar.specs.declared.word.Word.{Word}
use Rattle.crossbar.specs.declared.word.Connection.{Connection}
use Rattle.crossbar.specs.Fits.{InputFits}
use Rattle.crossbar.specs.Ranges.{IsOneToOne, IsNumbering}
use Rattle.crossbar.specs.Row.{Row, IsRow, IsWordOf, number_among, switch_of, private_switch, lowered, input_of, is_ready}
use Rattle.crossbar.specs.Changed.{row_with, words_after, each_after, ready_of}
use Rattle.crossbar.specs.Switch.{Switch, map_below, set_below, connected, disconnected, all_ready, cleared, drives}
use Rattle.crossbar.specs.Word.{connection_of, CountsChange}

-- what a switch says, and whose number a port has
pub record SwitchLaws : Type 0 where
  -- the pairs that a function says below n
  pub pairs : (n : ℕ) (f : ℕ → Option ℕ) (q : ℕ)
      → map.get (map_below n f) q ≡ (if nat_lt q n then f q else None)
  -- the outputs below n for which a test holds
  pub ready : (n : ℕ) (p : ℕ → Bool) (q : ℕ) → set.contains (set_below n p) q ≡ (nat_lt q n && p q)
  -- two switches that say the same of each output are one
  pub same : (s t : Switch) → ((q : ℕ) → map.get s.pairs q ≡ map.get t.pairs q)
      → ((q : ℕ) → set.contains s.ready q ≡ set.contains t.ready q) → s ≡ t
  -- of distinct ports the v-th has number v
  pub number : (ports : List ℕ) (v port : ℕ) → IsOneToOne ports → slice_get ports v ≡ Some port
      → number_among ports port ≡ Some v
  -- each port of a list has a number there
  pub numbered : (ports : List ℕ) (port v : ℕ) → slice_get ports v ≡ Some port
      → is_some (number_among ports port) ≡ true
  -- and is found by it
  pub found : (ports : List ℕ) (port v : ℕ) → number_among ports port ≡ Some v
      → slice_get ports v ≡ Some port
  -- what drives an output is what its word says, by its number
  pub driver : (row : Row) (v : ℕ) (word : Word) → v < length row.ports → slice_get row.words v ≡ Some word →
      map.get (private_switch row).pairs v ≡ option_and_then (number_among row.ports) (input_of (connection_of word))
  -- and it is ready if its word says so
  pub readiness : (row : Row) (v : ℕ) (word : Word) → v < length row.ports → slice_get row.words v ≡ Some word
      → set.contains (private_switch row).ready v ≡ is_ready (connection_of word)

-- a switch without pairs has none by any numbers
abbrev pub ClearedIsPrivate : Type 0
ClearedIsPrivate = (ports : List ℕ) → lowered ports cleared ≡ cleared

-- a part of the switch has the numbers of physical inputs
pub record InputsHaveNumbers : Type 0 where
  -- what connects a physical input connects its number
  pub connects : (ports : List ℕ) (s : Switch) (input port output : ℕ)
      → IsOneToOne ports → slice_get ports input ≡ Some port → output < length ports
      → lowered ports (connected s port output) ≡ connected (lowered ports s) input output
  -- an output is driven by the number of the physical input that drives it
  pub driver : (ports : List ℕ) (s : Switch) (output : ℕ) → output < length ports
      → map.get (lowered ports s).pairs output ≡ option_and_then (number_among ports) (map.get s.pairs output)
  -- and a virtual input drives an output exactly if its physical port does
  pub driven : (row : Row) (input port q : ℕ) → IsRow row → slice_get row.ports input ≡ Some port
      → drives (private_switch row) input q ≡ drives (switch_of row.words) port q

-- two outputs that are set count their changes once each, and one that is set twice to the same counts it once
abbrev pub BothCountOnce : Type 0
BothCountOnce = (words : List Word) (one other : ℕ) (first second : Option Connection)
    → InputFits first → InputFits second → (one ≡ other → first ≡ second)
    → AllZip CountsChange words (words_after (words_after words one first) other second)

-- words that stay count no change
abbrev pub UnchangedCountsNothing : Type 0
UnchangedCountsNothing = (words : List Word) → AllZip CountsChange words words

-- distinct ports of the crossbar are at most 32
abbrev pub NumberingsAreFew : Type 0
NumberingsAreFew = (ports : List ℕ) → IsNumbering ports → length ports ≤ 32

-- a row with another proper word is a row
abbrev pub RowTakesAWord : Type 0
RowTakesAWord =
    (row : Row) (output : ℕ) (word : Word) → IsRow row → IsWordOf row.ports word
    → IsRow (row_with row output word)

-- words that say nothing are a switch without pairs
abbrev pub UnusedIsCleared : Type 0
UnusedIsCleared = (n : ℕ) → switch_of (replicate n (let unused : Word = record { bits = 0 } in unused)) ≡ cleared

-- what words say, inputs by their physical numbers, once a connection is set or taken away, and once all are changed
pub record WordsAreASwitch : Type 0 where
  pub connects : (words : List Word) (output input : ℕ) → input < 32 → output < length words →
      switch_of (words_after words output (Some (record { input = input; ready = false })))
      ≡ connected (switch_of words) input output
  pub disconnects : (words : List Word) (output : ℕ) → output < length words
      → switch_of (words_after words output None) ≡ disconnected (switch_of words) output
  pub readies : (words : List Word) → switch_of (each_after ready_of words) ≡ all_ready (switch_of words)
  pub clears : (words : List Word) → switch_of (each_after (λ connection. None) words) ≡ cleared
