-- The outputs of a part of the switch, as of a domain, by their virtual numbers.
use Rattle.std.specs.Prelude.{◌≡◌, ℕ, suc, ◌<◌, ◌≤◌, Bool, false, List, [], ◌∷◌, length, Option, Some, None, if◌then◌else◌, ◌==◌, slice_get, All, Contains}
use Rattle.std.specs.Option.{option_map, option_and_then}
use Rattle.std.specs.FinMap as map
use Rattle.std.specs.FinSet as set
use Rattle.crossbar.specs.declared.word.Word.{Word}
use Rattle.crossbar.specs.declared.word.Connection.{Connection}
use Rattle.crossbar.specs.Word.{connection_of, IsProper}
use Rattle.crossbar.specs.Switch.{Switch, map_below, set_below}
use Rattle.crossbar.specs.Ranges.{IsOneToOne}

-- the virtual ports of a part of the switch in their order: the physical port of each, and the word of its output
pub record Row : Type 0 where
  pub ports : List ℕ
  pub words : List Word

-- the virtual number of a physical port
abbrev pub number_among : List ℕ → ℕ → Option ℕ
number_among [] port = None
number_among (first ∷ ports) port = if first == port then Some 0 else option_map suc (number_among ports port)

-- the input is one of the ports
abbrev pub InputIsIn : List ℕ → Option Connection → Type 0
InputIsIn ports None = Unit {0}
InputIsIn ports (Some connection) = Contains ports connection.input

-- a word that an output of these ports may have: it is proper, and its input is one of them
pub record IsWordOf (ports : List ℕ) (word : Word) : Type 0 where
  pub proper : IsProper word
  pub within : InputIsIn ports (connection_of word)

-- distinct ports of the crossbar, and a word of theirs for each
pub record IsRow (row : Row) : Type 0 where
  pub length_is : length row.words ≡ length row.ports
  pub few : length row.ports ≤ 32
  pub below : All (λ port. port < 32) row.ports
  pub one_to_one : IsOneToOne row.ports
  pub each : All (IsWordOf row.ports) row.words

-- the input of a connection
abbrev pub input_of : Option Connection → Option ℕ
input_of connection = option_map (λ c. c.input) connection

-- the output is connected and ready
abbrev pub is_ready : Option Connection → Bool
is_ready None = false
is_ready (Some connection) = connection.ready

-- the connection that the word of an output says
abbrev pub connection_at : List Word → ℕ → Option Connection
connection_at words v = option_and_then connection_of (slice_get words v)

-- what the words say, outputs by their virtual numbers and inputs by their physical ones
abbrev pub switch_of : List Word → Switch
switch_of words = record {
  pairs = map_below (length words) (λ v. input_of (connection_at words v));
  ready = set_below (length words) (λ v. is_ready (connection_at words v));
}

-- a switch with its inputs by the numbers that they have among these ports
abbrev pub lowered : List ℕ → Switch → Switch
lowered ports s = record {
  pairs = map_below (length ports) (λ v. option_and_then (number_among ports) (map.get s.pairs v));
  ready = set_below (length ports) (λ v. set.contains s.ready v);
}

-- the private switch that a row stands for
abbrev pub private_switch : Row → Switch
private_switch row = lowered row.ports (switch_of row.words)
