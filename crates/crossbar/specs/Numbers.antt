-- A numbering kept both ways: the port of each number, and the number of each port.
use Rattle.std.specs.Prelude.{◌≡◌, ℕ, ◌<◌, ◌≤◌, List, length, take, Option, Some, slice_get}
use Rattle.crossbar.specs.Ranges.{IsNumbering}
use Rattle.crossbar.specs.Row.{number_among}

-- the first count ports are a numbering, and the numbers are its inverse
pub record IsNumberTable (ports : List ℕ) (numbers : List (Option ℕ)) (count : ℕ) : Type 0 where
  pub ports_room : length ports ≡ 32
  pub numbers_room : length numbers ≡ 32
  pub few : count ≤ 32
  pub numbering : IsNumbering (take count ports)
  pub inverse : (port : ℕ) → port < 32 → slice_get numbers port ≡ Some (number_among (take count ports) port)
