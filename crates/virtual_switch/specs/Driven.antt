-- What each input drives, if that was asked.
use Rattle.std.specs.Prelude.{◌≡◌, ℕ, List, Option, Some, None, if◌then◌else◌, get_or}
use Rattle.std.specs.Int.{bit_at}
use Rattle.crossbar.specs.Row.{Row, private_switch}
use Rattle.crossbar.specs.Switch.{drives}

-- a mask has just the outputs that the input drives: bit q is output q
pub record IsDriven (row : Row) (input mask : ℕ) : Type 0 where
  pub bits : (q : ℕ) → bit_at mask q ≡ (if drives (private_switch row) input q then 1 else 0)

-- each mask that is there is that of the input of its place
pub record AreDriven (row : Row) (masks : List (Option ℕ)) : Type 0 where
  pub each : (input mask : ℕ) → get_or masks input None ≡ Some mask → IsDriven row input mask
