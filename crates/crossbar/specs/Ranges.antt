-- The physical ports of a row of ranges: virtual port v is the v-th of them.
use Rattle.std.specs.Prelude.{◌≡◌, ℕ, ◌+◌, ◌-◌, ◌<◌, ◌≤◌, List, [], ◌∷◌, ◌++◌, Option, Some, None, All, slice_get}
use Rattle.std.specs.List.{range_with_len}
use Rattle.crossbar.specs.declared.range.PortRange.{PortRange}

-- the ports of a range, in rising order
abbrev pub ports_of : PortRange → List ℕ
ports_of range = range_with_len range.first (range.last + 1 - range.first)

-- the same of a place in a row, which may be unused
abbrev pub ports_at : Option PortRange → List ℕ
ports_at None = []
ports_at (Some range) = ports_of range

-- the ports of a row of ranges, in its order
abbrev pub ranged_ports : List (Option PortRange) → List ℕ
ranged_ports [] = []
ranged_ports (place ∷ ranges) = ports_at place ++ ranged_ports ranges

-- a range of the crossbar's ports, which isn't empty
abbrev pub IsPortRange : Option PortRange → Type 0
IsPortRange None = Unit {0}
IsPortRange (Some range) = (range.first ≤ range.last) × (range.last ≤ 31)

-- no port has two numbers
abbrev pub IsOneToOne : List ℕ → Type 0
IsOneToOne ports = (v w port : ℕ) → slice_get ports v ≡ Some port → slice_get ports w ≡ Some port → v ≡ w

-- distinct ports of the crossbar, by their virtual numbers
pub record IsNumbering (ports : List ℕ) : Type 0 where
  pub below : All (λ port. port < 32) ports
  pub one_to_one : IsOneToOne ports

-- ranges of the crossbar's ports; no two of them share a port
pub record AreRanges (ranges : List (Option PortRange)) : Type 0 where
  pub each : All IsPortRange ranges
  pub one_to_one : IsOneToOne (ranged_ports ranges)
