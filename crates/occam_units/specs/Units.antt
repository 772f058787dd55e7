-- Which units are compiled.
use Rattle.std.specs.Prelude.{◌≡◌, true, []}
use Rattle.occam_core.specs.Bounds.{has_process}
use Rattle.occam_core.specs.declared.process.CorePlace.{CorePlace}
use Rattle.occam_uses.specs.Uses.{is_used_well}
use Rattle.occam_units.specs.declared.unit.CoreUnit.{CoreUnit}

-- where a process begins that has no line
abbrev pub start : CorePlace
start = record { line = 1; column = 1 }

-- the process speaks only of words and links that there are, and processes of a PAR use together only what they may
abbrev pub IsChecked : CoreUnit → Type 0
IsChecked unit = (has_process unit.words unit.process.value ≡ true) × (is_used_well start [] unit.process.value ≡ true)
