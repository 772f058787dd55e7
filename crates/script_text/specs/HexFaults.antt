-- Why hexadecimal digits spell no bytes.
use Rattle.std.specs.Prelude.{ℕ}
use Rattle.script_text.specs.declared.hexadecimal.HexFault.{HexFault}
use Rattle.script_text.specs.declared.hexadecimal.HexFault.TheVariants.{NotHex, NoMemory}

-- the number of a fault
abbrev pub hex_fault_number : HexFault → ℕ
hex_fault_number NotHex = 1
hex_fault_number NoMemory = 2
