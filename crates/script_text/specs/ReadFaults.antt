-- Why a stream gives no text.
use Rattle.std.specs.Prelude.{ℕ}
use Rattle.script_text.specs.declared.reading.ReadFault.{ReadFault}
use Rattle.script_text.specs.declared.reading.ReadFault.TheVariants.{Failed, NoMemory}

-- the number of a fault, in the order in which they are met
abbrev pub read_fault_number : ReadFault → ℕ
read_fault_number Failed = 1
read_fault_number NoMemory = 2
