-- The numbers of the faults; the numbering is our own.
use Rattle.std.specs.Prelude.{ℕ}
use Rattle.node_memory.specs.declared.fault.Fault.{Fault}
use Rattle.node_memory.specs.declared.fault.Fault.TheVariants.{OutsideMemory, UnknownOperation, ErrorSet, HighPriority, WrongChannel}

-- the number of a fault
abbrev pub fault_number : Fault → ℕ
fault_number OutsideMemory = 1
fault_number (UnknownOperation code) = 2
fault_number ErrorSet = 3
fault_number HighPriority = 4
fault_number WrongChannel = 5
