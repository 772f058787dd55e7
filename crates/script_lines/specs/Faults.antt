-- Why a line or a script isn't read.
use Rattle.std.specs.Prelude.{ℕ, List, codes}
use Rattle.script_lines.specs.declared.fault.LineFault.{LineFault}
use Rattle.script_lines.specs.declared.fault.LineFault.TheVariants.{User, Verb, Args, Hex}
use Rattle.script_lines.specs.declared.fault.ScriptFault.{ScriptFault}
use Rattle.script_lines.specs.declared.fault.ScriptFault.TheVariants.{Line, NoMemory}

-- the number of what is wrong with a line, in the order of the tests
abbrev pub line_fault_number : LineFault → ℕ
line_fault_number User = 1
line_fault_number Verb = 2
line_fault_number Args = 3
line_fault_number Hex = 4

-- the word for what is wrong with a line
abbrev pub fault_word : LineFault → List ℕ
fault_word User = codes "user"
fault_word Verb = codes "verb"
fault_word Args = codes "args"
fault_word Hex = codes "hex"

-- the number of why a script isn't read
abbrev pub script_fault_number : ScriptFault → ℕ
script_fault_number (Line number fault) = 1
script_fault_number NoMemory = 2
