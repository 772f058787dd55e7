-- Disassembled code as a program.
use Rattle.std.specs.Prelude.{ℕ, List, flat_map}
use Rattle.t414_assembly.specs.declared.disassembly.Instruction.{Instruction}
use Rattle.t414_assembly.specs.declared.statement.Operand.TheVariants.{Number}
use Rattle.t414_assembly.specs.declared.statement.Statement.{Statement}
use Rattle.t414_assembly.specs.declared.statement.Statement.TheVariants.{Instruction as Instructs}
use Rattle.t414_assembly.specs.Usual.{usual}

-- the bytes of instructions, one after another
abbrev pub bytes_of_all : List Instruction → List ℕ
bytes_of_all instructions = flat_map (λ i. usual i.function i.operand) instructions

-- an instruction as a statement
abbrev pub stated : Instruction → Statement
stated i = Instructs i.function (Number i.operand)
