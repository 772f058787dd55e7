-- Programs where a boot or pokes put them.
use Rattle.std.specs.Prelude.{ℕ, List, length}
use Rattle.t414_assembly.specs.declared.assembling.Assembly.{Assembly}
use Rattle.t414_assembly.specs.Program.{IsImage}
use Rattle.node_trace.specs.declared.marked.MarkedCode.{MarkedCode}
use Rattle.node_trace.specs.declared.program.ProgramCode.{ProgramCode}
use Rattle.node_trace.specs.declared.program.ProgramCode.TheVariants.{Assembled, Marked}

-- the bytes of an assembly are those of all its statements, the first of them at an address
abbrev pub IsPlaced : ℕ → ProgramCode → Type 0
IsPlaced origin (Assembled made) =
    IsImage origin made.statements.items made.image.starts.items (length made.statements.items) made.image.bytes.items
IsPlaced origin (Marked marked) = ⊥

-- the bytes of a program
abbrev pub code_bytes : ProgramCode → List ℕ
code_bytes (Assembled made) = made.image.bytes.items
code_bytes (Marked marked) = marked.bytes.items
