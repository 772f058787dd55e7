-- The statements of a program, done one after another as the instruction table says.
-- address is the address of each place. An instruction at a place begins with Iptr at the place's address, and its row
-- finds Iptr at the next place's; Steps that do its bytes also count them and leave O at 0 (InstructionsAreSteps).
use Rattle.std.specs.Prelude.{ℕ, zero, suc, ◌≡◌, ◌+◌, List, Some, slice_get}
use Rattle.node_memory.specs.Effect.{Gave, Halted}
use Rattle.node_memory.specs.declared.fault.Fault.TheVariants.{ErrorSet}
use Rattle.link_channels.specs.declared.link.FourLinks.{FourLinks}
use Rattle.t414_decode.specs.declared.instruction.Function.{Function}
use Rattle.t414_assembly.specs.declared.statement.Operand.{Operand}
use Rattle.t414_assembly.specs.declared.statement.Statement.{Statement}
use Rattle.t414_assembly.specs.declared.statement.Statement.TheVariants.{Instruction}
use Rattle.t414_assembly.specs.Program.{operand_of}
use Rattle.t414_step.specs.declared.cpu.Cpu.{Cpu}
use Rattle.t414_step.specs.ChannelRows.{CpuEffect}
use Rattle.t414_step.specs.Rows.{direct}

-- an instruction at a place
abbrev pub done_at : (ℕ → ℕ) → ℕ → Function → Operand → Cpu → FourLinks → List ℕ → CpuEffect
done_at address place f o s ls m =
    direct f (operand_of address (place + 1) f o) (record s { instruction = address (place + 1) }) ls m

-- the program has an instruction at a place whose address Iptr is, and this is what it does
pub record Does (address : ℕ → ℕ) (code : List Statement) (ls : FourLinks) (s : Cpu) (m : List ℕ) (effect : CpuEffect)
    : Type 0 where
  pub place : ℕ
  pub function : Function
  pub operand : Operand
  pub here : s.instruction ≡ address place
  pub is : slice_get code place ≡ Some (Instruction function operand)
  pub gives : done_at address place function operand s ls m ≡ effect

-- by this number of instructions registers s and memory m become t and u, and the links stay
abbrev pub Leads : (ℕ → ℕ) → List Statement → FourLinks → ℕ → Cpu → List ℕ → Cpu → List ℕ → Type 0
Leads address code ls zero s m t u = (s ≡ t) × (m ≡ u)
Leads address code ls (suc n) s m t u =
    (v : Cpu) × (w : List ℕ) × Does address code ls s m (Gave v ls w) × Leads address code ls n v w t u

-- some instructions are done, and the next halts the node with the fault of a set Error
pub record Falls (address : ℕ → ℕ) (code : List Statement) (ls : FourLinks) (s : Cpu) (m : List ℕ) : Type 0 where
  pub count : ℕ
  pub registers : Cpu
  pub memory : List ℕ
  pub leads : Leads address code ls count s m registers memory
  pub falls : Does address code ls registers memory (Halted ErrorSet ls memory)
