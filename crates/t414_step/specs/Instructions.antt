-- Instructions and steps: the bytes of an instruction are as many steps.
-- Transputer instruction set handbook, direct functions and prefixing functions.
use Rattle.std.specs.Prelude.{◌≡◌, ℕ, ◌+◌, List, [], ◌∷◌, Some, Ok, true, false, length, min, ⊤}
use Rattle.node_memory.specs.Bytes.{byte_at}
use Rattle.node_memory.specs.Words.{◌⊕◌}
use Rattle.link_channels.specs.declared.link.FourLinks.{FourLinks}
use Rattle.link_channels.specs.Links.{any_has_work}
use Rattle.t414_decode.specs.Meaning.{meaning}
use Rattle.t414_decode.specs.declared.instruction.Function.{Function}
use Rattle.t414_step.specs.declared.cpu.Cpu.{Cpu}
use Rattle.t414_step.specs.Rows.{direct}
use Rattle.t414_step.specs.Step.{stepped}
use Rattle.t414_step.specs.Steps.{nth_step}

-- memory has these bytes from an address on
abbrev pub HasBytes : List ℕ → ℕ → List ℕ → Type 0
HasBytes m address [] = ⊤
HasBytes m address (byte ∷ bytes) = (byte_at m address ≡ Ok byte) × HasBytes m (address ⊕ 1) bytes

-- the registers as an instruction of this many bytes finds them: its bytes are counted, up to 1,024, Iptr is the next
-- instruction, and O is 0
abbrev pub past_bytes : ℕ → Cpu → Cpu
past_bytes count s =
    record s { instruction = s.instruction ⊕ count; bytes = min (s.bytes + count) 1024; operand = 0 }

-- where a process runs with O at 0, and no link has work, the bytes of the next instruction, prefixes and all, are as
-- many steps, and together they do what the instruction's row says
abbrev pub InstructionsAreSteps : Type 0
InstructionsAreSteps = (bytes : List ℕ) (f : Function) (k : ℕ) (s : Cpu) (ls : FourLinks) (m : List ℕ) →
    meaning bytes ≡ Some (record { function = f; operand = k; rest = [] }) → HasBytes m s.instruction bytes →
    s.running ≡ true → s.operand ≡ 0 → any_has_work ls ≡ false →
    nth_step (length bytes) s ls m ≡ Some (stepped (direct f k (past_bytes (length bytes) s) ls m))
