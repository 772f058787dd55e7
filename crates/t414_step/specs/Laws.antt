-- What holds of every step, whatever memory and registers hold.
use Rattle.std.specs.Prelude.{◌≡◌, ℕ, ◌<◌, ◌≤◌, List, length}
use Rattle.node_memory.specs.declared.fault.Fault.TheVariants.{OutsideMemory}
use Rattle.node_memory.specs.Bytes.{copied}
use Rattle.node_memory.specs.Effect.{Halted}
use Rattle.link_channels.specs.declared.link.FourLinks.{FourLinks}
use Rattle.t414_decode.specs.declared.instruction.PlainOperation.TheVariants.{MoveMessage}
use Rattle.t414_step.specs.declared.cpu.Cpu.{Cpu}
use Rattle.t414_step.specs.Answers.{tells_idle}
use Rattle.t414_step.specs.Registers.{has_nothing_to_do}
use Rattle.t414_step.specs.Rows.{row}
use Rattle.t414_step.specs.Step.{step, byte_done}

-- a step answers Idle exactly if there is nothing to do
abbrev pub IdleWhereItRests : Type 0
IdleWhereItRests = (s : Cpu) (ls : FourLinks) (m : List ℕ) → tells_idle (step s ls m) ≡ has_nothing_to_do s ls

-- a move of more bytes than memory has copies up to memory's edge and halts
abbrev pub MoveStopsAtTheEdge : Type 0
MoveStopsAtTheEdge = (s : Cpu) (ls : FourLinks) (m : List ℕ) → length m < s.a →
    row MoveMessage s ls m ≡ Halted OutsideMemory ls (copied s.a m s.c s.b).1

-- a count of bytes above the most to which steps count does what the most does
abbrev pub GreatCountIsTheMost : Type 0
GreatCountIsTheMost = (s : Cpu) (ls : FourLinks) (m : List ℕ) → 1024 ≤ s.bytes →
    byte_done s ls m ≡ byte_done (record s { bytes = 1024 }) ls m
