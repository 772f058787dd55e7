-- What an instruction byte came to, by what the loop of bytes has done of it.
use Rattle.std.specs.Prelude.{◌≡◌, ℕ, List, Option, Some, None, Result, Ok, Err}
use Rattle.node_memory.specs.Effect.{Gave, Halted, ◌>>=◌, store}
use Rattle.node_memory.specs.Words.{◌⊕◌, ◌⊖◌}
use Rattle.node_memory.specs.declared.fault.Fault.{Fault}
use Rattle.link_channels.specs.declared.link.FourLinks.{FourLinks}
use Rattle.t414_decode.specs.declared.instruction.Function.TheVariants.{StoreLocal, StoreNonLocal, Call}
use Rattle.t414_step.specs.ChannelRows.{CpuEffect, channel_row}
use Rattle.t414_step.specs.declared.cpu.Cpu.{Cpu}
use Rattle.t414_step.specs.declared.next.Next.{Next}
use Rattle.t414_step.specs.declared.next.Next.TheVariants as next
use Rattle.t414_step.specs.Registers.{goto}
use Rattle.t414_step.specs.Rows.{direct, row, slice}

-- the end of lend: the index is stored, and the loop begins again
abbrev pub back_after : ℕ → Cpu → FourLinks → List ℕ → CpuEffect
back_after index s ls m = do m ← store ls m s.b index; slice (goto (s.instruction ⊖ s.a) s) ls m

-- what is left of it: nothing, the slice, a store, a call, the end of lend, an operation, or a fault
abbrev pub completed : Next → Cpu → FourLinks → List ℕ → CpuEffect
completed next.Byte s ls m = Gave s ls m
completed next.Jumped s ls m = slice s ls m
completed (next.StoreLocal operand) s ls m = direct StoreLocal operand s ls m
completed (next.StoreNonLocal operand) s ls m = direct StoreNonLocal operand s ls m
completed (next.Call operand) s ls m = direct Call operand s ls m
completed (next.Index index) s ls m = back_after index s ls m
completed (next.Plain operation) s ls m = row operation s ls m
completed (next.Channel operation) s ls m = channel_row operation s ls m
completed (next.Fault fault) s ls m = Halted fault ls m

-- lend once it has counted down, by the index that is to be stored if it goes back
abbrev pub counted_down : Result (Option ℕ) Fault → Cpu → FourLinks → List ℕ → CpuEffect
counted_down (Ok (Some index)) s ls m = back_after index s ls m
counted_down (Ok None) s ls m = Gave s ls m
counted_down (Err fault) s ls m = Halted fault ls m

-- the registers after an instruction byte that was counted: Iptr is the next address, O is 0
abbrev pub behind_byte : Cpu → Cpu
behind_byte s = record s { instruction = s.instruction ⊕ 1; operand = 0 }

-- whether there is a current process, and its count of bytes, stay
abbrev pub KeepsTurn : Cpu → Cpu → Type 0
KeepsTurn s t = (t.running ≡ s.running) × (t.bytes ≡ s.bytes)
