-- The channel operations: what each does to the registers, to the links and to memory.
-- Instruction set handbook, in, out, outbyte, outword, resetch, enbc, disc.
use Rattle.std.specs.Prelude.{ℕ, ◌==◌, List, if◌then◌else◌}
use Rattle.node_memory.specs.Effect.{Effect, Gave, ◌>>=◌, store, perform}
use Rattle.link_channels.specs.declared.link.FourLinks.{FourLinks}
use Rattle.link_channels.specs.declared.process.Process.{Process}
use Rattle.link_channels.specs.declared.process.Transfer.{Transfer}
use Rattle.link_channels.specs.declared.process.TransferDirection.{TransferDirection}
use Rattle.link_channels.specs.declared.process.TransferDirection.TheVariants.{Input, Output}
use Rattle.link_channels.specs.declared.process.TransferOutcome.{TransferOutcome}
use Rattle.link_channels.specs.declared.process.TransferOutcome.TheVariants.{GoesOn, Waits}
use Rattle.link_channels.specs.Messages.{transferred, enable, disable, reset}
use Rattle.t414_decode.specs.declared.instruction.ChannelOperation.{ChannelOperation}
use Rattle.t414_decode.specs.declared.instruction.ChannelOperation.TheVariants.{InputMessage, OutputMessage, OutputByte, OutputWord, ResetChannel, DisableChannel, EnableChannel}
use Rattle.t414_step.specs.declared.cpu.Cpu.{Cpu}
use Rattle.t414_step.specs.Registers.{bit, unary_result, leave}

-- what an instruction leaves: the registers, the links and memory; or the fault that halts the node, with links and
-- memory as they were left. The registers are then given up
abbrev pub CpuEffect : Type 0
CpuEffect = Effect Cpu FourLinks

-- the process that asks
abbrev pub process_of : Cpu → Process
process_of s = record { workspace = s.workspace; instruction = s.instruction }

-- count, channel and pointer of a transfer
abbrev pub transfer : ℕ → ℕ → ℕ → Transfer
transfer count channel pointer = record { count = count; channel = channel; pointer = pointer }

-- the process goes on, or it leaves, its place saved
abbrev pub turned : TransferOutcome → Cpu → Cpu
turned GoesOn s = s
turned Waits s = leave s

-- the running process takes a message from a channel, or gives it one; it goes on with the queue's registers among its
-- own
abbrev pub message_by : TransferDirection → Transfer → Cpu → FourLinks → List ℕ → CpuEffect
message_by direction t s ls m = do
  (x, ls, m) ← perform (transferred direction (process_of s) t ls s.queue m)
  Gave (turned x.0 (record s { queue = x.1 })) ls m

-- outbyte and outword: word(W) becomes A; then out with this count of bytes, pointer W, channel B
abbrev pub send : ℕ → Cpu → FourLinks → List ℕ → CpuEffect
send count s ls m = do m ← store ls m s.workspace s.a; message_by Output (transfer count s.b s.workspace) s ls m

-- an operation on a channel, after the byte that asked for it. A guard of 0 looks at no channel
unfoldable pub channel_row : ChannelOperation → Cpu → FourLinks → List ℕ → CpuEffect
channel_row InputMessage s ls m = message_by Input (transfer s.a s.b s.c) s ls m  -- 07 in
channel_row OutputMessage s ls m = message_by Output (transfer s.a s.b s.c) s ls m  -- 0B out
channel_row OutputByte s ls m = send 1 s ls m  -- 0E outbyte
channel_row OutputWord s ls m = send 4 s ls m  -- 0F outword
channel_row ResetChannel s ls m =
    do (word, ls, m) ← perform (reset s.a ls m); Gave (unary_result word s) ls m  -- 12 resetch
channel_row DisableChannel s ls m =  -- 2F disc
    if s.b == 0 then Gave (unary_result 0 s) ls m
    else (do (chosen, ls, m) ← perform (disable (process_of s) s.c s.a ls m); Gave (unary_result (bit chosen) s) ls m)
channel_row EnableChannel s ls m =  -- 48 enbc
    if s.a == 0 then Gave (record s { b = s.c }) ls m
    else (do (done, ls, m) ← perform (enable (process_of s) s.b ls m); Gave (record s { b = s.c }) ls m)
