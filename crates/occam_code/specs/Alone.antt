-- A process by itself: statements are done one after another, as the instruction table says. A link takes what the
-- process says, and has a message for it as long as bytes come. At j and lend, and at each message, the processor may
-- be given to others: A, B and C have any values then. The bytes of instructions are not counted, so no row ends a
-- slice. Which words below its workspace a process that waits uses is left out.
-- Instruction set handbook, in, out, outbyte, outword.
use Rattle.std.specs.Prelude.{ℕ, zero, suc, ◌+◌, ◌-◌, ◌/◌, List, [], ◌∷◌, ◌++◌, Option, Some, Result, Ok, Err, length, take, drop, nat_le, if◌then◌else◌, slice_get}
use Rattle.node_memory.specs.Bytes.{first_address, byte_at, with_byte, with_word, result_and_then}
use Rattle.node_memory.specs.Effect.{Gave, Halted}
use Rattle.node_memory.specs.Words.{◌⊕◌}
use Rattle.node_memory.specs.declared.fault.Fault.{Fault}
use Rattle.link_channels.specs.Kinds.{kind_of}
use Rattle.link_channels.specs.declared.channel.Channel.{Channel}
use Rattle.link_channels.specs.declared.channel.Channel.TheVariants.{LinkInput, LinkOutput}
use Rattle.link_channels.specs.declared.link.FourLinks.{FourLinks}
use Rattle.t414_decode.specs.Codes.{operation_of}
use Rattle.t414_decode.specs.declared.instruction.ChannelOperation.TheVariants.{InputMessage, OutputMessage, OutputByte, OutputWord}
use Rattle.t414_decode.specs.declared.instruction.Function.{Function}
use Rattle.t414_decode.specs.declared.instruction.Function.TheVariants.{Jump, Operate}
use Rattle.t414_decode.specs.declared.instruction.Operation.{Operation}
use Rattle.t414_decode.specs.declared.instruction.Operation.TheVariants.{Plain, Channel as by_channel}
use Rattle.t414_decode.specs.declared.instruction.PlainOperation.TheVariants.{LoopEnd}
use Rattle.t414_assembly.specs.declared.statement.Statement.{Statement}
use Rattle.t414_assembly.specs.declared.statement.Statement.TheVariants.{Instruction}
use Rattle.t414_assembly.specs.Program.{operand_of}
use Rattle.t414_step.specs.declared.cpu.Cpu.{Cpu}
use Rattle.t414_step.specs.ChannelRows.{CpuEffect}
use Rattle.occam_core.specs.Processes.{Exchange, Said, Heard}
use Rattle.occam_code.specs.Machine.{done_at}

-- the address of each place, the place at each address, and what A, B and C are after the processor may have been given
-- to others for the first time, the second, and so on
pub record LoneSetting : Type 0 where
  pub address : ℕ → ℕ
  pub place_at : ℕ → ℕ
  pub others : ℕ → ℕ × ℕ × ℕ

-- a process and its memory, the bytes that are still to come, what it has said and heard, and how often the processor
-- may have been given to others
pub record LoneProcess : Type 0 where
  pub registers : Cpu
  pub links : FourLinks
  pub memory : List ℕ
  pub coming : List ℕ
  pub talk : List Exchange
  pub breaks : ℕ

-- what comes of some statements: the process runs, or is at a place that has no instruction; the node halts; or the
-- process is at an input, and too few bytes come
pub data LoneStage : Type 0 where
  Running : LoneProcess → LoneStage
  Past : LoneProcess → LoneStage
  Stopped : Fault → List Exchange → LoneStage
  AtInput : List Exchange → LoneStage

-- others may have had the processor
abbrev pub after_others : LoneSetting → LoneProcess → LoneProcess
after_others g p =
    let any = g.others p.breaks in
    record p { registers = record p.registers { a = any.0; b = any.1; c = any.2 }; breaks = p.breaks + 1 }

-- goes on with what an instruction leaves
abbrev pub left_after : CpuEffect → LoneProcess → (LoneProcess → LoneStage) → LoneStage
left_after (Gave s ls m) p next = next (record p { registers = s; links = ls; memory = m })
left_after (Halted fault ls m) p next = Stopped fault p.talk

-- goes on with what was read or written
abbrev pub and_then : {A : Type 0} → Result A Fault → LoneProcess → (A → LoneStage) → LoneStage
and_then (Ok x) p next = next x
and_then (Err fault) p next = Stopped fault p.talk

-- memory with these bytes from an address on
abbrev pub with_bytes : List ℕ → ℕ → List ℕ → Result (List ℕ) Fault
with_bytes m a [] = Ok m
with_bytes m a (byte ∷ bytes) = result_and_then (with_byte m a byte) (λ n. with_bytes n (a ⊕ 1) bytes)

-- this number of bytes from an address on
abbrev pub bytes_at : ℕ → List ℕ → ℕ → Result (List ℕ) Fault
bytes_at zero m a = Ok []
bytes_at (suc count) m a =
    result_and_then (byte_at m a) (λ byte. result_and_then (bytes_at count m (a ⊕ 1)) (λ bytes. Ok (byte ∷ bytes)))

-- the number of a link's channel, whose word has this address
abbrev pub channel_at : ℕ → ℕ
channel_at a = (a - first_address) / 4

-- in: A bytes, the next that come, from channel B to the address in C
abbrev pub hear : LoneSetting → Channel → LoneProcess → LoneStage → LoneStage
hear g (LinkInput n) p other =
    if nat_le p.registers.a (length p.coming)
    then (let bytes = take p.registers.a p.coming in
    and_then (with_bytes p.memory p.registers.c bytes) p
    (λ m. Running (after_others g (record p {
      memory = m;
      coming = drop p.registers.a p.coming;
      talk = p.talk ++ Heard (channel_at p.registers.b) bytes ∷ [];
    }))))
    else AtInput p.talk
hear g _ p other = other

-- out: this number of bytes from an address to channel B
abbrev pub say : LoneSetting → Channel → ℕ → ℕ → LoneProcess → LoneStage → LoneStage
say g (LinkOutput n) count pointer p other =
    and_then (bytes_at count p.memory pointer) p
    (λ bytes. Running (after_others g (record p { talk = p.talk ++ Said (channel_at p.registers.b) bytes ∷ [] })))
say g _ count pointer p other = other

-- outbyte and outword: word(W) becomes A, and this number of bytes of it go to channel B
abbrev pub say_value : LoneSetting → ℕ → LoneProcess → LoneStage → LoneStage
say_value g count p other =
    and_then (with_word p.memory p.registers.workspace p.registers.a) p
    (λ m. say g (kind_of p.registers.b) count p.registers.workspace (record p { memory = m }) other)

-- an instruction is done by its row alone; or others may have the processor after it; or it is a message
pub data Manner : Type 0 where
  ByRow : Manner
  ThenOthers : Manner
  Hears : Manner
  Says : Manner
  SaysValue : (count : ℕ) → Manner

abbrev pub manner_of_operation : Option Operation → Manner
manner_of_operation (Some (Plain LoopEnd)) = ThenOthers
manner_of_operation (Some (by_channel InputMessage)) = Hears
manner_of_operation (Some (by_channel OutputMessage)) = Says
manner_of_operation (Some (by_channel OutputByte)) = SaysValue 1
manner_of_operation (Some (by_channel OutputWord)) = SaysValue 4
manner_of_operation _ = ByRow

abbrev pub manner_of : Function → ℕ → Manner
manner_of Jump k = ThenOthers
manner_of Operate k = manner_of_operation (operation_of k)
manner_of _ k = ByRow

-- what is done in each manner: by the row's effect, from the process itself and with Iptr at the next instruction. A
-- message by a channel that is no link's, or not of its direction, is the row's
abbrev pub stage_by : LoneSetting → Manner → CpuEffect → LoneProcess → LoneProcess → LoneStage
stage_by g ByRow row p next = left_after row p Running
stage_by g ThenOthers row p next = left_after row p (λ q. Running (after_others g q))
stage_by g Hears row p next = hear g (kind_of p.registers.b) next (left_after row p Running)
stage_by g Says row p next =
    say g (kind_of p.registers.b) p.registers.a p.registers.c next (left_after row p Running)
stage_by g (SaysValue count) row p next = say_value g count next (left_after row p Running)

-- the statement at a place is done
abbrev pub stage_at : LoneSetting → ℕ → Option Statement → LoneProcess → LoneStage
stage_at g place (Some (Instruction f o)) p =
    stage_by g (manner_of f (operand_of g.address (place + 1) f o))
    (done_at g.address place f o p.registers p.links p.memory) p
    (record p { registers = record p.registers { instruction = g.address (place + 1) } })
stage_at g place _ p = Past p

-- the statement to which Iptr points is done
abbrev pub next_stage : LoneSetting → List Statement → LoneProcess → LoneStage
next_stage g program p =
    let place = g.place_at p.registers.instruction in stage_at g place (slice_get program place) p

-- goes on if the process runs
abbrev pub while_running : LoneStage → (LoneProcess → LoneStage) → LoneStage
while_running (Running p) next = next p
while_running (Past p) next = Past p
while_running (Stopped fault talk) next = Stopped fault talk
while_running (AtInput talk) next = AtInput talk

-- this number of statements of a program are done, unless there are fewer to do
abbrev pub stage_after : LoneSetting → List Statement → ℕ → LoneProcess → LoneStage
stage_after g program zero p = Running p
stage_after g program (suc n) p = while_running (next_stage g program p) (stage_after g program n)
