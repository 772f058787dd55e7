-- Why a node does no more than it does, by what it is doing and by who waits at its channels.
-- Transputer Reference Manual, links and bootstrapping; instruction set handbook, in, out, outbyte, outword, altwt and
-- endp.
use Rattle.std.specs.Prelude.{◌≡◌, ℕ, ◌+◌, ◌*◌, ◌==◌, ◌&&◌, ◌||◌, true, false, Bool, List, map, Option, Some, None, Result, Ok, Err, if◌then◌else◌}
use Rattle.std.specs.List.{filter_map, range_with_len}
use Rattle.std.specs.Option.{option_and_then}
use Rattle.node_memory.specs.Bytes.{byte_at, word_at}
use Rattle.node_memory.specs.Marks.{waiting}
use Rattle.node_memory.specs.Words.{◌⊕◌, ◌⊖◌}
use Rattle.node_memory.specs.declared.fault.Fault.{Fault}
use Rattle.link_channels.specs.Links.{at, every_link, input_channel, output_channel}
use Rattle.link_channels.specs.Waiting.{described, state_address}
use Rattle.link_channels.specs.declared.link.Link.{Link}
use Rattle.link_channels.specs.declared.number.LinkNumber.{LinkNumber}
use Rattle.link_channels.specs.declared.process.Process.{Process}
use Rattle.t414_step.specs.declared.cpu.Cpu.{Cpu}
use Rattle.bootstrap.specs.Step.{is_quiet}
use Rattle.bootstrap.specs.declared.node.Node.{Node}
use Rattle.bootstrap.specs.declared.state.NodeState.{NodeState}
use Rattle.bootstrap.specs.declared.state.NodeState.TheVariants as doing
use Rattle.node_causes.specs.declared.cause.Cause.{Cause}
use Rattle.node_causes.specs.declared.cause.Cause.TheVariants.{WantsControl, Takes, Answers, Runs, Rests, Halted}
use Rattle.node_causes.specs.declared.cause.InputWait.{InputWait}
use Rattle.node_causes.specs.declared.cause.OutputWait.{OutputWait}
use Rattle.node_causes.specs.declared.cause.LinkWaits.{LinkWaits}
use Rattle.node_causes.specs.declared.cause.Rendezvous.{Rendezvous}
use Rattle.node_causes.specs.declared.cause.Rendezvous.TheVariants.{Receives, Sends, Chooses}
use Rattle.node_causes.specs.declared.cause.InsideWait.{InsideWait}
use Rattle.node_causes.specs.declared.cause.JoinWait.{JoinWait}

-- ---- who waits at a channel

-- a process that left the processor: the word 4 below its workspace is where it goes on
abbrev pub saved_with : ℕ → Result ℕ Fault → Option Process
saved_with workspace (Ok instruction) = Some (record { workspace = workspace; instruction = instruction })
saved_with workspace (Err fault) = None

-- the process of a channel's word, unless there is none
abbrev pub saved_process : List ℕ → Result (Option ℕ) Fault → Option Process
saved_process m (Ok (Some workspace)) = saved_with workspace (word_at m (workspace ⊖ 4))
saved_process m (Ok None) = None
saved_process m (Err fault) = None

-- the process whose descriptor is in a channel's word
abbrev pub waiter_at : List ℕ → ℕ → Option Process
waiter_at m channel = saved_process m (described (word_at m channel))

-- ---- at links

-- how many bytes a process asked for with `in`, if it was the last to leave the processor: A is then as it was
abbrev pub last_asked : NodeState → Process → Option ℕ
last_asked (doing.Runs s) p = if s.workspace == p.workspace then Some s.a else None
last_asked doing.WantsControl p = None
last_asked (doing.Takes link task) p = None
last_asked (doing.Answers link left word) p = None
last_asked (doing.Halted fault) p = None

-- how many bytes a process sends in all, by the byte of the instruction in which it waits: fb is out, which has the
-- number in A as `in` has it, fe outbyte and ff outword
abbrev pub last_sent : NodeState → Process → Result ℕ Fault → Option ℕ
last_sent state p (Ok byte) =
    if byte == 0xFB then last_asked state p
    else (if byte == 0xFE then Some 1
    else (if byte == 0xFF then Some 4
    else None))
last_sent state p (Err fault) = None

-- a process waits for bytes
abbrev pub input_wait : Node → LinkNumber → Link → Option InputWait
input_wait n number l =
    if l.input_count == 0 then None
    else (let p = waiter_at n.memory (input_channel number) in
    Some (record { process = p; left = l.input_count; whole = option_and_then (last_asked n.state) p }))

-- a byte was posted, and its acknowledge hasn't come
abbrev pub output_wait : Node → LinkNumber → Link → Option OutputWait
output_wait n number l =
    if l.end.output.awaits
    then (let p = waiter_at n.memory (output_channel number) in
    let whole = option_and_then (λ p. last_sent n.state p (byte_at n.memory (p.instruction ⊖ 1))) p in
    Some (record { process = p; behind = l.output_count; whole = whole }))
    else None

-- an alternative is to be notified of a byte
abbrev pub watcher : Node → LinkNumber → Link → Option Process
watcher n number l = if l.watched then waiter_at n.memory (input_channel number) else None

-- what a link of a node is waited for
abbrev pub link_waits : Node → LinkNumber → LinkWaits
link_waits n number = let l = at number n.links in record {
  input = input_wait n number l;
  output = output_wait n number l;
  watch = watcher n number l;
}

-- ---- why

-- it runs what was loaded
abbrev pub IsLoaded : Node → Type 0
IsLoaded n = (s : Cpu) × (n.state ≡ doing.Runs s)

-- the cause of a node. Runs: its next Step would be recorded. Rests: it would not, and this is what the links are
-- waited for
abbrev pub IsCause : Node → Cause → Type 0
IsCause n WantsControl = n.state ≡ doing.WantsControl
IsCause n (Takes link task) = n.state ≡ doing.Takes link task
IsCause n (Answers link left) = (word : ℕ) × (n.state ≡ doing.Answers link left word)
IsCause n Runs = IsLoaded n × (is_quiet n ≡ false)
IsCause n (Rests waits) = IsLoaded n × (is_quiet n ≡ true) × (waits ≡ map (link_waits n) every_link)
IsCause n (Halted fault) = n.state ≡ doing.Halted fault

-- ---- at a join

-- the join of a process that ended by endp, f3, and has left the processor: A is the workspace of the join still, and
-- this is the word above it, which counts the processes that are to end
abbrev pub join_of : Cpu → Result ℕ Fault → Result ℕ Fault → Option JoinWait
join_of s (Ok byte) (Ok count) =
    if s.running then None
    else (if byte == 0xF3
    then Some (record { ended = s.instruction ⊖ 1; workspace = s.a; count = count })
    else None)
join_of s (Ok byte) (Err fault) = None
join_of s (Err fault) count = None

-- the join for which the last process ended, if it was that which left the processor last: it waits for others
abbrev pub join_wait_of : List ℕ → NodeState → Option JoinWait
join_wait_of m (doing.Runs s) = join_of s (byte_at m (s.instruction ⊖ 1)) (word_at m (s.a ⊕ 4))
join_wait_of m doing.WantsControl = None
join_wait_of m (doing.Takes link task) = None
join_wait_of m (doing.Answers link left word) = None
join_wait_of m (doing.Halted fault) = None

abbrev pub join_wait : Node → Option JoinWait
join_wait n = join_wait_of n.memory n.state

-- ---- at channels in memory

-- the state of an alternative that waits
abbrev pub is_waiting : Result ℕ Fault → Bool
is_waiting (Ok word) = word == waiting
is_waiting (Err fault) = false

-- what the instruction does that ends with this byte, for a process whose word 12 below its workspace is this one: f7
-- is in, fb out, fe outbyte and ff outword. After f4, the end of altwt, the word says whether it waits
abbrev pub met_by : ℕ → Result ℕ Fault → Option Rendezvous
met_by byte state =
    if byte == 0xF7 then Some Receives
    else (if byte == 0xFB || byte == 0xFE || byte == 0xFF then Some Sends
    else (if byte == 0xF4 && is_waiting state then Some Chooses
    else None))

-- a process waits at a channel for this, or for nothing
abbrev pub met_there : ℕ → Process → Option Rendezvous → Option InsideWait
met_there channel p (Some rendezvous) = Some (record { channel = channel; process = p; rendezvous = rendezvous })
met_there channel p None = None

-- a process that waits at the channel in this word, by the byte before the place where it goes on
abbrev pub meets_at : List ℕ → ℕ → Process → Result ℕ Fault → Option InsideWait
meets_at m channel p (Ok byte) = met_there channel p (met_by byte (word_at m (state_address p.workspace)))
meets_at m channel p (Err fault) = None

-- who waits at the channel in this word, if its process goes on after an instruction that waits
abbrev pub inside_wait_at : List ℕ → ℕ → Option InsideWait
inside_wait_at m channel =
    option_and_then (λ p. meets_at m channel p (byte_at m (p.instruction ⊖ 1))) (waiter_at m channel)

-- the words that can be channels in memory, which follow the nine of the links and of the event channel
abbrev pub inside_channels : List ℕ
inside_channels = map (λ k. 0x80000024 + 4 * k) (range_with_len 0 16375)

-- who waits at channels in memory, lowest channel first
abbrev pub inside_waits : List ℕ → List InsideWait
inside_waits m = filter_map (inside_wait_at m) inside_channels
