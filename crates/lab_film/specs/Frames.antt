-- What a frame of a film says of a domain at a moment.
-- Transputer instruction set handbook, processes: the word 4 below a workspace is where the process goes on, and that
-- 8 below it is the workspace of the next process in the queue.
use Rattle.std.specs.Prelude.{◌≡◌, ◌+◌, ◌==◌, ℕ, List, [], ◌∷◌, map, take, Option, Some, None, Result, Ok, Err}
use Rattle.std.specs.Prelude.{slice_get, if◌then◌else◌}
use Rattle.std.specs.Option.{option_map, option_and_then}
use Rattle.node_memory.specs.Bytes.{word_at}
use Rattle.node_memory.specs.Marks.{not_process}
use Rattle.node_memory.specs.Words.{◌⊕◌, ◌⊖◌}
use Rattle.node_memory.specs.declared.fault.Fault.{Fault}
use Rattle.process_queue.specs.declared.queue.Queue.{Queue}
use Rattle.link_channels.specs.Links.{at, every_link}
use Rattle.link_channels.specs.declared.process.Process.{Process}
use Rattle.t414_step.specs.declared.cpu.Cpu.{Cpu}
use Rattle.bootstrap.specs.declared.state.NodeState.{NodeState}
use Rattle.bootstrap.specs.declared.state.NodeState.TheVariants.{Runs, WantsControl, Takes, Answers, Halted}
use Rattle.bootstrap.specs.declared.node.Node.{Node}
use Rattle.bootstrap.specs.Seen.{seen}
use Rattle.domain_core.specs.Hosts.{HostState}
use Rattle.domain_core.specs.Moments.{MomentValue, state_at}
use Rattle.lab_film.specs.declared.frame.NodeFrame.{NodeFrame}
use Rattle.lab_film.specs.declared.frame.HostFrame.{HostFrame}
use Rattle.lab_film.specs.declared.frame.Frame.{Frame}

-- a word, if its address is one of memory
abbrev pub word_read : Result ℕ Fault → Option ℕ
word_read (Ok word) = Some word
word_read (Err fault) = None

-- the registers of a node, if it runs
abbrev pub registers_in : NodeState → Option Cpu
registers_in (Runs s) = Some s
registers_in WantsControl = None
registers_in (Takes link task) = None
registers_in (Answers link left word) = None
registers_in (Halted fault) = None

-- the word at this offset above the workspace
abbrev pub workspace_word : Node → ℕ → Option ℕ
workspace_word n offset =
    option_and_then (λ s. word_read (word_at n.memory (s.workspace ⊕ offset))) (registers_in n.state)

-- a process that waits for the processor, by its workspace
abbrev pub queued : List ℕ → ℕ → Option Process
queued m w = option_map (λ i. record { workspace = w; instruction = i }) (word_read (word_at m (w ⊖ 4)))

-- the first process of a queue
abbrev pub queued_first : List ℕ → Queue → Option Process
queued_first m q = if q.front == not_process then None else queued m q.front

-- the process after another one in a queue
abbrev pub queued_behind : List ℕ → Queue → Process → Option Process
queued_behind m q p =
    if p.workspace == q.back then None
    else option_and_then (queued m) (word_read (word_at m (p.workspace ⊖ 8)))

-- the first process that waits for the processor of a node
abbrev pub first_waiting : Node → Option Process
first_waiting n = option_and_then (λ s. queued_first n.memory s.queue) (registers_in n.state)

-- the one after another, if there are both
abbrev pub next_waiting : Node → Option Process → Option Process
next_waiting n before =
    option_and_then (λ s. option_and_then (queued_behind n.memory s.queue) before) (registers_in n.state)

-- the first four that wait, front first
abbrev pub waiting_in : Node → List (Option Process)
waiting_in n =
    let one = first_waiting n in
    let two = next_waiting n one in
    let three = next_waiting n two in
    one ∷ two ∷ three ∷ next_waiting n three ∷ []

-- what a frame shows of a node: what a look shows of it, what it is doing, eight words from its workspace on, the first
-- processes that wait for the processor, and its links
abbrev pub node_frame : Node → NodeFrame
node_frame n = record {
  seen = seen n;
  state = n.state;
  workspace = map (workspace_word n) (0 ∷ 4 ∷ 8 ∷ 12 ∷ 16 ∷ 20 ∷ 24 ∷ 28 ∷ []);
  waiting = waiting_in n;
  links = map (λ number. at number n.links) every_link;
}

-- the queues of a host
abbrev pub ShowsHost : HostState → HostFrame → Type 0
ShowsHost h f = (f.sending.items ≡ h.sending) × (f.received.items ≡ h.received)

-- a host of the domain is shown if it is there
abbrev pub ShowsHostOf : Option HostState → Option HostFrame → Type 0
ShowsHostOf None None = Unit {0}
ShowsHostOf (Some h) (Some f) = ShowsHost h f
ShowsHostOf None (Some f) = ⊥
ShowsHostOf (Some h) None = ⊥

-- a node of the domain, if it is there
abbrev pub node_told : MomentValue → ℕ → Option NodeFrame
node_told m number = option_map node_frame (slice_get (state_at m).machine.devices.nodes number)

-- the hosts of the domain are shown from this number on
abbrev pub ShowsHosts : MomentValue → ℕ → List (Option HostFrame) → Type 0
ShowsHosts m number [] = Unit {0}
ShowsHosts m number (f ∷ more) =
    ShowsHostOf (slice_get (state_at m).machine.devices.hosts number) f × ShowsHosts m (number + 1) more

-- a frame has the number of recorded events, the words of the outputs, and the nodes and the hosts of the state at the
-- moment
pub record Shows (m : MomentValue) (f : Frame) : Type 0 where
  pub recorded : f.recorded ≡ (state_at m).recorded
  pub words : f.words.items ≡ take m.machine.part.count m.machine.switch.words
  pub nodes : f.nodes ≡ map (node_told m) (0 ∷ 1 ∷ 2 ∷ 3 ∷ 4 ∷ 5 ∷ 6 ∷ 7 ∷ [])
  pub hosts : ShowsHosts m 0 f.hosts
