-- Soft channels: two processes of one node meet at a word of its memory.
-- Transputer instruction set handbook, in, out, enbc, disc, resetch.
use Rattle.std.specs.Prelude.{ℕ, ◌==◌, ◌||◌, Bool, true, false, List, Option, Some, None, if◌then◌else◌}
use Rattle.node_memory.specs.Effect.{Effect, Gave, ◌>>=◌, tried, load, store, copy}
use Rattle.node_memory.specs.Marks.{not_process, enabling, waiting, ready, none_selected}
use Rattle.process_queue.specs.Queue.{put}
use Rattle.process_queue.specs.declared.queue.Queue.{Queue}
use Rattle.link_channels.specs.declared.process.Process.{Process}
use Rattle.link_channels.specs.declared.process.Transfer.{Transfer}
use Rattle.link_channels.specs.declared.process.TransferDirection.{TransferDirection}
use Rattle.link_channels.specs.declared.process.TransferDirection.TheVariants.{Input, Output}
use Rattle.link_channels.specs.declared.process.TransferOutcome.{TransferOutcome}
use Rattle.link_channels.specs.declared.process.TransferOutcome.TheVariants.{GoesOn, Waits}
use Rattle.link_channels.specs.Waiting.{waiting_at, descriptor_of, state_address, save}

-- wait there: the channel becomes the own descriptor, the word 12 below the workspace the pointer, save, leave
abbrev pub wait_there : {L : Type 0} → Process → Transfer → L → Queue → List ℕ → Effect (TransferOutcome × Queue) L
wait_there p t ls q m = do
  m ← store ls m t.channel (descriptor_of p)
  m ← store ls m (state_address p.workspace) t.pointer
  m ← save ls m p
  Gave (Waits, q) ls m

-- the bytes are copied, the channel becomes NotProcess, and the other process is put
abbrev pub exchange : {L : Type 0} → ℕ → ℕ → ℕ → Transfer → L → Queue → List ℕ
    → Effect (TransferOutcome × Queue) L
exchange from to v t ls q m = do
  m ← copy ls m t.count from to
  m ← store ls m t.channel not_process
  (q, m) ← put ls q m v
  Gave (GoesOn, q) ls m

-- in, by who waits at the channel: the other's pointer lies 12 below its workspace
abbrev pub input_from : {L : Type 0} → Option ℕ → Process → Transfer → L → Queue → List ℕ
    → Effect (TransferOutcome × Queue) L
input_from None p t ls q m = wait_there p t ls q m
input_from (Some v) p t ls q m = do
  source ← load ls m (state_address v)
  exchange source t.pointer v t ls q m

-- in, at a soft channel
unfoldable pub soft_input : {L : Type 0} → Process → Transfer → L → Queue → List ℕ
    → Effect (TransferOutcome × Queue) L
soft_input p t ls q m = do
  other ← tried (waiting_at m t.channel) ls m
  input_from other p t ls q m

-- out to an alternative, which becomes ready, and runs if it waited: the message waits for its input
abbrev pub message_told : {L : Type 0} → Bool → ℕ → Process → Transfer → L → Queue → List ℕ
    → Effect (TransferOutcome × Queue) L
message_told waits v p t ls q m = do
  m ← store ls m (state_address v) ready
  if waits then (do (q, m) ← put ls q m v; wait_there p t ls q m) else wait_there p t ls q m

-- out to a process that waits, by the word 12 below its workspace: the state of an alternative, or the pointer of an
-- input
abbrev pub soft_output_by_state : {L : Type 0} → ℕ → ℕ → Process → Transfer → L → Queue → List ℕ
    → Effect (TransferOutcome × Queue) L
soft_output_by_state s v p t ls q m =
    if s == enabling || s == ready then message_told false v p t ls q m
    else (if s == waiting then message_told true v p t ls q m else exchange t.pointer s v t ls q m)

-- out, by who waits at the channel
abbrev pub output_to : {L : Type 0} → Option ℕ → Process → Transfer → L → Queue → List ℕ
    → Effect (TransferOutcome × Queue) L
output_to None p t ls q m = wait_there p t ls q m
output_to (Some v) p t ls q m = do
  s ← load ls m (state_address v)
  soft_output_by_state s v p t ls q m

-- out, at a soft channel
unfoldable pub soft_output : {L : Type 0} → Process → Transfer → L → Queue → List ℕ
    → Effect (TransferOutcome × Queue) L
soft_output p t ls q m = do
  other ← tried (waiting_at m t.channel) ls m
  output_to other p t ls q m

-- in or out, at a soft channel
abbrev pub soft_transferred : {L : Type 0} → TransferDirection → Process → Transfer → L → Queue → List ℕ
    → Effect (TransferOutcome × Queue) L
soft_transferred Input p t ls q m = soft_input p t ls q m
soft_transferred Output p t ls q m = soft_output p t ls q m

-- enbc, if the guard isn't 0
unfoldable pub soft_enable : {L : Type 0} → Process → ℕ → L → List ℕ → Effect (Unit {0}) L
soft_enable p channel ls m = do
  c ← load ls m channel
  if c == not_process then (do m ← store ls m channel (descriptor_of p); Gave tt ls m)
      else (if c == descriptor_of p then Gave tt ls m
      else (do m ← store ls m (state_address p.workspace) ready; Gave tt ls m))

-- the branch is the one that the alternative chooses, unless one was chosen before
abbrev pub chosen : {L : Type 0} → Process → ℕ → L → List ℕ → Effect Bool L
chosen p offset ls m = do
  selected ← load ls m p.workspace
  if selected == none_selected then (do m ← store ls m p.workspace offset; Gave true ls m) else Gave false ls m

-- disc, if the guard isn't 0
unfoldable pub soft_disable : {L : Type 0} → Process → ℕ → ℕ → L → List ℕ → Effect Bool L
soft_disable p channel offset ls m = do
  c ← load ls m channel
  if c == not_process then Gave false ls m
      else (if c == descriptor_of p then (do m ← store ls m channel not_process; Gave false ls m)
      else chosen p offset ls m)

-- resetch: the word that the channel had, which becomes NotProcess
unfoldable pub soft_reset : {L : Type 0} → ℕ → L → List ℕ → Effect ℕ L
soft_reset channel ls m = do
  c ← load ls m channel
  m ← store ls m channel not_process
  Gave c ls m
