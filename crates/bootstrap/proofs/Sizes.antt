-- No Step changes how many bytes memory has: each act keeps the size of memory, and so does what is made of acts.
use Rattle.std.proofs.Common.{◌≡◌, ℕ, zero, suc, ◌+◌, ◌*◌, ◌==◌, Bool, true, false, not, nat_lt}
use Rattle.std.proofs.Common.{List, length, Option, Some, None, Result, Ok, Err, if◌then◌else◌, refl, ◌∙◌, ap}
use Rattle.node_memory.specs.Bytes.{first_address, with_byte, with_word, copied}
use Rattle.node_memory.specs.Effect.{Effect, Gave, Halted, tried, copy, perform, beside}
use Rattle.node_memory.specs.Marks.{not_process}
use Rattle.node_memory.specs.Words.{◌⊕◌}
use Rattle.node_memory.specs.declared.fault.Fault.{Fault}
use Rattle.node_memory.specs.Laws.{WordKeepsTheSize, ByteKeepsTheSize, CopyKeepsTheSize}
use Rattle.process_queue.specs.declared.queue.Queue.{Queue}
use Rattle.process_queue.specs.Queue.{after_put, after_take}
use Rattle.link_channels.specs.declared.link.Link.{Link}
use Rattle.link_channels.specs.declared.link.FourLinks.{FourLinks}
use Rattle.link_channels.specs.declared.number.LinkNumber.{LinkNumber}
use Rattle.link_channels.specs.declared.channel.Channel.{Channel}
use Rattle.link_channels.specs.declared.channel.Channel.TheVariants as channel
use Rattle.link_channels.specs.declared.process.Process.{Process}
use Rattle.link_channels.specs.declared.process.Transfer.{Transfer}
use Rattle.link_channels.specs.Links.{at, within, byte_taken}
use Rattle.link_channels.specs.Service.{complete, input_of_buffer, wakes, serve_link, serve_all}
use Rattle.link_channels.specs.Soft.{wait_there, exchange, input_from, output_to}
use Rattle.link_channels.specs.Soft.{soft_input, soft_output, soft_enable, soft_disable, soft_reset}
use Rattle.link_channels.specs.Messages.{disable_at, enable_at, input_at, output_at, reset_at}
use Rattle.t414_decode.specs.declared.instruction.PlainOperation.{PlainOperation}
use Rattle.t414_decode.specs.declared.instruction.PlainOperation.TheVariants as op
use Rattle.t414_decode.specs.declared.instruction.ChannelOperation.{ChannelOperation}
use Rattle.t414_decode.specs.declared.instruction.ChannelOperation.TheVariants.{InputMessage}
use Rattle.t414_decode.specs.declared.instruction.Operation.{Operation}
use Rattle.t414_decode.specs.declared.instruction.Operation.TheVariants as operation
use Rattle.t414_decode.specs.declared.instruction.Function.{Function}
use Rattle.t414_decode.specs.declared.instruction.Function.TheVariants.{Jump}
use Rattle.t414_step.specs.declared.cpu.Cpu.{Cpu}
use Rattle.t414_step.specs.declared.stepping.Stepped.{Stepped}
use Rattle.t414_step.specs.ChannelRows.{channel_row}
use Rattle.t414_step.specs.Rows.{operate, direct, row, error_if, slice}
use Rattle.t414_step.specs.Step.{StepEffect, byte_done, resumed_at, step}
use Rattle.bootstrap.specs.Boot.{or_kept, freed, shifted_down}
use Rattle.bootstrap.specs.Step.{node_step, step_by_state, ran, fed, controlled, offered, given, loaded_to}
use Rattle.bootstrap.specs.Steps.{after_steps}
use Rattle.bootstrap.specs.declared.node.Node.{Node}
use Rattle.bootstrap.specs.declared.state.NodeState.{NodeState}
use Rattle.bootstrap.specs.declared.state.NodeState.TheVariants.{WantsControl, Takes, Answers, Runs}
use Rattle.bootstrap.specs.declared.state.NodeState.TheVariants as state
use Rattle.bootstrap.specs.declared.state.Task.{Task}
use Rattle.bootstrap.specs.declared.state.Task.TheVariants.{Poke, Peek, Load}
use Rattle.bootstrap.proofs.Counting.{after_steps-zero, after_steps-suc}

-- the memory that an effect leaves
abbrev pub memory_of : {A S : Type 0} → Effect A S → List ℕ
memory_of (Gave x s m) = m
memory_of (Halted fault s m) = m

-- memory has that many bytes afterwards
pub record Sized {A S : Type 0} (k : ℕ) (r : Effect A S) : Type 0 where
  pub size : length (memory_of r) ≡ k

gave : {A S : Type 0} (x : A) (s : S) (m : List ℕ) (k : ℕ) → length m ≡ k → Sized k (Gave x s m)
gave x s m k same = record { size = same }

halted : {A S : Type 0} (fault : Fault) (s : S) (m : List ℕ) (k : ℕ) → length m ≡ k
    → Sized {A = A} k (Halted fault s m)
halted fault s m k same = record { size = same }

keeps-if : {A S : Type 0} (b : Bool) (effect other_effect : Effect A S) (k : ℕ) → Sized k effect → Sized k other_effect
    → Sized k (if b then effect else other_effect)
keeps-if true effect other_effect k holds known = holds
keeps-if false effect other_effect k holds known = known

keeps-tried : {A B S : Type 0} (outcome : Result B Fault) (s : S) (m : List ℕ) (next : B → Effect A S) (k : ℕ)
    → length m ≡ k → ((x : B) → Sized k (next x))
    → Sized k (tried outcome s m next)
keeps-tried (Ok x) s m next k same holds = holds x
keeps-tried (Err fault) s m next k same holds = record { size = same }

keeps-written : {A S : Type 0} (outcome : Result (List ℕ) Fault) (s : S) (m : List ℕ)
    (next : List ℕ → Effect A S) (k : ℕ)
    → ((n : List ℕ) → outcome ≡ Ok n → length n ≡ length m) → length m ≡ k
    → ((n : List ℕ) → length n ≡ k → Sized k (next n))
    → Sized k (tried outcome s m next)
keeps-written (Ok n) s m next k holds same known = known n (holds n refl ∙ same)
keeps-written (Err fault) s m next k holds same known = record { size = same }

keeps-perform : {A B S : Type 0} (effect : Effect B S) (next : B × S × List ℕ → Effect A S) (k : ℕ)
    → Sized k effect → ((x : B) (s : S) (m : List ℕ) → length m ≡ k → Sized k (next (x, s, m)))
    → Sized k (perform effect next)
keeps-perform (Gave x s m) next k holds known = known x s m holds.size
keeps-perform (Halted fault s m) next k holds known = record { size = holds.size }

keeps-beside : {A B S T : Type 0} (s : S) (effect : Effect B T) (next : B × T × List ℕ → Effect A S) (k : ℕ)
    → Sized k effect → ((x : B) (t : T) (m : List ℕ) → length m ≡ k → Sized k (next (x, t, m)))
    → Sized k (beside s effect next)
keeps-beside s (Gave x t m) next k holds known = known x t m holds.size
keeps-beside s (Halted fault t m) next k holds known = record { size = holds.size }

keeps-within : {A : Type 0} (n : LinkNumber) (ls : FourLinks) (effect : Effect A Link) (k : ℕ) → Sized k effect
    → Sized k (within n ls effect)
keeps-within n ls (Gave x l m) k holds = record { size = holds.size }
keeps-within n ls (Halted fault l m) k holds = record { size = holds.size }

keeps-error : (b : Bool) (s : Cpu) (ls : FourLinks) (m : List ℕ) (k : ℕ) → length m ≡ k → Sized k (error_if b s ls m)
keeps-error false s ls m k same = gave s ls m k same
keeps-error true s ls m k same = search (keeps-if, gave, halted)

-- writes and copies change no size: the laws of memory, on which all that follows rests
module _ (words : WordKeepsTheSize) (bytes : ByteKeepsTheSize) (copies : CopyKeepsTheSize) where
  keeps-store : {A S : Type 0} (s : S) (m : List ℕ) (a w : ℕ) (next : List ℕ → Effect A S) (k : ℕ)
      → length m ≡ k → ((n : List ℕ) → length n ≡ k → Sized k (next n))
      → Sized k (tried (with_word m a w) s m next)
  keeps-store s m a w next k same holds = keeps-written (with_word m a w) s m next k (λ n h. words m n a w h) same holds

  keeps-store_byte : {A S : Type 0} (s : S) (m : List ℕ) (a b : ℕ) (next : List ℕ → Effect A S) (k : ℕ)
      → length m ≡ k → ((n : List ℕ) → length n ≡ k → Sized k (next n))
      → Sized k (tried (with_byte m a b) s m next)
  keeps-store_byte s m a b next k same holds = keeps-written (with_byte m a b) s m next k
      (λ n h. bytes m n a b h) same holds

  keeps-copy : {A S : Type 0} (s : S) (m : List ℕ) (count from to : ℕ) (next : List ℕ → Effect A S) (k : ℕ)
      → length m ≡ k → ((n : List ℕ) → length n ≡ k → Sized k (next n))
      → Sized k (copy s m count from to next)
  keeps-copy s m count from to next k same holds =
      let copied_size : length (copied count m from to).1 ≡ k = copies count m from to ∙ same in
      keeps-tried (copied count m from to).0 s (copied count m from to).1 (λ _. next (copied count m from to).1) k
      copied_size (λ x. holds (copied count m from to).1 copied_size)

  ruleset parts = (gave, halted, keeps-if, keeps-tried, keeps-perform, keeps-beside, keeps-within)

  ruleset acts = (parts, keeps-store, keeps-store_byte, keeps-copy)

  -- the queue
  size-put : (q : Queue) (m : List ℕ) (w k : ℕ) → length m ≡ k → Sized k (after_put q m w)
  unfolding after_put
  size-put q m w k same = search acts depth 12

  size-take : (q : Queue) (m : List ℕ) (k : ℕ) → length m ≡ k → Sized k (after_take q m)
  unfolding after_take
  size-take q m k same = search acts depth 12

  -- the operations of the table, but for those on channels
  size-slice : (s : Cpu) (ls : FourLinks) (m : List ℕ) (k : ℕ) → length m ≡ k → Sized k (slice s ls m)
  size-slice s ls m k same = search (acts, size-put) depth 12

  size-row : (operation : PlainOperation) (s : Cpu) (ls : FourLinks) (m : List ℕ) (k : ℕ) → length m ≡ k
      → Sized k (row operation s ls m)
  unfolding row
  size-row op.Reverse s ls m k same = gave _ ls m k same
  size-row operation s ls m k same = search (acts, keeps-error, size-put, size-slice) depth 12

  -- services of links
  size-complete : (channel : ℕ) (l : Link) (q : Queue) (m : List ℕ) (k : ℕ) → length m ≡ k
      → Sized k (complete channel l q m)
  size-complete channel l q m k same = search (acts, size-put) depth 12

  size-input_of : (byte : Option ℕ) (channel : ℕ) (l : Link) (q : Queue) (m : List ℕ) (k : ℕ) → length m ≡ k
      → Sized k (input_of_buffer byte channel l q m)
  size-input_of None channel l q m k same = gave _ l m k same
  size-input_of (Some byte) channel l q m k same = search (acts, size-complete) depth 12

  size-wakes : (other : Option ℕ) (l : Link) (q : Queue) (m : List ℕ) (k : ℕ) → length m ≡ k
      → Sized k (wakes other l q m)
  size-wakes None l q m k same = gave _ l m k same
  size-wakes (Some v) l q m k same = search (acts, size-put) depth 12

  size-serve_link : (i output : ℕ) (l : Link) (q : Queue) (m : List ℕ) (k : ℕ) → length m ≡ k
      → Sized k (serve_link i output l q m)
  unfolding serve_link
  size-serve_link i output l q m k same = search (acts, size-complete, size-input_of, size-wakes) depth 12

  size-serve_all : (ls : FourLinks) (q : Queue) (m : List ℕ) (k : ℕ) → length m ≡ k → Sized k (serve_all ls q m)
  unfolding serve_all
  size-serve_all ls q m k same = search (acts, size-serve_link) depth 12

  -- messages on channels
  size-wait_there : {L : Type 0} (p : Process) (t : Transfer) (l : L) (q : Queue) (m : List ℕ) (k : ℕ) → length m ≡ k
      → Sized k (wait_there p t l q m)
  size-wait_there p t l q m k same = search acts depth 12

  size-exchange : {L : Type 0} (from to v : ℕ) (t : Transfer) (l : L) (q : Queue) (m : List ℕ) (k : ℕ) → length m ≡ k
      → Sized k (exchange from to v t l q m)
  size-exchange from to v t l q m k same = search (acts, size-put) depth 12

  size-input_from : (other : Option ℕ) (p : Process) (t : Transfer) (ls : FourLinks) (q : Queue) (m : List ℕ) (k : ℕ)
      → length m ≡ k
      → Sized k (input_from other p t ls q m)
  size-input_from None p t ls q m k same = size-wait_there p t ls q m k same
  size-input_from (Some v) p t ls q m k same = search (acts, size-exchange) depth 12

  size-output_to : (other : Option ℕ) (p : Process) (t : Transfer) (ls : FourLinks) (q : Queue) (m : List ℕ) (k : ℕ)
      → length m ≡ k
      → Sized k (output_to other p t ls q m)
  size-output_to None p t ls q m k same = size-wait_there p t ls q m k same
  size-output_to (Some v) p t ls q m k same = search (acts, size-put, size-wait_there, size-exchange) depth 12

  size-input_at : (kind : Channel) (p : Process) (t : Transfer) (ls : FourLinks) (q : Queue)
      (m : List ℕ) (k : ℕ)
      → length m ≡ k
      → Sized k (input_at kind p t ls q m)
  unfolding soft_input
  size-input_at channel.Event p t ls q m k same = halted _ ls m k same
  size-input_at kind p t ls q m k same = search (acts, size-input_from) depth 12

  size-output_at : (kind : Channel) (p : Process) (t : Transfer) (ls : FourLinks) (q : Queue)
      (m : List ℕ) (k : ℕ)
      → length m ≡ k
      → Sized k (output_at kind p t ls q m)
  unfolding soft_output
  size-output_at channel.Event p t ls q m k same = halted _ ls m k same
  size-output_at kind p t ls q m k same = search (acts, size-output_to) depth 12

  size-enable_at : (kind : Channel) (p : Process) (a : ℕ) (ls : FourLinks) (m : List ℕ) (k : ℕ) → length m ≡ k
      → Sized k (enable_at kind p a ls m)
  unfolding soft_enable
  size-enable_at channel.Event p a ls m k same = halted _ ls m k same
  size-enable_at kind p a ls m k same = search acts depth 12

  size-disable_at : (kind : Channel) (p : Process) (a offset : ℕ) (ls : FourLinks) (m : List ℕ)
      (k : ℕ) → length m ≡ k
      → Sized k (disable_at kind p a offset ls m)
  unfolding soft_disable
  size-disable_at channel.Event p a offset ls m k same = halted _ ls m k same
  size-disable_at kind p a offset ls m k same = search acts depth 12

  size-reset_at : (kind : Channel) (a : ℕ) (ls : FourLinks) (m : List ℕ) (k : ℕ) → length m ≡ k
      → Sized k (reset_at kind a ls m)
  unfolding soft_reset
  size-reset_at channel.Event a ls m k same = halted _ ls m k same
  size-reset_at kind a ls m k same = search acts depth 12

  size-channel_row : (operation : ChannelOperation) (s : Cpu) (ls : FourLinks) (m : List ℕ) (k : ℕ) → length m ≡ k
      → Sized k (channel_row operation s ls m)
  unfolding channel_row
  size-channel_row InputMessage s ls m k same = search (acts, size-input_at) depth 12
  size-channel_row operation s ls m k same =
      search (acts, size-output_at, size-enable_at, size-disable_at, size-reset_at) depth 12

  size-operate : (operation : Option Operation) (operand : ℕ) (s : Cpu) (ls : FourLinks) (m : List ℕ)
      (k : ℕ) → length m ≡ k
      → Sized k (operate operation operand s ls m)
  size-operate None operand s ls m k same = halted _ ls m k same
  size-operate (Some (operation.Plain x)) operand s ls m k same = size-row x s ls m k same
  size-operate (Some (operation.Channel x)) operand s ls m k same = size-channel_row x s ls m k same

  -- the functions of the table
  size-direct : (function : Function) (operand : ℕ) (s : Cpu) (ls : FourLinks) (m : List ℕ) (k : ℕ) → length m ≡ k
      → Sized k (direct function operand s ls m)
  unfolding direct
  size-direct Jump operand s ls m k same = size-slice _ ls m k same
  size-direct function operand s ls m k same = search (acts, keeps-error, size-operate) depth 12

  -- one instruction byte, and a step of the processor
  size-byte : (s : Cpu) (ls : FourLinks) (m : List ℕ) (k : ℕ) → length m ≡ k → Sized k (byte_done s ls m)
  unfolding byte_done
  size-byte s ls m k same = search (acts, size-direct) depth 12

  size-resumed_at : (number : Option ℕ) (s : Cpu) (m : List ℕ) (k : ℕ) → length m ≡ k → Sized k (resumed_at number s m)
  size-resumed_at None s m k same = gave _ s m k same
  size-resumed_at (Some w) s m k same = search acts depth 12

  size-step : (s : Cpu) (ls : FourLinks) (m : List ℕ) (k : ℕ) → length m ≡ k → Sized k (step s ls m)
  unfolding step
  size-step s ls m k same = search (acts, size-serve_all, size-take, size-resumed_at, size-byte) depth 12

  -- what booting writes
  size-kept : (outcome : Result (List ℕ) Fault) (m : List ℕ) → ((n : List ℕ) → outcome ≡ Ok n → length n ≡ length m)
      → length (or_kept outcome m) ≡ length m
  size-kept (Ok n) m holds = holds n refl
  size-kept (Err fault) m holds = refl

  size-freed : (i : ℕ) (m : List ℕ) → length (freed i m) ≡ length m
  size-freed zero m = refl
  size-freed (suc i) m =
      size-kept (with_word (freed i m) (first_address + 4 * i) not_process) (freed i m)
      (λ n h. words (freed i m) n (first_address + 4 * i) not_process h)
      ∙ size-freed i m

  node-if : (b : Bool) (x y : Node) (k : ℕ) → length x.memory ≡ k → length y.memory ≡ k
      → length (if b then x else y).memory ≡ k
  node-if true x y k same equal = same
  node-if false x y k same equal = equal

  size-loaded : (left end : ℕ) (link : LinkNumber) (m : List ℕ) (n : Node) (k : ℕ) → length m ≡ k
      → length (loaded_to left end link m n).memory ≡ k
  size-loaded left end link m n k same = node-if (nat_lt 1 left) _ _ k same (size-freed 9 m ∙ same)

  size-given : (task : Task) (byte : ℕ) (link : LinkNumber) (n : Node)
      → length (given task byte link n).memory ≡ length n.memory
  size-given (Poke left address word) byte link n =
      node-if (nat_lt 4 left) _ _ (length n.memory) refl
      (node-if (nat_lt 1 left) _ _ (length n.memory) refl
      (size-kept (with_word n.memory address (shifted_down byte word)) n.memory
      (λ k h. words n.memory k address (shifted_down byte word) h)))
  size-given (Peek left address) byte link n = node-if (nat_lt 1 left) _ _ (length n.memory) refl refl
  size-given (Load left address) byte link n =
      size-loaded left (address ⊕ 1) link (or_kept (with_byte n.memory address byte) n.memory) n (length n.memory)
      (size-kept (with_byte n.memory address byte) n.memory (λ k h. bytes n.memory k address byte h))

  size-fed : (byte : Option ℕ) (next : ℕ → Node) (n : Node) (k : ℕ)
      → length n.memory ≡ k → ((x : ℕ) → length (next x).memory ≡ k)
      → length (fed byte next n).0.memory ≡ k
  size-fed None next n k same holds = same
  size-fed (Some byte) next n k same holds = holds byte

  size-controlled : (link : Option LinkNumber) (n : Node) → length (controlled link n).0.memory ≡ length n.memory
  size-controlled None n = refl
  size-controlled (Some link) n = size-fed (at link n.links).end.input.buffer _ n (length n.memory) refl (λ byte. refl)

  pair-if : (b : Bool) (pair other_pair : Node × Stepped) (k : ℕ) → length pair.0.memory ≡ k
      → length other_pair.0.memory ≡ k
      → length (if b then pair else other_pair).0.memory ≡ k
  pair-if true pair other_pair k same equal = same
  pair-if false pair other_pair k same equal = equal

  size-ran : (effect : StepEffect) (k : ℕ) → Sized k effect → length (ran effect).0.memory ≡ k
  size-ran (Gave (true, s) ls m) k holds = holds.size
  size-ran (Gave (false, s) ls m) k holds = holds.size
  size-ran (Halted fault ls m) k holds = holds.size

  size-state : (st : NodeState) (n : Node) → length (step_by_state st n).0.memory ≡ length n.memory
  size-state WantsControl n = size-controlled (offered n.links) n
  size-state (Takes link task) n =
      size-fed (at link n.links).end.input.buffer _ n (length n.memory) refl
      (λ byte. size-given task byte link (record n { links = byte_taken link n.links }))
  size-state (Answers link left word) n =
      pair-if (not (at link n.links).end.output.acknowledged) _ _ (length n.memory) refl
      (pair-if (left == 0) _ _ (length n.memory) refl refl)
  size-state (Runs s) n =
      size-ran (step s n.links n.memory) (length n.memory) (size-step s n.links n.memory (length n.memory) refl)
  size-state (state.Halted fault) n = refl

  -- a Step changes no size, and so do several
  pub size-node_step : (n : Node) → length (node_step n).0.memory ≡ length n.memory
  unfolding node_step
  size-node_step n = size-state n.state n

  -- Steps keep the size of memory
  pub size-after_steps : (k : ℕ) (n : Node) → length (after_steps k n).memory ≡ length n.memory
  size-after_steps zero n = ap (λ (x : Node). length x.memory) (after_steps-zero n)
  size-after_steps (suc k) n =
      ap (λ (x : Node). length x.memory) (after_steps-suc k n) ∙ size-node_step (after_steps k n) ∙ size-after_steps k n
