-- What a process leaves in memory when it waits, and who waits at a channel.
-- Transputer instruction set handbook, processes and channels.
use Rattle.std.specs.Prelude.{ℕ, ◌%◌, ◌==◌, List, Option, Some, None, Result, Ok, Err, if◌then◌else◌, bit_or}
use Rattle.node_memory.specs.Bytes.{word_at}
use Rattle.node_memory.specs.Effect.{Effect, Gave, Halted, ◌>>=◌, store}
use Rattle.node_memory.specs.Marks.{not_process}
use Rattle.node_memory.specs.Words.{◌⊖◌, aligned}
use Rattle.node_memory.specs.declared.fault.Fault.{Fault}
use Rattle.node_memory.specs.declared.fault.Fault.TheVariants.{HighPriority}
use Rattle.process_queue.specs.Queue.{put}
use Rattle.process_queue.specs.declared.queue.Queue.{Queue}
use Rattle.link_channels.specs.declared.process.Process.{Process}

-- the own descriptor: the workspace, with the bit of low priority
abbrev pub descriptor_of : Process → ℕ
descriptor_of p = bit_or p.workspace 1

-- the pointer of a transfer, or the state of an alternative, lies 12 below a workspace
abbrev pub state_address : ℕ → ℕ
state_address workspace = workspace ⊖ 12

-- save: the word 4 below the workspace becomes the address of the next instruction
abbrev pub save : {A S : Type 0} → S → List ℕ → Process → (List ℕ → Effect A S) → Effect A S
save s m p next = store s m (p.workspace ⊖ 4) p.instruction next

-- a channel word read as a descriptor: nobody, a workspace, or a process of high priority
abbrev pub described : Result ℕ Fault → Result (Option ℕ) Fault
described (Ok d) =
    if d == not_process then Ok None else (if d % 2 == 0 then Err HighPriority else Ok (Some (aligned d)))
described (Err fault) = Err fault

-- the workspace of the process that waits at a channel, if there is one
unfoldable pub waiting_at : List ℕ → ℕ → Result (Option ℕ) Fault
waiting_at m channel = described (word_at m channel)

-- the process of a descriptor goes on, unless it is NotProcess; one of high priority is fault 4
abbrev pub scheduled : {S : Type 0} → ℕ → S → Queue → List ℕ → Effect (Unit {0} × Queue) S
scheduled d s q m =
    if d == not_process then Gave (tt, q) s m
    else (if d % 2 == 0 then Halted HighPriority s m else (do (q, m) ← put s q m (aligned d); Gave (tt, q) s m))
