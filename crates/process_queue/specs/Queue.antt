-- What putting and taking do to the two registers and to memory, whatever words these hold.
-- Transputer instruction set handbook, processes: the link word lies 8 below a workspace.
use Rattle.std.specs.Prelude.{ℕ, ◌==◌, List, Option, Some, None, if◌then◌else◌}
use Rattle.node_memory.specs.Effect.{Effect, Gave, ◌>>=◌, load, store, beside}
pub use Rattle.node_memory.specs.Marks.{not_process}
use Rattle.node_memory.specs.Words.{◌⊖◌}
use Rattle.process_queue.specs.declared.queue.Queue.{Queue}

-- the address of the link word of a workspace
abbrev pub link_of : ℕ → ℕ
link_of w = w ⊖ 8

-- if none waits the workspace is first and last; else the last links to it
unfoldable pub after_put : Queue → List ℕ → ℕ → Effect (Unit {0}) Queue
after_put q m w =
    if q.front == not_process then Gave tt (record { front = w; back = w }) m
    else (do m ← store q m (link_of q.back) w; Gave tt (record { front = q.front; back = w }) m)

-- the front is taken; after the last one none waits, else the workspace that its link word names is next
unfoldable pub after_take : Queue → List ℕ → Effect (Option ℕ) Queue
after_take q m =
    if q.front == not_process then Gave None q m
    else (if q.front == q.back then Gave (Some q.front) (record { front = not_process; back = q.back }) m
    else (do next ← load q m (link_of q.front); Gave (Some q.front) (record { front = next; back = q.back }) m))

-- a workspace is put in the queue: the queue and memory then
abbrev pub put : {A S : Type 0} → S → Queue → List ℕ → ℕ → (Queue × List ℕ → Effect A S)
    → Effect A S
put s q m w next = do (done, q, m) ← beside s (after_put q m w); next (q, m)
