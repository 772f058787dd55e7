-- The list of workspaces that the queue's registers and the link words stand for, front first.
-- Transputer instruction set handbook, processes.
use Rattle.std.specs.Prelude.{◌≡◌, ◌≢◌, ℕ, ◌%◌, ◌^◌, ◌<◌, List, [], ◌∷◌, Option, Some, None, Ok}
use Rattle.node_memory.specs.Bytes.{word_at}
use Rattle.process_queue.specs.declared.queue.Queue.{Queue}
use Rattle.node_memory.specs.Marks.{not_process}
use Rattle.process_queue.specs.Queue.{link_of}

-- a word address that stands for a process
pub record IsWorkspace (w : ℕ) : Type 0 where
  pub word : w % 4 ≡ 0
  pub fits : w < 2 ^ 32
  pub process : w ≢ not_process

-- a workspace that is not in a list
abbrev pub IsAbsent : ℕ → List ℕ → Type 0
IsAbsent w [] = Unit {0}
IsAbsent w (v ∷ vs) = (w ≢ v) × IsAbsent w vs

-- distinct workspaces
abbrev pub AreWorkspaces : List ℕ → Type 0
AreWorkspaces [] = Unit {0}
AreWorkspaces (w ∷ ws) = IsWorkspace w × (IsAbsent w ws × AreWorkspaces ws)

-- from w on the link words lead through these, and the last of all is back
abbrev pub IsLinked : List ℕ → ℕ → List ℕ → ℕ → Type 0
IsLinked m w [] back = back ≡ w
IsLinked m w (v ∷ vs) back = (word_at m (link_of w) ≡ Ok v) × IsLinked m v vs back

-- the registers and memory stand for a list, the front first
abbrev pub Stands : List ℕ → Queue → List ℕ → Type 0
Stands m q [] = q.front ≡ not_process
Stands m q (w ∷ ws) = (q.front ≡ w) × (IsLinked m w ws q.back × AreWorkspaces (w ∷ ws))

-- the first of a list, and the others
abbrev pub first : List ℕ → Option ℕ
first [] = None
first (w ∷ ws) = Some w

-- a list without its first
abbrev pub others : List ℕ → List ℕ
others [] = []
others (w ∷ ws) = ws
