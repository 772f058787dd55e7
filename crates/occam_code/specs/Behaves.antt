-- What the code of a sequential process does, run by itself, in terms of what the process does.
use Rattle.std.specs.Prelude.{◌≡◌, ℕ, ◌+◌, ◌^◌, ◌<◌, ◌≤◌, ⊤, List, true, length, take, slice_get, slice_index}
use Rattle.node_memory.specs.declared.fault.Fault.{Fault}
use Rattle.node_memory.specs.declared.fault.Fault.TheVariants.{ErrorSet}
use Rattle.t414_assembly.specs.declared.statement.Statement.{Statement}
use Rattle.occam_core.specs.declared.expression.Expression.{Expression}
use Rattle.occam_core.specs.declared.process.CoreProcess.{CoreProcess}
use Rattle.occam_core.specs.declared.process.CoreProcess.TheVariants.{Line', Assign, AssignElement, Copy, Input, InputElement, InputArray, Output, OutputArray, Sequence', If', While', Repeat'}
use Rattle.occam_core.specs.Processes.{Exchange, Situation, Ended, Erred, Awaits, Unfinished, does, IsSequential}
use Rattle.occam_code.specs.declared.frame.FrameWords.{FrameWords}
use Rattle.occam_code.specs.Words.{process_temporaries}
use Rattle.occam_code.specs.Code.{process_code}
use Rattle.occam_code.specs.Evaluates.{array_words, NamesBelow, HasWords, Holds, KeepsOthers}
use Rattle.occam_code.specs.Alone.{LoneSetting, LoneProcess, LoneStage, Running, Past, Stopped, AtInput, stage_after}

-- the variables of an expression are among this number of variables, and its constants are words
abbrev pub IsWithin : ℕ → Expression → Type 0
IsWithin count e = NamesBelow count e × HasWords e

-- the same of a process, of those that are sequential
abbrev pub ProcessIsWithin : ℕ → CoreProcess → Type 0
ProcessIsWithin count (Line' at p a) = ProcessIsWithin count a
ProcessIsWithin count (Assign v e) = (v < count) × IsWithin count e
ProcessIsWithin count (AssignElement array i e) =
    (array.first + array_words array.kind array.length ≤ count) × IsWithin count i × IsWithin count e
ProcessIsWithin count (Copy to from) =
    (to.first + array_words to.kind to.length ≤ count) × (from.first + array_words to.kind to.length ≤ count)
ProcessIsWithin count (Input c kind v) = v < count
ProcessIsWithin count (InputElement c array i) =
    (array.first + array_words array.kind array.length ≤ count) × IsWithin count i
ProcessIsWithin count (InputArray c array) = array.first + array_words array.kind array.length ≤ count
ProcessIsWithin count (OutputArray c array) = array.first + array_words array.kind array.length ≤ count
ProcessIsWithin count (Output c kind e) = IsWithin count e
ProcessIsWithin count (Sequence' p a q b) = ProcessIsWithin count a × ProcessIsWithin count b
ProcessIsWithin count (If' e p a q b) = IsWithin count e × ProcessIsWithin count a × ProcessIsWithin count b
ProcessIsWithin count (While' e p a) = IsWithin count e × ProcessIsWithin count a
ProcessIsWithin count (Repeat' v base times p a) =
    (v + 1 < count) × IsWithin count base × IsWithin count times × ProcessIsWithin count a
ProcessIsWithin count _ = ⊤

-- a process is at the first place of its code, errors halt the node, its variables are in memory, and its workspace has
-- room for what it keeps. What comes are bytes, and two places of the code have
-- different addresses
pub record IsBegun (g : LoneSetting) (first last : ℕ) (words : FrameWords) (size : ℕ) (p : CoreProcess) (at : Situation)
    (s : LoneProcess) : Type 0 where
  pub addresses : (k : ℕ) → g.address k < 2 ^ 32
  pub places : (k : ℕ) → first ≤ k → k ≤ last → g.place_at (g.address k) ≡ k
  pub here : s.registers.instruction ≡ g.address first
  pub halts : s.registers.halt_on_error ≡ true
  pub slice : s.registers.bytes < 1024
  pub holds : Holds s.registers.workspace words.base size (length at.store) at.store s.memory
  pub within : ProcessIsWithin (length at.store) p
  pub own : 1 ≤ words.base
  pub free : length at.store + words.base ≤ words.temporary
  pub room : words.temporary + process_temporaries p ≤ size
  pub coming : s.coming ≡ at.coming
  pub bytes : (i : ℕ) → slice_index at.coming i < 2 ^ 8
  pub talk : s.talk ≡ at.talk

-- it has come past its code, to a situation: memory has changed in its workspace alone, from word 0 on, and of the
-- registers Iptr, A, B and C alone
pub record IsPastCode (g : LoneSetting) (last : ℕ) (words : FrameWords) (size : ℕ) (begun : LoneProcess)
    (at : Situation)
    (s : LoneProcess) : Type 0 where
  pub a : ℕ
  pub b : ℕ
  pub c : ℕ
  pub registers : s.registers ≡ record begun.registers { instruction = g.address last; a = a; b = b; c = c }
  pub links : s.links ≡ begun.links
  pub holds : Holds begun.registers.workspace words.base size (length at.store) at.store s.memory
  pub kept : KeepsOthers begun.registers.workspace 0 size begun.memory s.memory
  pub coming : s.coming ≡ at.coming
  pub talk : s.talk ≡ at.talk

-- a run is what a process does: it ends, errs and waits exactly if the process does, after the same talk; it meets no
-- other fault; and where the process goes on for n turns of a loop, the run goes on for as many statements
pub record Behaves (p : CoreProcess) (at : Situation) (run : ℕ → LoneStage) (is_end : Situation → LoneProcess → Type 0)
    : Type 0 where
  pub ends : (n : ℕ) (end : Situation) → does n p at ≡ Ended end
      → (k : ℕ) × (s : LoneProcess) × (run k ≡ Past s) × is_end end s
  pub errs : (n : ℕ) (talk : List Exchange) → does n p at ≡ Erred talk → (k : ℕ) × (run k ≡ Stopped ErrorSet talk)
  pub waits : (n : ℕ) (talk : List Exchange) → does n p at ≡ Awaits talk → (k : ℕ) × (run k ≡ AtInput talk)
  pub goes_on : (n : ℕ) (talk : List Exchange) → does n p at ≡ Unfinished talk
      → (k : ℕ) × (s : LoneProcess) × (n ≤ k) × (run k ≡ Running s) × (s.talk ≡ talk)
  pub ends_only : (k : ℕ) (s : LoneProcess) → run k ≡ Past s
      → (n : ℕ) × (end : Situation) × (does n p at ≡ Ended end) × is_end end s
  pub errs_only : (k : ℕ) (fault : Fault) (talk : List Exchange) → run k ≡ Stopped fault talk
      → (n : ℕ) × (does n p at ≡ Erred talk) × (fault ≡ ErrorSet)
  pub waits_only : (k : ℕ) (talk : List Exchange) → run k ≡ AtInput talk → (n : ℕ) × (does n p at ≡ Awaits talk)

-- where a program has the code of a process from a place on, at whatever addresses, whatever comes, and whatever others
-- leave in registers: up to its end the code does what the process does
abbrev pub ProcessBehaves : CoreProcess → ℕ → FrameWords → List Statement → Type 0
ProcessBehaves p first words program =
    let last = first + length (process_code first words p) in
    (g : LoneSetting) (size : ℕ) (at : Situation) (s : LoneProcess) → IsBegun g first last words size p at s
    → Behaves p at (λ k. stage_after g (take last program) k s) (IsPastCode g last words size s)

-- so does the code of each sequential process, in every program that has it from a place on
abbrev pub CodeBehaves : Type 0
CodeBehaves =
    (p : CoreProcess) (first : ℕ) (words : FrameWords) (program : List Statement) → IsSequential p
    → ((i : ℕ) → i < length (process_code first words p)
    → slice_get program (first + i) ≡ slice_get (process_code first words p) i)
    → ProcessBehaves p first words program
