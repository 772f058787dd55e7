-- What a sequential process does by itself, and its traces.
use Rattle.std.specs.Prelude.{◌≡◌, ◌⊎◌, ℕ, ⊤, ◌^◌, ◌<◌, List, [], ◌++◌, length, Some, slice_index, slice_set}
use Rattle.occam_core.specs.declared.channel.CoreChannel.TheVariants.{Inside}
use Rattle.occam_core.specs.declared.channel.CoreGuard.{CoreGuard}
use Rattle.occam_core.specs.declared.channel.MessageKind.{MessageKind}
use Rattle.occam_core.specs.declared.expression.Expression.{Expression}
use Rattle.occam_core.specs.declared.process.CoreProcess.{CoreProcess}
use Rattle.occam_core.specs.declared.process.CoreProcess.TheVariants.{Choose', Input, Output, Parallel'}
use Rattle.occam_core.specs.Processes.{Exchange, byte_in, bytes_said, value_heard, Situation, Course, Ended, Erred, Awaits, Unfinished, does, IsSequential}
use Rattle.occam_core.specs.Values.{value}
use Rattle.occam_core.specs.Traces.{TraceOutcome, Complete, Broken, Partial, IsErrorAt, guard_value, Runs, ProgramRuns}

-- how far a process goes that had this talk before: what it says and hears from there on is one of these traces
abbrev pub IsTraced : (List Exchange → TraceOutcome → Type 0) → List Exchange → Course → Type 0
IsTraced is_trace before (Ended at) =
    (t : List Exchange) × (at.talk ≡ before ++ t) × is_trace t (Complete at.store)
IsTraced is_trace before (Erred talk) = (t : List Exchange) × (talk ≡ before ++ t) × is_trace t Broken
IsTraced is_trace before (Awaits talk) = (t : List Exchange) × (talk ≡ before ++ t) × is_trace t Partial
IsTraced is_trace before (Unfinished talk) = (t : List Exchange) × (talk ≡ before ++ t) × is_trace t Partial

-- whatever bytes come, a sequential process goes as far as one of its traces
abbrev pub SequentialRuns : Type 0
SequentialRuns =
    (p : CoreProcess) → IsSequential p → (n : ℕ) (at : Situation) → ((i : ℕ) → slice_index at.coming i < 2 ^ 8)
    → IsTraced (Runs n p at.store) at.talk (does n p at)

-- what was said and heard so far
abbrev pub talk_of : Course → List Exchange
talk_of (Ended at) = at.talk
talk_of (Erred talk) = talk
talk_of (Awaits talk) = talk
talk_of (Unfinished talk) = talk

-- a process goes as far as a trace says; while it is under way, it may go further
abbrev pub GoesAsFar : Course → List Exchange → TraceOutcome → Type 0
GoesAsFar course t (Complete τ) = course ≡ Ended (record { store = τ; coming = []; talk = t })
GoesAsFar course t Broken = course ≡ Erred t
GoesAsFar course t Partial = (rest : List Exchange) × (talk_of course ≡ t ++ rest)

-- each trace of a sequential process is what it does if the right bytes come
abbrev pub RunsAreDone : Type 0
RunsAreDone =
    (p : CoreProcess) → IsSequential p → (n : ℕ) (σ : List ℕ) (t : List Exchange) (e : TraceOutcome) → Runs n p σ t e
    → (coming : List ℕ) × ((i : ℕ) → slice_index coming i < 2 ^ 8)
    × GoesAsFar (does n p (record { store = σ; coming = coming; talk = [] })) t e

-- each beginning of a trace is a trace, of a process that is under way
abbrev pub BeginningsAreTraces : Type 0
BeginningsAreTraces =
    (p : CoreProcess) (n : ℕ) (σ : List ℕ) (t rest : List Exchange) (e : TraceOutcome) → Runs n p σ (t ++ rest) e
    → Runs n p σ t Partial

-- each process is under way before its first message
abbrev pub ProcessesBegin : Type 0
ProcessesBegin = (p : CoreProcess) (n : ℕ) (σ : List ℕ) → Runs n p σ [] Partial

-- `both` is these two at the same time: each may come before the other, an error of one is one of both, and both end
-- only where each has ended
pub record IsParallel (n : ℕ) (σ : List ℕ) (a b both : CoreProcess) : Type 0 where
  pub first_goes_first : (s t : List Exchange) (x y : TraceOutcome) → Runs n a σ s x → Runs n b σ t y
      → Runs n both σ (s ++ t) Partial
  pub second_goes_first : (s t : List Exchange) (x y : TraceOutcome) → Runs n a σ s x → Runs n b σ t y
      → Runs n both σ (t ++ s) Partial
  pub first_errs : (t : List Exchange) → Runs n a σ t Broken → Runs n both σ t Broken
  pub second_errs : (t : List Exchange) → Runs n b σ t Broken → Runs n both σ t Broken
  pub ends : (t : List Exchange) (τ : List ℕ) → Runs n both σ t (Complete τ)
      → (s u : List Exchange) × (first second : List ℕ) × Runs n a σ s (Complete first) × Runs n b σ u (Complete second)

-- what is so of the two sides of a process that is a PAR
abbrev pub OfSides : CoreProcess → (CoreProcess → CoreProcess → Type 0) → Type 0
OfSides (Parallel' p a q b) so = so a b
OfSides _ so = ⊤

-- a PAR is its sides at the same time
abbrev pub ParallelsRun : Type 0
ParallelsRun = (both : CoreProcess) (n : ℕ) (σ : List ℕ) → OfSides both (λ a b. IsParallel n σ a b both)

-- what is so of an output of a value by a channel within the node
abbrev pub OfOutput : CoreProcess → (ℕ → MessageKind → Expression → Type 0) → Type 0
OfOutput (Output (Inside c) kind x) so = so c kind x
OfOutput _ so = ⊤

-- what is so of an input into a variable by a channel within the node
abbrev pub OfInput : CoreProcess → (ℕ → MessageKind → ℕ → Type 0) → Type 0
OfInput (Input (Inside c) kind v) so = so c kind v
OfInput _ so = ⊤

-- a message within the node is an assignment: if one side of a program sends a value by a channel and the other hears
-- it into a variable, the program can't end otherwise than with what such a message says in that variable, and nothing
-- is said or heard by a link
abbrev pub MessagesAssign : Type 0
MessagesAssign =
    (both : CoreProcess) (n : ℕ) (σ τ : List ℕ) (t : List Exchange) (word : ℕ)
    → OfSides both (λ a b. OfOutput a (λ c kind x. OfInput b (λ d another v.
    c ≡ d → kind ≡ another → value x σ ≡ Some word → ProgramRuns n both σ t (Complete τ)
    → (t ≡ []) × (length τ ≡ length σ)
    × ((i : ℕ) → byte_in τ i ≡ byte_in (slice_set σ v (value_heard kind (bytes_said kind word))) i))))

-- what is so of a choice of an ALT: its guard, the process of the guard, and the other choices
abbrev pub OfChoice : CoreProcess → (CoreGuard → CoreProcess → CoreProcess → Type 0) → Type 0
OfChoice (Choose' g p a q b) so = so g a b
OfChoice _ so = ⊤

-- a guard that isn't open is passed over: the other choices go on, or there is an error
abbrev pub ClosedGuardsWait : Type 0
ClosedGuardsWait =
    (choice : CoreProcess) (n : ℕ) (σ : List ℕ) (t : List Exchange) (e : TraceOutcome)
    → OfChoice choice (λ g a b. guard_value g σ ≡ Some 0 → Runs n choice σ t e → IsErrorAt t e ⊎ Runs n b σ t e)
