-- What any process says (`!`) and hears (`?`), PAR and ALT included: its traces, as in CSP.
-- occam 2 reference manual, processes, parallel, alternation: a PAR ends when all its components have ended; an ALT
-- waits until an open guard is ready, and is an error if no guard is open. That an error halts all components, and
-- which guards an ALT may take, are choices of ours.
-- A message is in a trace once it is whole. Whether a process may come to a deadlock can't be seen in its traces, nor
-- which of several inputs was ready first. Nothing is meant of components that may not be used together.
use Rattle.std.specs.Prelude.{◌≡◌, ℕ, zero, suc, ◌+◌, ◌*◌, ◌^◌, ◌<◌, ◌≤◌, ◌⊎◌, ⊤, List, [], ◌∷◌, ◌++◌, true, false, Option, Some, None, length, pos, int_lt, nat_lt, if◌then◌else◌, ◌==◌, slice_index, slice_set}
use Rattle.node_memory.specs.Words.{◌⊕◌, ◌⊖◌, signed}
use Rattle.occam_core.specs.declared.channel.CoreChannel.{CoreChannel}
use Rattle.occam_core.specs.declared.channel.CoreChannel.TheVariants as channel
use Rattle.occam_core.specs.declared.channel.CoreGuard.{CoreGuard}
use Rattle.occam_core.specs.declared.channel.CoreGuard.TheVariants as guard
use Rattle.occam_core.specs.declared.expression.CoreArray.{CoreArray}
use Rattle.occam_core.specs.declared.expression.Expression.{Expression}
use Rattle.occam_core.specs.declared.process.CoreProcess.{CoreProcess}
use Rattle.occam_core.specs.declared.process.CoreProcess.TheVariants.{Skip, Stop, Line', Assign, AssignElement, Copy, Channels, Input, InputElement, InputArray, Output, OutputArray, Sequence', Parallel', Choose', If', While', Repeat'}
use Rattle.occam_core.specs.Values.{of_one, of_two, value}
use Rattle.occam_core.specs.Processes.{Exchange, Said, Heard, byte_in, with_element, with_bytes_in, bytes_of_store, bytes_of_element, array_size, bytes_in, value_heard, bytes_said}

-- where a process is after a trace: it has ended with these words in its variables, it has erred, or it may still be
-- under way. The words of channels count for nothing
pub data TraceOutcome : Type 0 where
  Complete : (store : List ℕ) → TraceOutcome
  Broken : TraceOutcome
  Partial : TraceOutcome

-- from this store on this was said and heard, and then the process is there
abbrev pub Traces : Type 1
Traces = List ℕ → List Exchange → TraceOutcome → Type 0

-- nothing was said or heard, and the process has ended with this store, or not yet
abbrev pub IsEndAt : List ℕ → List Exchange → TraceOutcome → Type 0
IsEndAt τ t (Complete σ) = (t ≡ []) × (σ ≡ τ)
IsEndAt τ t Broken = ⊥
IsEndAt τ t Partial = t ≡ []

-- nothing was said or heard, and the process has erred, or not yet
abbrev pub IsErrorAt : List Exchange → TraceOutcome → Type 0
IsErrorAt t (Complete σ) = ⊥
IsErrorAt t Broken = t ≡ []
IsErrorAt t Partial = t ≡ []

-- one message was said or heard, and the process has ended with this store or not yet; or it is before the message
abbrev pub IsMessage : Exchange → List ℕ → List Exchange → TraceOutcome → Type 0
IsMessage x τ t (Complete σ) = (t ≡ x ∷ []) × (σ ≡ τ)
IsMessage x τ t Broken = ⊥
IsMessage x τ t Partial = (t ≡ []) ⊎ (t ≡ x ∷ [])

-- an error if there is no value
abbrev pub WithValue : Option ℕ → List Exchange → TraceOutcome → (ℕ → Type 0) → Type 0
WithValue None t e go = IsErrorAt t e
WithValue (Some x) t e go = go x

-- the number of an element, if the array has it
abbrev pub element_number : CoreArray → ℕ → Option ℕ
element_number array k = if nat_lt k array.length then Some k else None

-- the number of a channel: those of links are below 8, and a variable that is a channel comes after them
abbrev pub channel_number : CoreChannel → List ℕ → Option ℕ
channel_number (channel.Link c) σ = Some c
channel_number (channel.Inside v) σ = Some (8 + v)
channel_number (channel.Element array i) σ =
    of_one (λ k. of_one (λ j. Some (8 + array.first + j)) (element_number array k)) (value i σ)

-- an error if there is no value, or if the array has no such element
abbrev pub WithElement : CoreArray → Expression → List ℕ → List Exchange → TraceOutcome → (ℕ → Type 0) → Type 0
WithElement array i σ t e go = WithValue (of_one (λ k. element_number array k) (value i σ)) t e go

-- nothing was said or heard, and it is under way
abbrev pub IsCutAt : List Exchange → TraceOutcome → Type 0
IsCutAt t e = (t ≡ []) × (e ≡ Partial)

-- it hasn't ended
abbrev pub IsUnended : TraceOutcome → Type 0
IsUnended (Complete σ) = ⊥
IsUnended _ = ⊤

-- a message of this number of bytes is heard by a channel, and the store becomes what they make of it
abbrev pub Hears : CoreChannel → ℕ → (List ℕ → List ℕ) → Traces
Hears c count store_with σ t e =
    WithValue (channel_number c σ) t e
    (λ n. (bytes : List ℕ) × (length bytes ≡ count) × ((i : ℕ) → slice_index bytes i < 2 ^ 8)
    × IsMessage (Heard n bytes) (store_with bytes) t e)

-- these bytes are said by a channel
abbrev pub Says : CoreChannel → List ℕ → Traces
Says c bytes σ t e = WithValue (channel_number c σ) t e (λ n. IsMessage (Said n bytes) σ t e)

-- one after the other: the second goes on where the first has ended
abbrev pub Consecutive : Traces → Traces → Traces
Consecutive first second σ t e =
    (IsUnended e × first σ t e)
    ⊎ ((s : List Exchange) × (u : List Exchange) × (ρ : List ℕ) × (t ≡ s ++ u) × first σ s (Complete ρ) × second ρ u e)

-- a loop as long as its condition isn't 0, which is cut off before its condition after this number of turns
abbrev pub Turns : ℕ → (List ℕ → Option ℕ) → Traces → Traces
Turns zero test body σ t e = IsCutAt t e
Turns (suc n) test body σ t e =
    WithValue (test σ) t e
    (λ x. ((x ≡ 0) × IsEndAt σ t e) ⊎ ((1 ≤ x) × Consecutive body (Turns n test body) σ t e))

-- a store in which the variable after the index says that one turn less is left
abbrev pub store_after_turn : ℕ → List ℕ → List ℕ
store_after_turn v σ = slice_set σ (v + 1) (slice_index σ (v + 1) ⊖ 1)

-- at most this number of turns of a loop with an index: if one is left after a turn, the index is one more for it
abbrev pub IndexTurns : ℕ → ℕ → Traces → Traces
IndexTurns zero v body σ t e = IsCutAt t e
IndexTurns (suc n) v body σ t e =
    Consecutive body
    (λ ρ u f. let τ = store_after_turn v ρ in
    ((int_lt (pos 1) (signed (slice_index ρ (v + 1))) ≡ false) × IsEndAt τ u f)
    ⊎ ((int_lt (pos 1) (signed (slice_index ρ (v + 1))) ≡ true)
    × IndexTurns n v body (slice_set τ v (slice_index ρ v ⊕ 1)) u f))
    σ t e

-- two talks go on side by side. What one says by a channel within the node may be what the other hears: then it is in
-- neither's talk with others. Or it stays in it, for a third process. All else is in it, in its order
pub data Merges : List Exchange → List Exchange → List Exchange → Type 0 where
  both_end : Merges [] [] []
  first_goes : (x : Exchange) (a b t : List Exchange) → Merges a b t → Merges (x ∷ a) b (x ∷ t)
  second_goes : (x : Exchange) (a b t : List Exchange) → Merges a b t → Merges a (x ∷ b) (x ∷ t)
  first_says : (n : ℕ) (bytes : List ℕ) (a b t : List Exchange) → 8 ≤ n → Merges a b t
      → Merges (Said n bytes ∷ a) (Heard n bytes ∷ b) t
  second_says : (n : ℕ) (bytes : List ℕ) (a b t : List Exchange) → 8 ≤ n → Merges a b t
      → Merges (Heard n bytes ∷ a) (Said n bytes ∷ b) t

-- a store after two processes that began with the same one: each byte is what the one made of it that changed it, since
-- no byte may be changed by both
abbrev pub IsOfBoth : (begun first second both : List ℕ) → Type 0
IsOfBoth begun first second both =
    (length both ≡ length begun) × ((v : ℕ) → slice_index both v < 2 ^ 32)
    × ((i : ℕ) → byte_in both i ≡ (if byte_in first i == byte_in begun i then byte_in second i else byte_in first i))

-- where two processes are that run at the same time: an error of one halts both
abbrev pub EndTogether : List ℕ → TraceOutcome → TraceOutcome → TraceOutcome → Type 0
EndTogether σ x y (Complete τ) =
    (first : List ℕ) × (second : List ℕ) × (x ≡ Complete first) × (y ≡ Complete second) × IsOfBoth σ first second τ
EndTogether σ x y Broken = (x ≡ Broken) ⊎ (y ≡ Broken)
EndTogether σ x y Partial = ⊤

-- both at the same time
abbrev pub SideBySide : Traces → Traces → Traces
SideBySide first second σ t e =
    (a : List Exchange) × (b : List Exchange) × (x : TraceOutcome) × (y : TraceOutcome) × first σ a x × second σ b y
    × Merges a b t × EndTogether σ x y e

-- what the condition of a guard is worth, if no subscript of its channel is an error: it is open unless that is 0
abbrev pub guard_value : CoreGuard → List ℕ → Option ℕ
guard_value (guard.Input e c) σ = of_two (λ x n. Some x) (value e σ) (channel_number c σ)
guard_value (guard.Skip e) σ = value e σ

-- how many guards of a choice are open, if there is no error in one
abbrev pub open_guards : CoreProcess → List ℕ → Option ℕ
open_guards (Choose' g p a q b) σ =
    of_two (λ x n. Some (if x == 0 then n else n + 1)) (guard_value g σ) (open_guards b σ)
open_guards _ σ = Some 0

-- the choices below may be taken, unless this guard is an open SKIP: it is ready immediately
abbrev pub LetsOthers : CoreGuard → ℕ → Type 0
LetsOthers (guard.Input e c) x = ⊤
LetsOthers (guard.Skip e) x = x ≡ 0

-- the process of this guard goes on, if the guard is open, or one of the choices below; without an open guard it is
-- an error
abbrev pub Chooses : Option ℕ → Option ℕ → CoreGuard → Traces → Traces → Traces
Chooses own others g first second σ t e =
    WithValue own t e
    (λ x. WithValue others t e
    (λ n. ((x ≡ 0) × (n ≡ 0) × IsErrorAt t e) ⊎ ((1 ≤ x) × first σ t e)
    ⊎ ((1 ≤ n) × LetsOthers g x × second σ t e)))

-- the traces of a process where each loop in it makes at most n turns: its traces are those for all n. An error in the
-- input of an open guard counts immediately, since a trace doesn't show whether a sender is there
abbrev pub Runs : ℕ → CoreProcess → Traces
Runs n Skip σ t e = IsEndAt σ t e
Runs n Stop σ t e = IsErrorAt t e
Runs n (Line' place p a) σ t e = Runs n a σ t e
Runs n (Assign v x) σ t e = WithValue (value x σ) t e (λ word. IsEndAt (slice_set σ v word) t e)
Runs n (AssignElement array i x) σ t e =
    WithValue (value x σ) t e
    (λ word. WithElement array i σ t e (λ k. IsEndAt (with_element array.kind array.first σ k word) t e))
Runs n (Copy to from) σ t e =
    IsEndAt (with_bytes_in σ (4 * to.first) (bytes_of_store (array_size to) σ (4 * from.first))) t e
Runs n (Channels v count) σ t e = IsEndAt σ t e
Runs n (Input c kind v) σ t e = Hears c (bytes_in kind) (λ bytes. slice_set σ v (value_heard kind bytes)) σ t e
Runs n (InputElement c array i) σ t e =
    WithElement array i σ t e
    (λ k. Hears c (bytes_of_element array.kind)
    (with_bytes_in σ (4 * array.first + k * bytes_of_element array.kind)) σ t e)
Runs n (InputArray c array) σ t e = Hears c (array_size array) (with_bytes_in σ (4 * array.first)) σ t e
Runs n (Output c kind x) σ t e = WithValue (value x σ) t e (λ word. Says c (bytes_said kind word) σ t e)
Runs n (OutputArray c array) σ t e = Says c (bytes_of_store (array_size array) σ (4 * array.first)) σ t e
Runs n (Sequence' p a q b) σ t e = Consecutive (Runs n a) (Runs n b) σ t e
Runs n (Parallel' p a q b) σ t e = SideBySide (Runs n a) (Runs n b) σ t e
Runs n (Choose' g p a q b) σ t e =
    Chooses (guard_value g σ) (open_guards b σ) g (Runs n a) (Runs n b) σ t e
Runs n (If' c p a q b) σ t e =
    WithValue (value c σ) t e (λ x. ((x ≡ 0) × Runs n b σ t e) ⊎ ((1 ≤ x) × Runs n a σ t e))
Runs n (While' c p a) σ t e = Turns n (value c) (Runs n a) σ t e
Runs n (Repeat' v base count p a) σ t e =
    WithValue (value base σ) t e
    (λ x. let begun = slice_set σ v x in
    WithValue (value count begun) t e
    (λ k. ((2 ^ 31 ≤ k) × IsErrorAt t e)
    ⊎ ((k ≡ 0) × IsEndAt (slice_set begun (v + 1) k) t e)
    ⊎ ((1 ≤ k) × (k < 2 ^ 31) × IndexTurns n v (Runs n a) (slice_set begun (v + 1) k) t e)))

-- the messages of links alone: the channels within a node join its own processes
abbrev pub IsAtLinks : List Exchange → Type 0
IsAtLinks [] = ⊤
IsAtLinks (Said n bytes ∷ t) = (n < 8) × IsAtLinks t
IsAtLinks (Heard n bytes ∷ t) = (n < 8) × IsAtLinks t

-- what a whole program says and hears, from a store on that begins with the words of its tables
abbrev pub ProgramRuns : ℕ → CoreProcess → Traces
ProgramRuns n p σ t e = Runs n p σ t e × IsAtLinks t
