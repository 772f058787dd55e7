-- What the lines of a record and the entries of a journal say, and the state to which they lead.
use Rattle.std.specs.Prelude.{◌≡◌, ◌+◌, ◌-◌, ◌++◌, ℕ, List, take, length, replicate, IfSome, slice_get}
use Rattle.std.specs.List.{flat_map}
use Rattle.plan_rules.specs.Data.{DomainData}
use Rattle.plan_rules.specs.Part.{PartData, part_of}
use Rattle.domain_core.specs.declared.journal.Entry.{Entry}
use Rattle.domain_core.specs.Journal.{AnsweredCall, expanded, calls_of, IsHistory}
use Rattle.domain_core.specs.Moments.{MomentValue, state_at, LeadsOn}
use Rattle.domain_core.specs.PrivateFarm.{State, Call}
use Rattle.farm_records.specs.declared.line.RecordedCall.{RecordedCall}

-- the calls that a line says: one call, as often as it was made
abbrev pub calls_said : RecordedCall → List Call
calls_said said = replicate said.times (record { by = said.by; event = said.event })

-- the calls that lines say
abbrev pub all_said : List RecordedCall → List Call
all_said lines = flat_map calls_said lines

-- the calls that entries stand for
abbrev pub entry_calls : List Entry → List Call
entry_calls entries = calls_of (expanded entries)

-- the first of some calls: those that are made before `most` events are recorded
abbrev pub calls_before : ℕ → MomentValue → List Call → List Call
calls_before most m calls = take (most - m.recorded) calls

-- exactly these calls lead from one state to another, and each of them was recorded
pub record FollowsCalls (part : PartData) (s : State) (calls : List Call) (t : State) : Type 0 where
  pub gain : List AnsweredCall
  pub calls_are : calls_of gain ≡ calls
  pub leads : LeadsOn part s gain t
  pub recorded_is : t.recorded ≡ s.recorded + length calls

-- a moment after such calls, of the same part
pub record MovesOn (old : MomentValue) (calls : List Call) (new : MomentValue) : Type 0 where
  pub part : new.machine.part ≡ old.machine.part
  pub follows : FollowsCalls old.machine.part (state_at old) calls (state_at new)

-- the state to which exactly these calls lead from the opening. Each of them was recorded
pub record IsStateAfter (part : PartData) (calls : List Call) (s : State) : Type 0 where
  pub history : List AnsweredCall
  pub calls_are : calls_of history ≡ calls
  pub leads : IsHistory part history s
  pub recorded_is : s.recorded ≡ length calls

-- the domain of this number of a plan, at the moment after these calls
abbrev pub IsMomentAfter : List DomainData → ℕ → List Call → MomentValue → Type 0
IsMomentAfter plan number calls m =
    IfSome (slice_get plan number) (λ d. (m.machine.part ≡ part_of d) × IsStateAfter (part_of d) calls (state_at m))

-- a domain of a plan at a moment to which some calls lead
abbrev pub IsReached : List DomainData → ℕ → MomentValue → Type 0
IsReached plan number m = (calls : List Call) × IsMomentAfter plan number calls m

-- a moment after calls that goes on by others is one after those and these
abbrev pub MomentsGoOn : Type 0
MomentsGoOn =
    (plan : List DomainData) (number : ℕ) (before after : List Call) (m n : MomentValue)
    → IsMomentAfter plan number before m → MovesOn m after n
    → IsMomentAfter plan number (before ++ after) n
