-- A farm that holds one domain alone: its answers to a list of events, each with who asks.
use Rattle.std.specs.Prelude.{ℕ, ◌+◌, ◌==◌, ◌&&◌, nat_lt, length, Bool, true, false, List, [], ◌∷◌, Option, Some, None, Result, Ok, Err, if◌then◌else◌, slice_get}
use Rattle.plan_rules.specs.declared.part.HostPart.{HostPart}
use Rattle.plan_rules.specs.Part.{PartData}
use Rattle.domain_core.specs.declared.event.By.{By}
use Rattle.domain_core.specs.declared.event.By.TheVariants.{User, Farm}
use Rattle.domain_core.specs.declared.event.Event.{Event}
use Rattle.domain_core.specs.declared.event.Event.TheVariants.{Config, Write, Read, Reset, Look, Step, Move}
use Rattle.domain_core.specs.declared.event.Reply.{Reply}
use Rattle.domain_core.specs.declared.event.Refusal.{Refusal}
use Rattle.domain_core.specs.declared.event.Refusal.TheVariants.{NoSuch, JournalFull}
use Rattle.domain_core.specs.Machine.{Machine, acted, is_recorded, fresh_machine}

-- an event, and who asks
pub record Call : Type 0 where
  pub by : By
  pub event : Event

-- the machine, and how many events were recorded
pub record State : Type 0 where
  pub machine : Machine
  pub recorded : ℕ

-- a reply, or a refusal
abbrev pub Answer : Type 0
Answer = Result Reply Refusal

-- a user of the domain, or the farm itself
abbrev pub is_known : PartData → By → Bool
is_known part (User user) = nat_lt user part.users
is_known part Farm = true

-- the host is there and is this user's
abbrev pub is_owned_by : Option HostPart → ℕ → Bool
is_owned_by None user = false
is_owned_by (Some host) user = host.user == user

-- only its owner may use a host
abbrev pub owns : PartData → By → ℕ → Bool
owns part (User user) host = is_owned_by (slice_get part.hosts host) user
owns part Farm host = false

-- whether the host, node or port of an event is there for the asker
abbrev pub names_own : PartData → By → Event → Bool
names_own part by (Config byte) = true
names_own part by (Write host byte) = owns part by host
names_own part by (Read host) = owns part by host
names_own part by (Reset node) = nat_lt node (length part.nodes)
names_own part by (Look node) = nat_lt node (length part.nodes)
names_own part by (Step node) = nat_lt node (length part.nodes)
names_own part by (Move port) = nat_lt port part.count

-- the asker is known, and what the event names is there for the asker
abbrev pub is_there : PartData → Call → Bool
is_there part call = is_known part call.by && names_own part call.by call.event

-- the state once an event is answered
abbrev pub answered : PartData → State → Event → State
answered part s event = record {
  machine = (acted part s.machine event).0;
  recorded = if is_recorded part s.machine event then s.recorded + 1 else s.recorded;
}

-- a call whose target isn't there for the asker is refused, and so is each call of a full farm; else this is done
abbrev pub unless_refused : {S : Type 0} → Bool → Bool → S → S × Reply → S × Answer
unless_refused there full s done =
    if there then (if full then (s, Err JournalFull) else (done.0, Ok done.1)) else (s, Err NoSuch)

-- the next state, and the answer
abbrev pub next : PartData → State → Call → State × Answer
next part s call =
    unless_refused (is_there part call) (s.recorded == part.limit) s
    (answered part s call.event, (acted part s.machine call.event).1)

-- the answer to each event, in order
abbrev pub answers : PartData → State → List Call → List Answer
answers part s [] = []
answers part s (call ∷ calls) = (next part s call).1 ∷ answers part (next part s call).0 calls

-- the state after all events
abbrev pub after : PartData → State → List Call → State
after part s [] = s
after part s (call ∷ calls) = after part (next part s call).0 calls

-- the state in which such a farm begins: a fresh machine, nothing recorded
abbrev pub opening : PartData → State
opening part = record { machine = fresh_machine part; recorded = 0 }
