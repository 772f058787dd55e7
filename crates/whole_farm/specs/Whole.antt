-- The whole farm as one machine: one switch of 32 outputs in physical numbers, all nodes and hosts, and the events of
-- all domains.
use Rattle.std.specs.Prelude.{ℕ, ◌+◌, ◌==◌, Bool, List, [], ◌∷◌, Option, Some, None, Err, if◌then◌else◌, slice_get}
use Rattle.crossbar.specs.Switch.{Switch, cleared}
use Rattle.domain_core.specs.declared.event.Event.{Event}
use Rattle.domain_core.specs.declared.event.Event.TheVariants.{Config, Move}
use Rattle.domain_core.specs.declared.event.Reply.{Reply}
use Rattle.domain_core.specs.declared.event.Reply.TheVariants as reply
use Rattle.domain_core.specs.declared.event.Refusal.TheVariants.{NoSuch}
use Rattle.domain_core.specs.Devices.{DeviceStates, opened_devices}
use Rattle.domain_core.specs.Machine.{Machine, acted, is_recorded, has_moved}
use Rattle.domain_core.specs.PrivateFarm.{Call, Answer, is_there, unless_refused}
use Rattle.whole_farm.specs.Places.{Place, put_at}
use Rattle.whole_farm.specs.Messages.{raised, configured_in}
use Rattle.whole_farm.specs.Packets.{AllDevices, moved_in}

-- the state of the whole farm
pub record Farm : Type 0 where
  pub switch : Switch
  -- the bytes of each domain's next configuration message that have come
  pub rests : ℕ → List ℕ
  pub devices : AllDevices
  -- how many events of each domain were recorded
  pub recorded : ℕ → ℕ

-- the farm's switch, with what is one domain's own
abbrev pub machine_in : Farm → ℕ → Machine
machine_in farm domain = record { switch = farm.switch; rest = farm.rests domain; devices = farm.devices domain }

-- the domain's nodes and hosts after an event that touches these alone, and its reply
abbrev pub acted_on_own : Place → Farm → ℕ → Event → Farm × Reply
acted_on_own place farm domain event =
    let m = acted place.part (machine_in farm domain) event
    in (record farm { devices = put_at domain m.0.devices farm.devices }, m.1)

-- the farm after an event of a domain, and the reply in physical numbers
abbrev pub acted_in : List Place → Place → Farm → ℕ → Event → Farm × Reply
acted_in plan place farm domain (Config byte) =
    let c = configured_in place farm.switch (farm.rests domain) byte in
    (record farm { switch = c.switch; rests = put_at domain c.rest farm.rests }, reply.Config c.reply)
acted_in plan place farm domain (Move port) =
    let m = moved_in plan farm.switch farm.devices (raised place.ports port)
    in (record farm { devices = m.0 }, reply.Moved m.1)
acted_in plan place farm domain event = acted_on_own place farm domain event

-- whether an event is recorded: a Move by what becomes of it in the whole farm
abbrev pub is_recorded_in : List Place → Place → Farm → ℕ → Event → Bool
is_recorded_in plan place farm domain (Move port) =
    has_moved (moved_in plan farm.switch farm.devices (raised place.ports port)).1
is_recorded_in plan place farm domain event = is_recorded place.part (machine_in farm domain) event

-- the farm once an event of a domain is answered
abbrev pub answered_in : List Place → Place → Farm → ℕ → Event → Farm
answered_in plan place farm domain event = record (acted_in plan place farm domain event).0 {
  recorded =
      put_at domain
      (if is_recorded_in plan place farm domain event then farm.recorded domain + 1 else farm.recorded domain)
      farm.recorded;
}

-- a call of a domain that is in the plan, and one of a domain that isn't
abbrev pub next_in : List Place → Farm → ℕ → Call → Option Place → Farm × Answer
next_in plan farm domain call None = (farm, Err NoSuch)
next_in plan farm domain call (Some place) =
    unless_refused (is_there place.part call) (farm.recorded domain == place.part.limit) farm
    (answered_in plan place farm domain call.event, (acted_in plan place farm domain call.event).1)

-- the farm after a call of a domain, and the answer in physical numbers
abbrev pub whole_next : List Place → Farm → ℕ × Call → Farm × Answer
whole_next plan farm call = next_in plan farm call.0 call.1 (slice_get plan call.0)

-- each answer with the domain that it goes to, in order
abbrev pub physical_answers : List Place → Farm → List (ℕ × Call) → List (ℕ × Answer)
physical_answers plan farm [] = []
physical_answers plan farm (call ∷ calls) =
    (call.0, (whole_next plan farm call).1) ∷ physical_answers plan (whole_next plan farm call).0 calls

-- the farm after all calls
abbrev pub whole_after : List Place → Farm → List (ℕ × Call) → Farm
whole_after plan farm [] = farm
whole_after plan farm (call ∷ calls) = whole_after plan (whole_next plan farm call).0 calls

-- the nodes and hosts of a domain as they are opened; none if there is no such domain
abbrev pub opened_at : Option Place → DeviceStates
opened_at None = record { nodes = []; hosts = [] }
opened_at (Some place) = opened_devices place.part

-- all outputs disconnected, no message begun, nodes and hosts fresh, nothing recorded
abbrev pub whole_opening : List Place → Farm
whole_opening plan =
    record { switch = cleared; rests = λ d. []; devices = λ d. opened_at (slice_get plan d); recorded = λ d. 0 }
