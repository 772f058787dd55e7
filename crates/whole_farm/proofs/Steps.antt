-- One call in the whole farm is that call of the domain alone, and the other domains see nothing of it, for the law
-- `each_call_is_private` and the runs of `Runs.antt`.
use Rattle.std.proofs.Common.{◌≡◌, ◌≢◌, inl, inr, ℕ, ◌+◌, Bool, true, false, cond, Option, Some, None, Ok, Err, List}
use Rattle.std.proofs.Common.{[], ◌∷◌, ◌++◌, slice_get, refl, sym, ap, ◌∙◌, subst, ◌==◌, if◌then◌else◌}
use Rattle.std.proofs.lemmas.Bool.{cases_eq, ltb-true, and_parts}
use Rattle.std.proofs.lemmas.Option.{same_Some}
use Rattle.c004_commands.specs.Grammar.{Item, item_of}
use Rattle.virtual_switch.specs.declared.reply.ConfigReply.{ConfigReply}
use Rattle.virtual_switch.specs.PrivateSwitch.{Configured, configured_by}
use Rattle.crossbar.specs.Switch.{Switch}
use Rattle.crossbar.specs.Laws.{SwitchLaws}
use Rattle.domain_core.specs.declared.event.By.{By}
use Rattle.domain_core.specs.declared.event.Event.{Event}
use Rattle.domain_core.specs.declared.event.Event.TheVariants.{Config, Write, Read, Reset, Look, Step, Move}
use Rattle.domain_core.specs.declared.event.Moved.{Moved}
use Rattle.domain_core.specs.declared.event.Reply.{Reply}
use Rattle.domain_core.specs.declared.event.Reply.TheVariants as reply
use Rattle.domain_core.specs.declared.event.Refusal.TheVariants.{NoSuch, JournalFull}
use Rattle.domain_core.specs.Devices.{host_at}
use Rattle.domain_core.specs.Hosts.{is_full}
use Rattle.domain_core.specs.Machine.{Machine, acted, is_recorded, has_moved}
use Rattle.domain_core.specs.PrivateFarm.{State, Call, Answer, is_there, names_own, answered, unless_refused, next}
use Rattle.whole_farm.specs.Places.{Place, AreApart, AreSeparatePlaces, IsPlace}
use Rattle.whole_farm.specs.Messages.{configured_by_in}
use Rattle.whole_farm.specs.Whole.{Farm, machine_in, acted_on_own, acted_in, is_recorded_in}
use Rattle.whole_farm.specs.Whole.{answered_in, next_in, whole_next}
use Rattle.whole_farm.specs.Projection.{own_switch, projected, lowered_config, lowered_reply, lowered_answer}
use Rattle.whole_farm.specs.Domains.{DrivesItself, EachDrivesItself}
use Rattle.whole_farm.proofs.Messages.{Beside, own_item, own_reply, other_item, drives_item}
use Rattle.whole_farm.proofs.Packets.{moves_alone, put-own, put-other}

-- the switch after an event of these ports: others see nothing of it, and every domain still drives itself
record LeavesOthers (ports : List ℕ) (old new : Switch) : Type 0 where
  apart : (others : List ℕ) → AreApart ports others → own_switch others new ≡ own_switch others old
  drives : (others : List ℕ) → Beside ports others → DrivesItself others old → DrivesItself others new

same-switch : (ports : List ℕ) (s : Switch) → LeavesOthers ports s s
same-switch ports s = record { apart = λ others apart. refl; drives = λ others beside own. own }

-- ---- a configuration byte

record ConfiguresAlone (place : Place) (s : Switch) (whole alone : Configured) : Type 0 where
  told : lowered_config place.ports whole.reply ≡ alone.reply
  seen : own_switch place.ports whole.switch ≡ alone.switch
  left : whole.rest ≡ alone.rest
  others : LeavesOthers place.ports s whole.switch

configures-by : SwitchLaws → (place : Place) (s : Switch) (bytes : List ℕ) (found : Option Item) → IsPlace place
    → DrivesItself place.ports s
    → ConfiguresAlone place s (configured_by_in place s bytes found)
    (configured_by place.part.count (own_switch place.ports s) bytes found)
configures-by laws place s bytes None is own =
    record { told = refl; seen = refl; left = refl; others = same-switch place.ports s }
configures-by laws place s bytes (Some item) is own = record {
  told = own_reply laws place s item is.count own;
  seen = own_item laws place s item is.ports.one_to_one is.count own;
  left = refl;
  others = record {
    apart = λ others apart. other_item laws place others s item is.count apart;
    drives = λ others beside drives. drives_item place others s item is.count beside drives;
  };
}

-- ---- an event

-- the domain sees of an event what it would see alone, and the others see nothing
record ActsAlone (place : Place) (domain : ℕ) (old : Farm) (whole : Farm × Reply)
    (alone : Machine × Reply) : Type 0 where
  told : lowered_reply place.ports whole.1 ≡ alone.1
  seen : own_switch place.ports whole.0.switch ≡ alone.0.switch
  rest : whole.0.rests domain ≡ alone.0.rest
  devices : whole.0.devices domain ≡ alone.0.devices
  other_rests : (d : ℕ) → d ≢ domain → whole.0.rests d ≡ old.rests d
  other_devices : (d : ℕ) → d ≢ domain → whole.0.devices d ≡ old.devices d
  others : LeavesOthers place.ports old.switch whole.0.switch

-- an event that touches the domain's own nodes and hosts alone
acts-on-own : (place : Place) (farm : Farm) (domain : ℕ) (event : Event) (alone : Machine × Reply)
    → lowered_reply place.ports (acted_on_own place farm domain event).1 ≡ alone.1
    → own_switch place.ports farm.switch ≡ alone.0.switch → farm.rests domain ≡ alone.0.rest
    → (acted place.part (machine_in farm domain) event).0.devices ≡ alone.0.devices
    → ActsAlone place domain farm (acted_on_own place farm domain event) alone
acts-on-own place farm domain event alone told seen rest devices = record {
  told = told;
  seen = seen;
  rest = rest;
  devices = put-own domain _ farm.devices ∙ devices;
  other_rests = λ d ne. refl;
  other_devices = λ d ne. put-other domain _ farm.devices d ne;
  others = same-switch place.ports farm.switch;
}

written-alike : (ports : List ℕ) (full : Bool)
    → lowered_reply ports (if full then reply.Full else reply.Written) ≡ (if full then reply.Full else reply.Written)
written-alike ports true = refl
written-alike ports false = refl

call-is-private : SwitchLaws → (plan : List Place) (farm : Farm) (domain : ℕ) (place : Place) (by : By) (event : Event)
    → AreSeparatePlaces plan → EachDrivesItself plan farm.switch
    → slice_get plan domain ≡ Some place
    → names_own place.part by event ≡ true
    → ActsAlone place domain farm (acted_in plan place farm domain event)
    (acted place.part (projected place farm domain).machine event)
call-is-private laws plan farm domain place by (Config byte) separate own there named =
    let is = separate.each domain place there in
    let bytes : List ℕ = farm.rests domain ++ byte ∷ [] in
    let c = configures-by laws place farm.switch bytes (item_of bytes) is (own domain place there) in
    record {
      told = ap (λ (r : ConfigReply). reply.Config r) c.told;
      seen = c.seen;
      rest = put-own domain _ farm.rests ∙ c.left;
      devices = refl;
      other_rests = λ d ne. put-other domain _ farm.rests d ne;
      other_devices = λ d ne. refl;
      others = c.others;
    }
call-is-private laws plan farm domain place by (Write host byte) separate own there named =
    acts-on-own place farm domain (Write host byte) _
    (written-alike place.ports (is_full (host_at (farm.devices domain) host).sending)) refl refl refl
call-is-private laws plan farm domain place by (Read host) separate own there named =
    acts-on-own place farm domain (Read host) _ refl refl refl refl
call-is-private laws plan farm domain place by (Reset node) separate own there named =
    acts-on-own place farm domain (Reset node) _ refl refl refl refl
call-is-private laws plan farm domain place by (Look node) separate own there named =
    acts-on-own place farm domain (Look node) _ refl refl refl refl
call-is-private laws plan farm domain place by (Step node) separate own there named =
    acts-on-own place farm domain (Step node) _ refl refl refl refl
call-is-private laws plan farm domain place by (Move port) separate own there named =
    let m =
    moves_alone laws plan farm.switch farm.devices domain place port separate own there
    (ltb-true port place.part.count named) in
    record {
      told = ap (λ (r : Moved). reply.Moved r) m.answer;
      seen = refl;
      rest = refl;
      devices = m.devices.own;
      other_rests = λ d ne. refl;
      other_devices = m.devices.others;
      others = same-switch place.ports farm.switch;
    }

records : SwitchLaws → (plan : List Place) (farm : Farm) (domain : ℕ) (place : Place) (by : By) (event : Event)
    → AreSeparatePlaces plan → EachDrivesItself plan farm.switch
    → slice_get plan domain ≡ Some place
    → names_own place.part by event ≡ true
    → is_recorded_in plan place farm domain event ≡ is_recorded place.part (projected place farm domain).machine event
records laws plan farm domain place by (Config byte) separate own there named = refl
records laws plan farm domain place by (Write host byte) separate own there named = refl
records laws plan farm domain place by (Read host) separate own there named = refl
records laws plan farm domain place by (Reset node) separate own there named = refl
records laws plan farm domain place by (Look node) separate own there named = refl
records laws plan farm domain place by (Step node) separate own there named = refl
records laws plan farm domain place by (Move port) separate own there named =
    ap has_moved (moves_alone laws plan farm.switch farm.devices domain place port separate own there
    (ltb-true port place.part.count named)).answer

-- ---- a call

-- the domain is answered as alone and becomes what it would become alone; the others see nothing
pub record StepsAlone (place : Place) (domain : ℕ) (old : Farm) (whole : Farm × Answer)
    (alone : State × Answer) : Type 0 where
  pub answer : lowered_answer place whole.1 ≡ alone.1
  pub state : projected place whole.0 domain ≡ alone.0
  pub others : (d : ℕ) (other : Place) → d ≢ domain → AreApart place.ports other.ports
      → projected other whole.0 d ≡ projected other old d
  pub unseen : (ports : List ℕ) → AreApart place.ports ports
      → own_switch ports whole.0.switch ≡ own_switch ports old.switch
  pub drives : (ports : List ℕ) → Beside place.ports ports → DrivesItself ports old.switch
      → DrivesItself ports whole.0.switch

refused : (place : Place) (domain : ℕ) (farm : Farm) (whole alone : Answer) → lowered_answer place whole ≡ alone
    → StepsAlone place domain farm (farm, whole) (projected place farm domain, alone)
refused place domain farm whole alone told =
    record {
      answer = told;
      state = refl;
      others = λ d other ne apart. refl;
      unseen = λ ports apart. refl;
      drives = λ ports beside own. own;
    }

steps-by : SwitchLaws → (plan : List Place) (farm : Farm) (domain : ℕ) (place : Place) (call : Call)
    → AreSeparatePlaces plan → EachDrivesItself plan farm.switch
    → slice_get plan domain ≡ Some place
    → (there full : Bool) → is_there place.part call ≡ there
    → StepsAlone place domain farm
    (unless_refused there full farm
    (answered_in plan place farm domain call.event, (acted_in plan place farm domain call.event).1))
    (unless_refused there full (projected place farm domain) (
      answered place.part (projected place farm domain) call.event,
      (acted place.part (projected place farm domain).machine call.event).1,
    ))
steps-by laws plan farm domain place call separate own at false full is =
    refused place domain farm (Err NoSuch) _ refl
steps-by laws plan farm domain place call separate own at true true is =
    refused place domain farm (Err JournalFull) _ refl
steps-by laws plan farm domain place call separate own at true false is =
    let named = (and_parts _ _ is).1 in
    let a = call-is-private laws plan farm domain place call.by call.event separate own at named in
    let counts =
    put-own domain _ farm.recorded
    ∙ ap (λ t. cond t (farm.recorded domain + 1) (farm.recorded domain))
    (records laws plan farm domain place call.by call.event separate own at named) in
    record {
      answer = ap (λ (r : Reply). Ok r) a.told;
      state =
          λ i.
          record {
            machine = record { switch = a.seen i; rest = a.rest i; devices = a.devices i };
            recorded = counts i;
          };
      others = λ d other ne apart.
          let switch = a.others.apart other.ports apart in
          let count = put-other domain _ farm.recorded d ne in
          λ i.
          record {
            machine =
                record { switch = switch i; rest = a.other_rests d ne i; devices = a.other_devices d ne i };
            recorded = count i;
          };
      unseen = a.others.apart;
      drives = a.others.drives;
    }

-- a call in the whole farm answers and leaves of its domain what the domain alone answers and becomes
pub steps_alone : SwitchLaws → (plan : List Place) (farm : Farm) (domain : ℕ) (place : Place) (call : Call)
    → AreSeparatePlaces plan → EachDrivesItself plan farm.switch
    → slice_get plan domain ≡ Some place
    → StepsAlone place domain farm (whole_next plan farm (domain, call))
    (next place.part (projected place farm domain) call)
steps_alone laws plan farm domain place call separate own there =
    rw there
    (steps-by laws plan farm domain place call separate own there (is_there place.part call)
    (farm.recorded domain == place.part.limit) refl)

-- ---- what stays

-- another domain's call is not seen
other-by : SwitchLaws
    → (plan : List Place) (farm : Farm) (caller : ℕ) (call : Call) (d : ℕ) (place : Place) (found : Option Place)
    → slice_get plan caller ≡ found → AreSeparatePlaces plan
    → EachDrivesItself plan farm.switch
    → slice_get plan d ≡ Some place → d ≢ caller
    → projected place (next_in plan farm caller call found).0 d ≡ projected place farm d
other-by laws plan farm caller call d place None at separate own there ne = refl
other-by laws plan farm caller call d place (Some from) at separate own there ne =
    let step = steps_alone laws plan farm caller from call separate own at in
    ap (λ (found : Option Place). projected place (next_in plan farm caller call found).0 d) (sym at)
    ∙ step.others d place ne (separate.apart caller d from place (λ e. ne (sym e)) at there)

-- a call of one domain leaves what each other domain is by itself
pub other_stays : SwitchLaws → (plan : List Place) (farm : Farm) (caller : ℕ) (call : Call) (d : ℕ) (place : Place)
    → AreSeparatePlaces plan → EachDrivesItself plan farm.switch → slice_get plan d ≡ Some place
    → d ≢ caller
    → projected place (whole_next plan farm (caller, call)).0 d ≡ projected place farm d
other_stays laws plan farm caller call d place separate own there ne =
    other-by laws plan farm caller call d place (slice_get plan caller) refl separate own there ne

drives-by : SwitchLaws → (plan : List Place) (farm : Farm) (caller : ℕ) (call : Call) (found : Option Place)
    → slice_get plan caller ≡ found → AreSeparatePlaces plan
    → EachDrivesItself plan farm.switch
    → EachDrivesItself plan (next_in plan farm caller call found).0.switch
drives-by laws plan farm caller call None at separate own = own
drives-by laws plan farm caller call (Some from) at separate own =
    let step = steps_alone laws plan farm caller from call separate own at in
    λ d place there.
    let beside : Beside from.ports place.ports =
    elim (cases_eq caller d) [
      | inl same ↦ inl (ap (λ (p : Place). p.ports) (same_Some _ _ (sym at ∙ ap (slice_get plan) same ∙ there)))
      | inr ne ↦ inr (separate.apart caller d from place ne at there)
    ] in
    subst (λ (found : Option Place). DrivesItself place.ports (next_in plan farm caller call found).0.switch) at
    (step.drives place.ports beside (own d place there))

-- after a call each domain's outputs are still driven from inside it
pub still_each_drives : SwitchLaws → (plan : List Place) (farm : Farm) (call : ℕ × Call) → AreSeparatePlaces plan
    → EachDrivesItself plan farm.switch
    → EachDrivesItself plan (whole_next plan farm call).0.switch
still_each_drives laws plan farm call separate own =
    drives-by laws plan farm call.0 call.1 (slice_get plan call.0) refl separate own
