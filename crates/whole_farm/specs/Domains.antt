-- The domains' states that a whole farm is made of.
use Rattle.std.specs.Prelude.{◌≡◌, ℕ, Bool, false, List, length, Option, Some, None, Err, slice_get, slice_set, map, Contains}
use Rattle.std.specs.Option.{option_map}
use Rattle.std.specs.FinMap as fin
use Rattle.std.specs.FinSet as set
use Rattle.crossbar.specs.Switch.{Switch}
use Rattle.domain_core.specs.declared.event.Refusal.TheVariants.{NoSuch}
use Rattle.domain_core.specs.PrivateFarm.{State, Call, next, opening}
use Rattle.whole_farm.specs.Places.{Place, AreSeparatePlaces}
use Rattle.whole_farm.specs.Messages.{raised}
use Rattle.whole_farm.specs.Whole.{Farm, whole_next, whole_opening}
use Rattle.whole_farm.specs.Projection.{projected, lowered_answer}

-- each connected output of these ports is driven by one of them
abbrev pub DrivesItself : List ℕ → Switch → Type 0
DrivesItself ports s =
    (output input : ℕ) → Contains ports output → fin.get s.pairs output ≡ Some input → Contains ports input

-- every domain's outputs are driven from inside it
abbrev pub EachDrivesItself : List Place → Switch → Type 0
EachDrivesItself plan s =
    (domain : ℕ) (place : Place) → slice_get plan domain ≡ Some place → DrivesItself place.ports s

-- the port is of no domain
abbrev pub IsFree : List Place → ℕ → Type 0
IsFree plan port =
    (domain : ℕ) (place : Place) → slice_get plan domain ≡ Some place → Contains place.ports port → ⊥

-- what drives an output, and whether it is ready
pub record Output : Type 0 where
  pub driver : Option ℕ
  pub ready : Bool

-- what a switch has of an output
abbrev pub output_of : Switch → ℕ → Output
output_of s output = record { driver = fin.get s.pairs output; ready = set.contains s.ready output }

-- an output that nothing drives, which isn't ready
abbrev pub disconnected_output : Output
disconnected_output = record { driver = None; ready = false }

-- the same with the driver's physical number
abbrev pub raised_output : List ℕ → Output → Output
raised_output ports o = record o { driver = option_map (raised ports) o.driver }

-- each domain of the farm is, by itself, in its state; no connection leaves a domain; and ports of no domain are
-- disconnected
pub record IsMadeOf (plan : List Place) (farm : Farm) (states : List State) : Type 0 where
  pub state_each : length states ≡ length plan
  pub each : (domain : ℕ) (place : Place) (s : State) → slice_get plan domain ≡ Some place
      → slice_get states domain ≡ Some s → projected place farm domain ≡ s
  pub within : EachDrivesItself plan farm.switch
  pub free : (port : ℕ) → IsFree plan port → output_of farm.switch port ≡ disconnected_output

-- as it is opened, the farm is made of its domains as they are opened
abbrev pub OpeningIsMadeOfOpenings : Type 0
OpeningIsMadeOfOpenings =
    (plan : List Place) → IsMadeOf plan (whole_opening plan) (map (λ place. opening place.part) plan)

-- a call of a domain is answered as by the domain alone, which becomes what it would become alone, and all others stay
pub record IsOneCall (plan : List Place) (farm : Farm) (states : List State) (domain : ℕ) (call : Call)
    (place : Place) (s : State) : Type 0 where
  pub answer : lowered_answer place (whole_next plan farm (domain, call)).1 ≡ (next place.part s call).1
  pub made : IsMadeOf plan (whole_next plan farm (domain, call)).0 (slice_set states domain (next place.part s call).0)

-- each call of a domain is so, in every farm that is made of its domains' states
abbrev pub EachCallIsPrivate : Type 0
EachCallIsPrivate =
    (plan : List Place) (farm : Farm) (states : List State) (domain : ℕ) (call : Call) (place : Place) (s : State)
    → AreSeparatePlaces plan → IsMadeOf plan farm states
    → slice_get plan domain ≡ Some place → slice_get states domain ≡ Some s
    → IsOneCall plan farm states domain call place s

-- a call of a domain that isn't in the plan changes nothing
abbrev pub NoDomainNoChange : Type 0
NoDomainNoChange =
    (plan : List Place) (farm : Farm) (domain : ℕ) (call : Call) → slice_get plan domain ≡ None
    → whole_next plan farm (domain, call) ≡ (farm, Err NoSuch)

-- a physical output is driven and ready as its domain says of its virtual number
abbrev pub EachOutputIsOfItsDomain : Type 0
EachOutputIsOfItsDomain =
    (plan : List Place) (farm : Farm) (states : List State) (domain : ℕ) (place : Place) (s : State)
    (output port : ℕ)
    → AreSeparatePlaces plan → IsMadeOf plan farm states
    → slice_get plan domain ≡ Some place → slice_get states domain ≡ Some s
    → slice_get place.ports output ≡ Some port
    → output_of farm.switch port ≡ raised_output place.ports (output_of s.machine.switch output)
