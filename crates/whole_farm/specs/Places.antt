-- The places of a farm's domains among the physical ports of the IMS C004, and which device is joined to each port.
use Rattle.std.specs.Prelude.{◌≡◌, ◌≢◌, ℕ, ◌+◌, List, [], ◌∷◌, Option, Some, None, slice_get, length, Contains, map, flat_map, if◌then◌else◌, ◌==◌}
use Rattle.std.specs.Option.{option_map}
use Rattle.crossbar.specs.Ranges.{IsNumbering}
use Rattle.crossbar.specs.Row.{number_among}
use Rattle.plan_rules.specs.Data.{DomainData}
use Rattle.plan_rules.specs.Part.{PartData, part_of, physical_ports}
use Rattle.domain_core.specs.declared.device.Device.{Device}
use Rattle.domain_core.specs.Devices.{device_at}

-- a domain's part, and its physical ports: virtual port v is the v-th of them
pub record Place : Type 0 where
  pub part : PartData
  pub ports : List ℕ

-- the place of a domain of a plan
abbrev pub place_of : DomainData → Place
place_of domain = record { part = part_of domain; ports = physical_ports domain }

-- a plan, as far as the farm needs it: the place of each domain, by its number
abbrev pub places_of : List DomainData → List Place
places_of plan = map place_of plan

-- as many distinct ports of the crossbar as the part counts
pub record IsPlace (place : Place) : Type 0 where
  pub ports : IsNumbering place.ports
  pub count : length place.ports ≡ place.part.count

-- no port is in both lists
abbrev pub AreApart : List ℕ → List ℕ → Type 0
AreApart ports others = (port : ℕ) → Contains ports port → Contains others port → ⊥

-- each domain has ports of its own
pub record AreSeparatePlaces (plan : List Place) : Type 0 where
  pub each : (domain : ℕ) (place : Place) → slice_get plan domain ≡ Some place → IsPlace place
  pub apart : (domain other : ℕ) (place there : Place) → domain ≢ other → slice_get plan domain ≡ Some place
      → slice_get plan other ≡ Some there → AreApart place.ports there.ports

-- all ports of a plan: domain after domain, each one's by rising virtual numbers
abbrev pub all_ports : List Place → List ℕ
all_ports plan = flat_map (λ place. place.ports) plan

-- what each domain has, once one of them has this instead of what it had
abbrev pub put_at : {X : Type 0} → ℕ → X → (ℕ → X) → ℕ → X
put_at domain x all = λ d. if d == domain then x else all d

-- ---- the device that is joined to a physical port

-- a device of the farm: the number of its domain, and which device it is there
pub record Joined : Type 0 where
  pub domain : ℕ
  pub device : Device

-- a device of this domain, if there is one
abbrev pub joined_to : ℕ → Option Device → Option Joined
joined_to domain device = option_map (λ d. record { domain = domain; device = d }) device

-- the device at a port whose virtual number in this place is known, or else what the later places say
abbrev pub device_or : ℕ → Place → Option ℕ → Option Joined → Option Joined
device_or domain place None later = later
device_or domain place (Some number) later = joined_to domain (device_at place.part number)

-- the same in all places, where the first place has this number
abbrev pub device_from : ℕ → List Place → ℕ → Option Joined
device_from domain [] port = None
device_from domain (place ∷ plan) port =
    device_or domain place (number_among place.ports port) (device_from (domain + 1) plan port)

-- the device that is joined to a physical port
abbrev pub device_in : List Place → ℕ → Option Joined
device_in plan port = device_from 0 plan port
