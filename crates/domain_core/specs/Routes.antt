-- Masks of outputs, and what a Move of a port would do, as the code finds it before it does it.
use Rattle.std.specs.Prelude.{◌≡◌, ℕ, ◌==◌, Bool, List, filter, if◌then◌else◌}
use Rattle.std.specs.Int.{bit_at}
use Rattle.std.specs.List.{range_with_len}
use Rattle.plan_rules.specs.Part.{PartData}
use Rattle.domain_core.specs.declared.event.Moved.{Moved}
use Rattle.domain_core.specs.declared.event.Moved.TheVariants as moved
use Rattle.domain_core.specs.declared.moves.Fate.{Fate}
use Rattle.domain_core.specs.declared.moves.Fate.TheVariants as fate
use Rattle.domain_core.specs.declared.moves.Route.{Route}
use Rattle.domain_core.specs.declared.moves.Route.TheVariants as route
use Rattle.domain_core.specs.Devices.{DeviceStates, HasDevice, taken_from_device}
use Rattle.domain_core.specs.Moves.{copies_arrived, joining_of}

-- the outputs whose bits are set in a mask
abbrev pub marked_by : ℕ → List ℕ → List ℕ
marked_by mask outputs = filter (λ q. bit_at mask q == 1) outputs

-- the bits of a mask are set exactly if a test holds
abbrev pub Marks : ℕ → (ℕ → Bool) → Type 0
Marks mask test = (q : ℕ) → bit_at mask q ≡ (if test q then 1 else 0)

-- what a packet is answered that waits
abbrev pub fate_answer : Fate → Moved
fate_answer fate.Lost = moved.Lost
fate_answer fate.Stayed = moved.Stayed
fate_answer fate.Passed = moved.Passed

-- what a Move is answered that would go so
abbrev pub route_answer : Route → Moved
route_answer route.Nothing = moved.Nothing
route_answer route.Stayed = moved.Stayed
route_answer (route.Lost device) = moved.Lost
route_answer (route.Passed device packet outputs) = moved.Passed

-- and what it leaves
abbrev pub route_leaves : PartData → Route → DeviceStates → DeviceStates
route_leaves part route.Nothing d = d
route_leaves part route.Stayed d = d
route_leaves part (route.Lost device) d = taken_from_device device d
route_leaves part (route.Passed device packet outputs) d =
    copies_arrived (joining_of part) packet (marked_by outputs (range_with_len 0 part.count))
    (taken_from_device device d)

-- the device from which the packet goes is there
abbrev pub HasItsDevice : DeviceStates → Route → Type 0
HasItsDevice d route.Nothing = Unit {0}
HasItsDevice d route.Stayed = Unit {0}
HasItsDevice d (route.Lost device) = HasDevice d device
HasItsDevice d (route.Passed device packet outputs) = HasDevice d device
