-- The table of the devices of all ports, and that each of them is
-- there, for `table_of` and the contracts that look a device up.
use Rattle.std.proofs.Common.{◌≡◌, ℕ, suc, ◌+◌, ◌<◌, ◌≤◌, ◌==◌, Bool, true, false, List, [], ◌∷◌, length}
use Rattle.std.proofs.Common.{get_or, Option, Some, None}
use Rattle.std.proofs.Common.{subst, arith, if◌then◌else◌}
use Rattle.plan_rules.specs.declared.part.HostPart.{HostPart}
use Rattle.plan_rules.specs.declared.part.NodePart.{NodePart}
use Rattle.plan_rules.specs.Part.{PartData}
use Rattle.link_channels.specs.declared.number.LinkNumber.{LinkNumber}
use Rattle.link_channels.specs.declared.number.LinkNumber.TheVariants.{Zero, One, Two, Three}
use Rattle.domain_core.specs.declared.device.Device.{Device}
use Rattle.domain_core.specs.declared.device.Device.TheVariants.{Host, Link}
use Rattle.domain_core.specs.Devices.{DeviceStates, HasDevice, or_else, is_wired_to, host_at_port, link_at_port}
use Rattle.domain_core.specs.Devices.{link_of_four, device_at}

-- the devices of the first ports are in a table
abbrev pub AreJoinedBelow : PartData → ℕ → List (Option Device) → Type 0
AreJoinedBelow part below table = (port : ℕ) → port < below → get_or table port None ≡ device_at part port

-- ---- each device is there

abbrev IsHostBelow : ℕ → Device → Type 0
IsHostBelow count (Host number) = number < count
IsHostBelow count (Link number link) = ⊥

abbrev IsLinkBelow : ℕ → Device → Type 0
IsLinkBelow count (Host number) = ⊥
IsLinkBelow count (Link number link) = number < count

one_host : (here : Bool) (number count : ℕ) (rest : Option Device) (device : Device)
    → (rest ≡ Some device → IsHostBelow (number + 1 + count) device)
    → (if here then Some (Host number) else rest) ≡ Some device
    → IsHostBelow (number + suc count) device
one_host true number count rest device later is =
    let e : Host number ≡ device = cc in subst (IsHostBelow (number + suc count)) e (omega arith)
one_host false number count rest device later is = subst (λ (n : ℕ). IsHostBelow n device) (omega arith) (later is)

host_below : (number port : ℕ) (hosts : List HostPart) (device : Device) → host_at_port number hosts port ≡ Some device
    → IsHostBelow (number + length hosts) device
host_below number port [] device is = absurd cc
host_below number port (h ∷ hosts) device is =
    one_host (h.port == port) number (length hosts) (host_at_port (number + 1) hosts port) device
    (host_below (number + 1) port hosts device) is

wired_here : (here : Bool) (number : ℕ) (link : LinkNumber) (rest : Option Device) (device : Device)
    → (rest ≡ Some device → IsLinkBelow (suc number) device)
    → (if here then Some (Link number link) else rest) ≡ Some device
    → IsLinkBelow (suc number) device
wired_here true number link rest device later is =
    let e : Link number link ≡ device = cc in subst (IsLinkBelow (suc number)) e (omega arith)
wired_here false number link rest device later is = later is

one_link : (wired : Option ℕ) (port number : ℕ) (link : LinkNumber) (rest : Option Device) (device : Device)
    → (rest ≡ Some device → IsLinkBelow (suc number) device)
    → is_wired_to wired port (Some (Link number link)) rest ≡ Some device
    → IsLinkBelow (suc number) device
one_link None port number link rest device later is = later is
one_link (Some w) port number link rest device later is = wired_here (w == port) number link rest device later is

four_below : (number port : ℕ) (links : List (Option ℕ)) (device : Device)
    → link_of_four number links port ≡ Some device
    → IsLinkBelow (suc number) device
four_below number port (a ∷ b ∷ c ∷ d ∷ []) device is =
    one_link a port number Zero _ device
    (one_link b port number One _ device
    (one_link c port number Two _ device (one_link d port number Three None device (λ none. absurd cc))))
    is
four_below number port [] device is = absurd cc
four_below number port (a ∷ []) device is = absurd cc
four_below number port (a ∷ b ∷ []) device is = absurd cc
four_below number port (a ∷ b ∷ c ∷ []) device is = absurd cc
four_below number port (a ∷ b ∷ c ∷ d ∷ e ∷ rest) device is = absurd cc

more_links : (number count : ℕ) (device : Device) → number ≤ count → IsLinkBelow number device
    → IsLinkBelow count device
more_links number count (Host h) few below = below
more_links number count (Link n link) few below = omega (arith, few, below)

either_link : (first rest : Option Device) (number count : ℕ) (device : Device)
    → (first ≡ Some device → IsLinkBelow (suc number) device)
    → (rest ≡ Some device → IsLinkBelow (number + 1 + count) device) → or_else first rest ≡ Some device
    → IsLinkBelow (number + suc count) device
either_link None rest number count device here later is =
    more_links (number + 1 + count) (number + suc count) device (omega arith) (later is)
either_link (Some d) rest number count device here later is =
    more_links (suc number) (number + suc count) device (omega arith) (here is)

link_below : (number port : ℕ) (nodes : List NodePart) (device : Device) → link_at_port number nodes port ≡ Some device
    → IsLinkBelow (number + length nodes) device
link_below number port [] device is = absurd cc
link_below number port (n ∷ nodes) device is =
    either_link (link_of_four number n.links port) (link_at_port (number + 1) nodes port) number (length nodes) device
    (four_below number port n.links device) (link_below (number + 1) port nodes device) is

host_held : (d : DeviceStates) (device : Device) → IsHostBelow (length d.hosts) device → HasDevice d device
host_held d (Host number) below = below
host_held d (Link number link) below = absurd below

link_held : (d : DeviceStates) (device : Device) → IsLinkBelow (length d.nodes) device → HasDevice d device
link_held d (Host number) below = absurd below
link_held d (Link number link) below = below

held_by : (d : DeviceStates) (first rest : Option Device) (device : Device)
    → (first ≡ Some device → HasDevice d device) → (rest ≡ Some device → HasDevice d device)
    → or_else first rest ≡ Some device
    → HasDevice d device
held_by d None rest device one two is = two is
held_by d (Some x) rest device one two is = one is

zero_and : (n m : ℕ) → m ≡ n → 0 + n ≡ m
zero_and n m same = omega (arith, same)

-- a device that is joined to a port is one of those of the part
pub joined_holds : (part : PartData) (d : DeviceStates) (port : ℕ) (device : Device)
    → length d.nodes ≡ length part.nodes → length d.hosts ≡ length part.hosts → device_at part port ≡ Some device
    → HasDevice d device
joined_holds part d port device nodes hosts is =
    held_by d (host_at_port 0 part.hosts port) (link_at_port 0 part.nodes port) device
    (λ found.
    host_held d device
    (subst (λ (n : ℕ). IsHostBelow n device) (zero_and (length part.hosts) (length d.hosts) hosts)
    (host_below 0 port part.hosts device found)))
    (λ found.
    link_held d device
    (subst (λ (n : ℕ). IsLinkBelow n device) (zero_and (length part.nodes) (length d.nodes) nodes)
    (link_below 0 port part.nodes device found)))
    is
