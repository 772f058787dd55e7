-- A port that is driven is one of the part's, and so is the node
-- of a link that is at a port, for the Moves of a peek.
use Rattle.std.proofs.Common.{◌≡◌, ℕ, ◌+◌, ◌<◌, ◌≤◌, ◌==◌, Bool, true, false, List, [], ◌∷◌, length, Option, Some, None}
use Rattle.std.proofs.Common.{if◌then◌else◌, subst, arith}
use Rattle.std.specs.List.{All, range_with_len}
use Rattle.std.proofs.lemmas.List.Elements.{All-filter}
use Rattle.std.proofs.lemmas.List.FromFn.{get_or-range_with_len, length-range_with_len}
use Rattle.std.proofs.Common.{get_or}
use Rattle.link_channels.specs.declared.number.LinkNumber.{LinkNumber}
use Rattle.crossbar.specs.Switch.{Switch, drives}
use Rattle.plan_rules.specs.declared.part.HostPart.{HostPart}
use Rattle.plan_rules.specs.declared.part.NodePart.{NodePart}
use Rattle.plan_rules.specs.Part.{PartData}
use Rattle.domain_core.specs.declared.device.Device.{Device}
use Rattle.domain_core.specs.declared.device.Device.TheVariants.{Host, Link}
use Rattle.domain_core.specs.Devices.{or_else, host_at_port, is_wired_to, link_of_four, link_at_port, device_at}
use Rattle.domain_core.specs.Moves.{driven, joining_of}

range-below : (count : ℕ) → All (λ q. q < count) (range_with_len 0 count)
range-below count k d lt =
    let is : length (range_with_len 0 count) ≡ count = length-range_with_len 0 count in
    let below : k < count = omega arith in
    let value : get_or (range_with_len 0 count) k d ≡ 0 + k = get_or-range_with_len 0 count k d below in
    omega arith

-- an output that a port drives alone is below the count
pub driven-below : (part : PartData) (s : Switch) (port output : ℕ)
    → driven (joining_of part) s port ≡ output ∷ []
    → output < part.count
driven-below part s port output same =
    let all : All (λ q. q < part.count) (driven (joining_of part) s port) =
    All-filter (drives s port) (λ q. q < part.count) (range_with_len 0 part.count) (range-below part.count) in
    let one : All (λ q. q < part.count) (output ∷ []) =
    subst (λ (xs : List ℕ). All (λ q. q < part.count) xs) same all in
    one 0 0 (omega arith)

-- the node of a link is below a number
abbrev Below : ℕ → Option Device → Type 0
Below bound None = Unit {0}
Below bound (Some (Host number)) = Unit {0}
Below bound (Some (Link number link)) = number < bound

below-if : (bound : ℕ) (b : Bool) (device other_device : Option Device) → Below bound device → Below bound other_device
    → Below bound (if b then device else other_device)
below-if bound true device other_device given holds = given
below-if bound false device other_device given holds = holds

below-else : (bound : ℕ) (device other_device : Option Device) → Below bound device → Below bound other_device
    → Below bound (or_else device other_device)
below-else bound None other_device given holds = holds
below-else bound (Some device) other_device given holds = given

below-wired : (bound : ℕ) (wired : Option ℕ) (port : ℕ) (device other_device : Option Device) → Below bound device
    → Below bound other_device
    → Below bound (is_wired_to wired port device other_device)
below-wired bound None port device other_device given holds = holds
below-wired bound (Some w) port device other_device given holds =
    below-if bound (w == port) device other_device given holds

hosts-below : (bound number : ℕ) (hosts : List HostPart) (port : ℕ) → Below bound (host_at_port number hosts port)
hosts-below bound number [] port = tt
hosts-below bound number (h ∷ hosts) port =
    below-if bound (h.port == port) (Some (Host number)) (host_at_port (number + 1) hosts port) tt
    (hosts-below bound (number + 1) hosts port)

links-below : (bound number : ℕ) (links : List (Option ℕ)) (port : ℕ) → number < bound
    → Below bound (link_of_four number links port)
links-below bound number (a ∷ b ∷ c ∷ d ∷ []) port lt =
    below-wired bound a port _ _ lt
    (below-wired bound b port _ _ lt (below-wired bound c port _ _ lt (below-wired bound d port _ _ lt tt)))
links-below bound number links port lt = tt

nodes-below : (bound number : ℕ) (nodes : List NodePart) (port : ℕ) → number + length nodes ≤ bound
    → Below bound (link_at_port number nodes port)
nodes-below bound number [] port le = tt
nodes-below bound number (n ∷ nodes) port le =
    below-else bound (link_of_four number n.links port) (link_at_port (number + 1) nodes port)
    (links-below bound number n.links port (omega arith))
    (nodes-below bound (number + 1) nodes port (omega arith))

-- the node of a link that is at a port is one of the part's
pub node-below : (part : PartData) (port node : ℕ) (link : LinkNumber) → device_at part port ≡ Some (Link node link)
    → node < length part.nodes
node-below part port node link same =
    subst (Below (length part.nodes)) same
    (below-else (length part.nodes) (host_at_port 0 part.hosts port) (link_at_port 0 part.nodes port)
    (hosts-below (length part.nodes) 0 part.hosts port)
    (nodes-below (length part.nodes) 0 part.nodes port (omega arith)))
