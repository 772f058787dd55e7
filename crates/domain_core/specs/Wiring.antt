-- Which device the part names for a port. By a part's rules it is one at most, and it is the device that is joined
-- there.
use Rattle.std.specs.Prelude.{◌≡◌, ◌↔◌, ℕ, length, Some, slice_get, All}
use Rattle.link_channels.specs.declared.number.LinkNumber.{LinkNumber}
use Rattle.link_channels.specs.declared.number.LinkNumber.TheVariants.{Zero, One, Two, Three}
use Rattle.plan_rules.specs.declared.part.HostPart.{HostPart}
use Rattle.plan_rules.specs.declared.part.NodePart.{NodePart}
use Rattle.plan_rules.specs.Part.{PartData, IsPart}
use Rattle.domain_core.specs.declared.device.Device.{Device}
use Rattle.domain_core.specs.declared.device.Device.TheVariants.{Host, Link}
use Rattle.domain_core.specs.Devices.{device_at}

-- the place of a link among a node's four
abbrev pub link_index : LinkNumber → ℕ
link_index Zero = 0
link_index One = 1
link_index Two = 2
link_index Three = 3

-- the part has a host of this number, at this port
pub record IsHostAt (part : PartData) (number port : ℕ) : Type 0 where
  pub host : HostPart
  pub there : slice_get part.hosts number ≡ Some host
  pub port_is : host.port ≡ port

-- the part has a node of this number, with this link at this port
pub record IsLinkAt (part : PartData) (number : ℕ) (link : LinkNumber) (port : ℕ) : Type 0 where
  pub node : NodePart
  pub there : slice_get part.nodes number ≡ Some node
  pub port_is : slice_get node.links (link_index link) ≡ Some (Some port)

-- the part names the port for the device
abbrev pub Names : PartData → Device → ℕ → Type 0
Names part (Host number) port = IsHostAt part number port
Names part (Link number link) port = IsLinkAt part number link port

-- each node of the part says of four links whether they are wired
abbrev pub HaveFourLinks : PartData → Type 0
HaveFourLinks part = All (λ n. length n.links ≡ 4) part.nodes

-- in the part of an accepted domain, whose nodes have four links each, a device is joined to a port exactly if the part
-- names the port for it
abbrev pub DevicesAreWhereNamed : Type 0
DevicesAreWhereNamed =
    (part : PartData) (port : ℕ) (device : Device) → IsPart part → HaveFourLinks part
    → (device_at part port ≡ Some device) ↔ Names part device port
