-- What a domain needs of its plan: its part, and its ranges of physical ports.
use Rattle.std.specs.Prelude.{◌≡◌, ◌<◌, ◌≤◌, ◌+◌, ◌-◌, ◌%◌, ◌++◌, ◌^◌, ℕ, ℤ, unsigned_abs, List, [], ◌∷◌, Option, Some, None, cond, map, flat_map, filter_map, length, replicate, slice_get, All}
use Rattle.std.specs.List.{Contains}
use Rattle.std.specs.Option.{option_map}
use Rattle.crossbar.specs.declared.range.PortRange.{PortRange}
use Rattle.crossbar.specs.Ranges.{ranged_ports, AreRanges, IsNumbering}
use Rattle.plan_rules.specs.declared.plan.NodePlan.{NodePlan}
use Rattle.plan_rules.specs.declared.plan.RangePlan.{RangePlan}
use Rattle.plan_rules.specs.declared.part.NodePart.{NodePart}
use Rattle.plan_rules.specs.declared.part.HostPart.{HostPart}
use Rattle.plan_rules.specs.Data.{UserData, DomainData}
use Rattle.plan_rules.specs.Separate.{IsSeparate, IsFrom, IsDistinct, port_count, is_wired}

-- a domain without names and physical ports: its number of virtual ports, the limit of its recorded events,
-- the number of its users, its nodes, and its hosts in the order of their numbers
pub record PartData : Type 0 where
  pub count : ℕ
  pub limit : ℕ
  pub users : ℕ
  pub nodes : List NodePart
  pub hosts : List HostPart

-- a part with these fields
abbrev pub part_with : ℕ → ℕ → ℕ → List NodePart → List HostPart → PartData
part_with count limit users nodes hosts =
    record { count = count; limit = limit; users = users; nodes = nodes; hosts = hosts }

-- the virtual ports of a node's wired links
abbrev pub wired_ports : NodePart → List ℕ
wired_ports n = filter_map (λ link. link) n.links

-- the virtual ports that a part uses
abbrev pub ports_used : PartData → List ℕ
ports_used p = map (λ h. h.port) p.hosts ++ flat_map wired_ports p.nodes

-- a node with a permitted memory and a wired link
abbrev pub IsNodePart : NodePart → Type 0
IsNodePart n = IsFrom 2048 65536 n.memory × (n.memory % 4 ≡ 0) × (1 ≤ length (wired_ports n))

-- what holds of the part of every accepted domain
pub record IsPart (p : PartData) : Type 0 where
  pub count : IsFrom 1 32 p.count
  pub limit : IsFrom 1 (2 ^ 40) p.limit
  pub users : IsFrom 1 4 p.users
  pub nodes : IsFrom 1 8 (length p.nodes)
  pub hosts : IsFrom 1 4 (length p.hosts)
  pub each_node : All IsNodePart p.nodes
  pub below : All (λ port. port < p.count) (ports_used p)
  pub distinct : IsDistinct (ports_used p)
  pub owners : All (λ h. h.user < p.users) p.hosts

-- the virtual port of a link, if it is wired
abbrev pub port_at : ℤ → Option ℕ
port_at link = cond (is_wired link) (Some (unsigned_abs link)) None

-- a node of a plan, as a part has it
abbrev pub node_part : NodePlan → NodePart
node_part n = record { memory = unsigned_abs n.memory; links = map port_at n.links }

-- a host of the user of this number
abbrev pub host_part : ℕ → ℤ → HostPart
host_part number port = record { port = unsigned_abs port; user = number }

-- the hosts of users, of whom the first has this number
abbrev pub host_parts : ℕ → List UserData → List HostPart
host_parts number [] = []
host_parts number (u ∷ us) = map (host_part number) u.hosts ++ host_parts (number + 1) us

-- the part of a domain
abbrev pub part_of : DomainData → PartData
part_of d = record {
  count = unsigned_abs (port_count d.ranges);
  limit = unsigned_abs d.limit;
  users = length d.users;
  nodes = map node_part d.nodes;
  hosts = host_parts 0 d.users;
}

-- a range of a plan, as physical ports
abbrev pub port_range : RangePlan → PortRange
port_range r = record { first = unsigned_abs r.first; last = unsigned_abs r.last }

-- the range at a place of a list, if there is one
abbrev pub range_at : List RangePlan → ℕ → Option PortRange
range_at ranges place = option_map port_range (slice_get ranges place)

-- the ranges of a domain in a row of four places; the places after the last range are unused
abbrev pub four_ranges : DomainData → List (Option PortRange)
four_ranges d = map (λ r. Some (port_range r)) d.ranges ++ replicate (4 - length d.ranges) None

-- the physical ports of a domain: virtual port v is the v-th of them
abbrev pub physical_ports : DomainData → List ℕ
physical_ports d = ranged_ports (four_ranges d)

-- a separate plan, and the parts and the ports of its domains
pub record IsAccepted (plan : List DomainData) (parts : List PartData) (ports : List (List ℕ)) : Type 0 where
  pub separate : IsSeparate plan
  pub parts_are : parts ≡ map part_of plan
  pub ports_are : ports ≡ map physical_ports plan

-- the ports of a domain are ports of the crossbar, each with one number
pub record IsNumbered (d : DomainData) : Type 0 where
  pub ranges : AreRanges (four_ranges d)
  pub ports : IsNumbering (physical_ports d)
  pub count : length (physical_ports d) ≡ (part_of d).count

-- two domains have no port in common
abbrev pub AreSeparate : DomainData → DomainData → Type 0
AreSeparate d e = (port : ℕ) → Contains (physical_ports d) port → Contains (physical_ports e) port → ⊥
