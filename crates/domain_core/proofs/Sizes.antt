-- What is done to nodes leaves their memories as large as they were, and hosts as many: a machine stays one of its
-- part, for the clauses of `RunningMachine` and `Devices::clear`.
use Rattle.std.proofs.Common.{◌≡◌, ℕ, zero, suc, ◌≤◌, List, [], ◌∷◌, length, map, set, get_or, replicate, Option, Some}
use Rattle.std.proofs.Common.{None, refl, ap, sym, ◌∙◌, subst}
use Rattle.std.proofs.lemmas.List.{length-set, length-map, length-replicate}
use Rattle.os_link.specs.declared.latch.Packet.{Packet}
use Rattle.crossbar.specs.Switch.{Switch}
use Rattle.plan_rules.specs.declared.part.NodePart.{NodePart}
use Rattle.plan_rules.specs.Part.{PartData}
use Rattle.virtual_switch.specs.SwitchValue.{SwitchValue}
use Rattle.domain_core.specs.Hosts.{opened_host}
use Rattle.domain_core.specs.Hosts.{HostState}
use Rattle.domain_core.specs.MachineValue.{MachineValue, IsOfPart}
use Rattle.domain_core.proofs.Lists.{map_const}
use Rattle.bootstrap.specs.declared.node.Node.{Node}
use Rattle.bootstrap.specs.Opening.{opened_node}
use Rattle.domain_core.specs.declared.device.Device.{Device}
use Rattle.domain_core.specs.declared.device.Device.TheVariants.{Host, Link}
use Rattle.domain_core.specs.Devices.{DeviceStates, memories, opened_devices, reopened, node_at, with_node}
use Rattle.domain_core.specs.Devices.{taken_from_device, device_at}
use Rattle.domain_core.specs.Moves.{delivered_at, copies_arrived, joining_of}
use Rattle.domain_core.specs.Machine.{Machine}

same_sizes : (nodes : List Node) (i : ℕ) (n node : Node) → length n.memory ≡ length (get_or nodes i node).memory
    → map (λ k. length k.memory) (set nodes i n) ≡ map (λ k. length k.memory) nodes
same_sizes [] i n node same = refl
same_sizes (k ∷ nodes) zero n node same = ap (λ (size : ℕ). size ∷ map (λ k. length k.memory) nodes) same
same_sizes (k ∷ nodes) (suc i) n node same = ap (λ (rest : List ℕ). length k.memory ∷ rest)
    (same_sizes nodes i n node same)

-- the memories and the number of hosts are those of before
pub record AreAsLarge (d e : DeviceStates) : Type 0 where
  pub memories : memories e ≡ memories d
  pub hosts : length e.hosts ≡ length d.hosts

-- nodes and hosts are as large as they are
pub as_large : (d : DeviceStates) → AreAsLarge d d
as_large d = record { memories = refl; hosts = refl }

then_large : (d devices other_devices : DeviceStates) → AreAsLarge d devices → AreAsLarge devices other_devices
    → AreAsLarge d other_devices
then_large d devices other_devices one two = record {
  memories = two.memories ∙ one.memories;
  hosts =
      two.hosts ∙ one.hosts;
}

-- a node instead of one with as much memory leaves all as large
pub large_with_node : (d : DeviceStates) (number : ℕ) (n : Node) → length n.memory ≡ length (node_at d number).memory
    → AreAsLarge d (with_node number n d)
large_with_node d number n same = record { memories = same_sizes d.nodes number n (opened_node 0) same; hosts = refl }

-- taking a packet from a device leaves all as large
pub large_taken : (d : DeviceStates) (device : Device) → AreAsLarge d (taken_from_device device d)
large_taken d (Host number) = record { memories = refl; hosts = length-set d.hosts number _ }
large_taken d (Link number link) = large_with_node d number _ refl

large_arrived : (part : PartData) (d : DeviceStates) (packet : Packet) (device : Option Device)
    → AreAsLarge d (delivered_at (joining_of part) packet device d)
large_arrived part d packet None = as_large d
large_arrived part d packet (Some (Host number)) = record { memories = refl; hosts = length-set d.hosts number _ }
large_arrived part d packet (Some (Link number link)) = large_with_node d number _ refl

large_copied : (part : PartData) (packet : Packet) (outputs : List ℕ) (d : DeviceStates)
    → AreAsLarge d (copies_arrived (joining_of part) packet outputs d)
large_copied part packet [] d = as_large d
large_copied part packet (output ∷ outputs) d =
    let next = delivered_at (joining_of part) packet (device_at part output) d in
    then_large d next (copies_arrived (joining_of part) packet outputs next)
    (large_arrived part d packet (device_at part output))
    (large_copied part packet outputs next)

-- taking a packet from a device and copying it to outputs leaves all as large
pub large_gone : (part : PartData) (device : Device) (packet : Packet) (outputs : List ℕ)
    (d devices other_devices : DeviceStates)
    → devices ≡ taken_from_device device d → other_devices ≡ copies_arrived (joining_of part) packet outputs devices
    → AreAsLarge d other_devices
large_gone part device packet outputs d devices other_devices one two =
    then_large d devices other_devices (subst (AreAsLarge d) (sym one) (large_taken d device))
    (subst (AreAsLarge devices) (sym two) (large_copied part packet outputs devices))

-- ---- what a machine is stays so

-- a machine is still of its part, with as many ports and devices as large
pub still_of_part : (v : MachineValue) (switch : SwitchValue) (d : DeviceStates)
    → IsOfPart v → length switch.ports ≡ length v.switch.ports → AreAsLarge v.devices d
    → IsOfPart (record { part = v.part; switch = switch; devices = d })
still_of_part v switch d of ports large =
    record {
      few = of.few;
      count = ports ∙ of.count;
      memories = large.memories ∙ of.memories;
      hosts = large.hosts ∙ of.hosts;
    }

-- devices that are equal to some that are as large are as large
pub large_by : (d devices other_devices : DeviceStates) → other_devices ≡ devices → AreAsLarge d devices
    → AreAsLarge d other_devices
large_by d devices other_devices is large = subst (AreAsLarge d) (sym is) large

sizes_opened : (nodes : List NodePart)
    → map (λ n. length n.memory) (map (λ n. opened_node n.memory) nodes) ≡ map (λ n. n.memory) nodes
sizes_opened [] = refl
sizes_opened (n ∷ nodes) = rw (length-replicate {A = ℕ} n.memory 0, sizes_opened nodes) refl

-- a machine with the devices of a part as they are opened is of that part
pub opened_of_part : (part : PartData) (switch : SwitchValue) (d : DeviceStates)
    → part.count ≤ 32 → length switch.ports ≡ part.count → d ≡ opened_devices part
    → IsOfPart (record { part = part; switch = switch; devices = d })
opened_of_part part switch d few count is = record {
  few = few;
  count = count;
  memories = ap memories is ∙ sizes_opened part.nodes;
  hosts = ap (λ (e : DeviceStates). length e.hosts) is ∙ length-map part.hosts (λ h. opened_host);
}

sizes_reopened : (nodes : List Node)
    → map (λ n. length n.memory) (map (λ n. opened_node (length n.memory)) nodes) ≡ map (λ n. length n.memory) nodes
sizes_reopened [] = refl
sizes_reopened (n ∷ nodes) = rw (length-replicate {A = ℕ} (length n.memory) 0, sizes_reopened nodes) refl

-- nodes and hosts that are opened again are as large as they were
pub large_reopened : (d : DeviceStates) → AreAsLarge d (reopened d)
large_reopened d = record { memories = sizes_reopened d.nodes; hosts = length-map d.hosts (λ h. opened_host) }

-- nodes and hosts that are each opened again are the devices opened again
pub reopened_by : (d : DeviceStates) (ns : List Node) (hs : List HostState)
    → ns ≡ map (λ n. opened_node (length n.memory)) d.nodes → hs ≡ map (λ h. opened_host) d.hosts
    → (let devices : DeviceStates = record { nodes = ns; hosts = hs } in devices) ≡ reopened d
reopened_by d ns hs nodes hosts =
    ap (λ (xs : List Node). let e : DeviceStates = record { nodes = xs; hosts = hs } in e) nodes
    ∙ ap (λ (xs : List HostState).
    let e : DeviceStates = record { nodes = map (λ n. opened_node (length n.memory)) d.nodes; hosts = xs } in
    e)
    hosts

nodes_reopened : (nodes : List Node)
    → map (λ n. opened_node (length n.memory)) nodes ≡ map opened_node (map (λ n. length n.memory) nodes)
nodes_reopened [] = refl
nodes_reopened (n ∷ nodes) = ap (λ (rest : List Node). opened_node (length n.memory) ∷ rest) (nodes_reopened nodes)

nodes_opened : (nodes : List NodePart)
    → map opened_node (map (λ n. n.memory) nodes) ≡ map (λ n. opened_node n.memory) nodes
nodes_opened [] = refl
nodes_opened (n ∷ nodes) = ap (λ (rest : List Node). opened_node n.memory ∷ rest) (nodes_opened nodes)

-- a machine that is opened again is as it was opened at first
pub reopened_opened : (v : MachineValue) → IsOfPart v → reopened v.devices ≡ opened_devices v.part
reopened_opened v of =
    let nodes : map (λ n. opened_node (length n.memory)) v.devices.nodes
    ≡ map (λ n. opened_node n.memory) v.part.nodes =
    nodes_reopened v.devices.nodes ∙ ap (map opened_node) of.memories ∙ nodes_opened v.part.nodes in
    let hosts : map (λ h. opened_host) v.devices.hosts ≡ map (λ h. opened_host) v.part.hosts =
    map_const opened_host v.devices.hosts ∙ ap (λ (n : ℕ). replicate n opened_host) of.hosts
    ∙ sym (map_const opened_host v.part.hosts) in
    ap (λ (ns : List Node).
    let d : DeviceStates = record { nodes = ns; hosts = map (λ h. opened_host) v.devices.hosts } in
    d)
    nodes
    ∙ ap (λ (hs : List HostState).
    let d : DeviceStates = record { nodes = map (λ n. opened_node n.memory) v.part.nodes; hosts = hs } in
    d)
    hosts

-- machines with equal switches, rests and devices are equal
pub machine_by : (s t : Switch) (r numbers : List ℕ) (d other_devices : DeviceStates) → s ≡ t → r ≡ numbers
    → d ≡ other_devices
    → (let machine : Machine = record { switch = s; rest = r; devices = d } in machine)
    ≡ (let machine : Machine = record { switch = t; rest = numbers; devices = other_devices } in machine)
machine_by s t r numbers d other_devices switches rests devices =
    ap (λ (x : Switch). let m : Machine = record { switch = x; rest = r; devices = d } in m) switches
    ∙ ap (λ (x : List ℕ). let m : Machine = record { switch = t; rest = x; devices = d } in m) rests
    ∙ ap (λ (x : DeviceStates). let m : Machine = record { switch = t; rest = numbers; devices = x } in m) devices
