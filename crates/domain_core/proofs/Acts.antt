-- What an event makes of a machine is what it makes of an equal one, and when a machine is quiet: the clauses of
-- `RunningMachine::act` and `quiet`.
use Rattle.std.proofs.Common.{◌≡◌, ℕ, ◌<◌, Bool, true, false, not, length, refl, sym, ap, ◌∙◌, subst}
use Rattle.std.proofs.Common.{if◌then◌else◌}
use Rattle.virtual_switch.specs.Each.{KeepsPorts, ConfiguresTo}
use Rattle.virtual_switch.specs.PrivateSwitch.{Configured, configured}
use Rattle.virtual_switch.specs.declared.reply.ConfigReply.{ConfigReply}
use Rattle.virtual_switch.specs.SwitchValue.{SwitchValue, private_of}
use Rattle.bootstrap.specs.Step.{is_step_recorded}
use Rattle.domain_core.specs.declared.event.Event.{Event}
use Rattle.domain_core.specs.declared.event.Event.TheVariants.{Config}
use Rattle.domain_core.specs.declared.event.Reply.{Reply}
use Rattle.domain_core.specs.declared.event.Reply.TheVariants as reply_of
use Rattle.domain_core.specs.Devices.{DeviceStates, AreQuiet, node_at}
use Rattle.domain_core.specs.Domain.{IsQuiet, PortsAreQuiet}
use Rattle.domain_core.specs.Machine.{Machine, with_devices, acted, is_recorded}
use Rattle.domain_core.specs.MachineValue.{MachineValue, machine_of, IsOfPart}
use Rattle.domain_core.proofs.Outcomes.{of_part_nodes}

-- ---- an event of an equal machine

-- a reply to an event of a machine is one to it of an equal machine
pub told_alike : (v now : MachineValue) (event asked : Event) (told : Reply) → v ≡ now → asked ≡ event
    → told ≡ (acted v.part (machine_of v) event).1
    → told ≡ (acted now.part (machine_of now) asked).1
told_alike v now event asked told same is tells =
    let back = sym is in
    tells ∙ (λ i. (acted (same i).part (machine_of (same i)) (back i)).1)

-- a machine after an event is an equal machine after it
pub acts_alike : (v now : MachineValue) (event asked : Event) (m : Machine) → v ≡ now → asked ≡ event
    → m ≡ (acted v.part (machine_of v) event).0
    → m ≡ (acted now.part (machine_of now) asked).0
acts_alike v now event asked m same is leaves =
    let back = sym is in
    leaves ∙ (λ i. (acted (same i).part (machine_of (same i)) (back i)).0)

-- the same, if the event changes nothing but devices
pub devices_alike : (v now : MachineValue) (event asked : Event) (devices other_devices : DeviceStates) → v ≡ now
    → asked ≡ event
    → devices ≡ other_devices → with_devices other_devices (machine_of v) ≡ (acted v.part (machine_of v) event).0
    → with_devices devices (machine_of v) ≡ (acted now.part (machine_of now) asked).0
devices_alike v now event asked devices other_devices same is are leaves =
    acts_alike v now event asked (with_devices devices (machine_of v)) same is
    (ap (λ (x : DeviceStates). with_devices x (machine_of v)) are ∙ leaves)

-- what is recorded of a machine is recorded of an equal one
pub recorded_alike : (v now : MachineValue) (event asked : Event) (recorded : Bool) → v ≡ now → asked ≡ event
    → recorded ≡ is_recorded v.part (machine_of v) event
    → recorded ≡ is_recorded now.part (machine_of now) asked
recorded_alike v now event asked recorded same is told =
    let back = sym is in
    told ∙ (λ i. is_recorded (same i).part (machine_of (same i)) (back i))

-- a switch that keeps the ports of a machine's keeps those of an equal one
pub kept_alike : (v now : MachineValue) (later : SwitchValue) → v ≡ now → KeepsPorts v.switch later
    → KeepsPorts now.switch later
kept_alike v now later same kept = subst (λ (x : MachineValue). KeepsPorts x.switch later) same kept

-- no twice over is yes
pub not_not : (b : Bool) → not (not b) ≡ b
not_not true = refl
not_not false = refl

-- ---- a byte for a host

-- a byte for which there is room is written
pub was_written : (full : Bool) → not full ≡ true
    → reply_of.Written ≡ (if full then reply_of.Full else reply_of.Written)
was_written true room = absurd cc
was_written false room = refl

-- and one for which there is none isn't
pub was_full : (full : Bool) → not full ≡ false → reply_of.Full ≡ (if full then reply_of.Full else reply_of.Written)
was_full true room = refl
was_full false room = absurd cc

-- ---- a configuration byte

-- a configuration byte does to a machine what it does to its switch
pub configured_alike : (v : MachineValue) (byte : ℕ) (reply : ConfigReply) (later : SwitchValue) → IsOfPart v
    → ConfiguresTo v.switch byte reply later
    → (machine_of (record { part = v.part; switch = later; devices = v.devices }), reply_of.Config reply)
    ≡ acted v.part (machine_of v) (Config byte)
configured_alike v byte reply later of is =
    let told = is ∙ ap (λ (n : ℕ). configured n (private_of v.switch) v.switch.rest byte) of.count in
    ap (λ (c : Configured). let m : Machine = record { switch = c.switch; rest = c.rest; devices = v.devices } in
    let both : Machine × Reply = (m, reply_of.Config c.reply) in both) told

-- ---- a quiet machine

-- a machine whose nodes and ports are quiet is quiet
pub all_quiet : (v now : MachineValue) → v ≡ now → IsOfPart v → AreQuiet v.devices
    → PortsAreQuiet now.part (machine_of now)
    → IsQuiet now.part (machine_of now)
all_quiet v now same of nodes ports =
    let count = of_part_nodes v of in
    let quiet : (node : ℕ) → node < length v.part.nodes → is_step_recorded (node_at v.devices node) ≡ false =
    λ node here. nodes node (subst (λ (n : ℕ). node < n) (sym count) here) in
    record {
      nodes =
          λ node. subst (λ (x : MachineValue).
          node < length x.part.nodes → is_step_recorded (node_at x.devices node) ≡ false) same (quiet node);
      ports = ports;
    }

-- the nodes of a quiet machine are quiet
pub nodes_quiet : (v now : MachineValue) → v ≡ now → IsOfPart v → IsQuiet now.part (machine_of now)
    → AreQuiet v.devices
nodes_quiet v now same of quiet =
    let count = of_part_nodes v of in
    let there : IsQuiet v.part (machine_of v) =
    subst (λ (x : MachineValue). IsQuiet x.part (machine_of x)) (sym same) quiet in
    λ node here. there.nodes node (subst (λ (n : ℕ). node < n) count here)
