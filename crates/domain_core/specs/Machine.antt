-- The machine that a domain is: its switch, and its nodes and hosts. What an event does to it, and its reply.
use Rattle.std.specs.Prelude.{ℕ, Bool, true, false, List, [], if◌then◌else◌}
use Rattle.crossbar.specs.Switch.{Switch, cleared}
use Rattle.virtual_switch.specs.PrivateSwitch.{configured}
use Rattle.bootstrap.specs.Opening.{restarted}
use Rattle.bootstrap.specs.Seen.{seen}
use Rattle.bootstrap.specs.Step.{is_step_recorded, node_step}
use Rattle.plan_rules.specs.Part.{PartData}
use Rattle.domain_core.specs.declared.event.Event.{Event}
use Rattle.domain_core.specs.declared.event.Event.TheVariants.{Config, Write, Read, Reset, Look, Step, Move}
use Rattle.domain_core.specs.declared.event.Reply.{Reply}
use Rattle.domain_core.specs.declared.event.Reply.TheVariants as reply
use Rattle.domain_core.specs.declared.event.Moved.{Moved}
use Rattle.domain_core.specs.declared.event.Moved.TheVariants.{Nothing, Lost, Stayed, Passed}
use Rattle.domain_core.specs.Hosts.{is_full, host_written, front, host_read}
use Rattle.domain_core.specs.Devices.{DeviceStates, opened_devices, node_at, host_at, with_node, with_host}
use Rattle.domain_core.specs.Moves.{moved}

-- the switch, what has come of the next configuration message, and the devices
pub record Machine : Type 0 where
  pub switch : Switch
  -- the bytes of the next configuration message that have come
  pub rest : List ℕ
  pub devices : DeviceStates

-- only nodes and hosts are changed
abbrev pub with_devices : DeviceStates → Machine → Machine
with_devices d m = record m { devices = d }

-- the machine after an event, and the reply
abbrev pub acted : PartData → Machine → Event → Machine × Reply
acted part m (Config byte) =
    let c = configured part.count m.switch m.rest byte in
    (record { switch = c.switch; rest = c.rest; devices = m.devices }, reply.Config c.reply)
acted part m (Write host byte) = (
  with_devices (with_host host (host_written byte (host_at m.devices host)) m.devices) m,
  (if is_full (host_at m.devices host).sending then reply.Full else reply.Written),
)
acted part m (Read host) = (
  with_devices (with_host host (host_read (host_at m.devices host)) m.devices) m,
  reply.Read
      (front (host_at m.devices host).received),
)
acted part m (Reset node) =
    (with_devices (with_node node (restarted (node_at m.devices node)) m.devices) m, reply.Reset)
acted part m (Look node) = (m, reply.Look (seen (node_at m.devices node)))
acted part m (Step node) =
    let s = node_step (node_at m.devices node) in (with_devices (with_node node s.0 m.devices) m, reply.Stepped s.1)
acted part m (Move port) = let d = moved part m.switch m.devices port in (with_devices d.0 m, reply.Moved d.1)

-- a Move that has changed something
abbrev pub has_moved : Moved → Bool
has_moved Nothing = false
has_moved Lost = true
has_moved Stayed = false
has_moved Passed = true

-- whether an event is recorded: not a Step that answers Idle, nor one of a node that had halted before, nor a Move that
-- answers Nothing or Stayed; these change nothing
abbrev pub is_recorded : PartData → Machine → Event → Bool
is_recorded part m (Config byte) = true
is_recorded part m (Write host byte) = true
is_recorded part m (Read host) = true
is_recorded part m (Reset node) = true
is_recorded part m (Look node) = true
is_recorded part m (Step node) = is_step_recorded (node_at m.devices node)
is_recorded part m (Move port) = has_moved (moved part m.switch m.devices port).1

-- as it is opened: all outputs disconnected, no message begun, nodes and hosts fresh
abbrev pub fresh_machine : PartData → Machine
fresh_machine part = record { switch = cleared; rest = []; devices = opened_devices part }
