-- A host: two queues of bytes, and one end of a link. Transputer Reference Manual, links; the queues are our choice.
use Rattle.std.specs.Prelude.{ℕ, List, [], ◌∷◌, ◌++◌, Bool, false, not, nat_lt, length, Option, Some, None, if◌then◌else◌}
use Rattle.os_link.specs.declared.end.LinkEnd.{LinkEnd}
use Rattle.os_link.specs.declared.latch.Packet.{Packet}
use Rattle.os_link.specs.declared.latch.Packet.TheVariants.{Byte, Ack}
use Rattle.os_link.specs.End.{fresh_end, arrived, posted, emptied, without_next}

-- what is to be sent, front first, with the byte whose acknowledge hasn't come; what was received; and the link end
pub record HostState : Type 0 where
  pub sending : List ℕ
  pub received : List ℕ
  pub end : LinkEnd

-- a host as it is opened: both queues are empty, and nothing has happened at the link end
abbrev pub opened_host : HostState
opened_host = record { sending = []; received = []; end = fresh_end }

-- 4,096 bytes are there
abbrev pub is_full : List ℕ → Bool
is_full queue = not (nat_lt (length queue) 4096)

-- the front byte of a queue
abbrev pub front : List ℕ → Option ℕ
front [] = None
front (byte ∷ queue) = Some byte

-- a queue without its front byte
abbrev pub behind : List ℕ → List ℕ
behind [] = []
behind (byte ∷ queue) = queue

-- the front byte is posted as soon as none awaits its acknowledge
abbrev pub front_posted : Option ℕ → LinkEnd → LinkEnd
front_posted None e = e
front_posted (Some byte) e = if e.output.awaits then e else posted byte e

-- the front byte of the sending queue is posted, if none awaits its acknowledge
abbrev pub sending_on : HostState → HostState
sending_on h = record h { end = front_posted (front h.sending) h.end }

-- a byte is put in the sending queue, if there is room
abbrev pub host_written : ℕ → HostState → HostState
host_written byte h = if is_full h.sending then h else sending_on (record h { sending = h.sending ++ byte ∷ [] })

-- the byte in the buffer goes into the receiving queue and is acknowledged, if there is room
abbrev pub held_received : Option ℕ → HostState → HostState
held_received None h = h
held_received (Some byte) h =
    if is_full h.received then h else record h { received = h.received ++ byte ∷ []; end = emptied h.end }

-- the byte in the buffer is received, if there is one and room for it
abbrev pub receiving : HostState → HostState
receiving h = held_received h.end.input.buffer h

-- the front byte of the receiving queue is taken, and a held byte moves in
abbrev pub host_read : HostState → HostState
host_read h = receiving (record h { received = behind h.received })

-- the flag that an acknowledge has come is cleared: its byte leaves the queue
abbrev pub host_heard : LinkEnd → LinkEnd
host_heard e = record e { output = record e.output { acknowledged = false } }

-- a packet arrives: a byte is received, or held if there is no room; an awaited acknowledge removes the front byte
-- and the next is posted
abbrev pub delivered : Packet → HostState → HostState
delivered (Byte byte) h = receiving (record h { end = arrived (Byte byte) h.end })
delivered Ack h =
    if h.end.output.awaits
    then sending_on (record { sending = behind h.sending; received = h.received; end = host_heard (arrived Ack h.end) })
    else record h { end = arrived Ack h.end }

-- the packet that leaves next is taken
abbrev pub packet_left : HostState → HostState
packet_left h = record h { end = record h.end { latch = without_next h.end.latch } }
