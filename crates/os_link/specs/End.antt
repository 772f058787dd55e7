-- A link end: what waits to leave, what has arrived, and what is known of acknowledges.
-- Transputer Reference Manual, links: a byte is acknowledged before the next one is sent. That packets wait
-- in a latch, the acknowledge first, and that a byte too many is dropped and counted, are our choices.
use Rattle.std.specs.Prelude.{ℕ, ◌+◌, ◌-◌, ◌^◌, true, false, Option, Some, None, if◌then◌else◌, min}
use Rattle.os_link.specs.declared.latch.Packet.{Packet}
use Rattle.os_link.specs.declared.latch.Packet.TheVariants.{Byte, Ack}
use Rattle.os_link.specs.declared.latch.Latch.{Latch}
use Rattle.os_link.specs.declared.incoming.LinkIn.{LinkIn}
use Rattle.os_link.specs.declared.outgoing.LinkOut.{LinkOut}
use Rattle.os_link.specs.declared.end.LinkEnd.{LinkEnd}

-- a link end at which nothing has happened
abbrev pub fresh_end : LinkEnd
fresh_end = record {
  latch = record { byte = None; acknowledge = false };
  input = record { buffer = None; overruns = 0 };
  output = record { awaits = false; acknowledged = false };
}

-- the packet of a byte that waits
abbrev pub byte_of : Option ℕ → Option Packet
byte_of None = None
byte_of (Some byte) = Some (Byte byte)

-- the packet that leaves next: an acknowledge before a byte
abbrev pub next_of : Latch → Option Packet
next_of l = if l.acknowledge then Some Ack else byte_of l.byte

-- what waits once it has left
abbrev pub without_next : Latch → Latch
without_next l = if l.acknowledge then record l { acknowledge = false } else record l { byte = None }

-- by what the buffer holds; the number of overruns stays at its greatest
abbrev pub arrived_at : Option ℕ → ℕ → LinkIn → LinkIn
arrived_at None byte i = record i { buffer = Some byte }
arrived_at (Some _) byte i = record i { overruns = min (i.overruns + 1) (2 ^ 32 - 1) }

-- a byte arrives: it fills an empty buffer, and is dropped and counted if the buffer is full
abbrev pub with_arrived : ℕ → LinkIn → LinkIn
with_arrived byte i = arrived_at i.buffer byte i

-- an acknowledge arrives: it counts if one is awaited
abbrev pub with_acknowledge : LinkOut → LinkOut
with_acknowledge o = if o.awaits then record { awaits = false; acknowledged = true } else o

-- a packet arrives
abbrev pub arrived : Packet → LinkEnd → LinkEnd
arrived (Byte byte) e = record e { input = with_arrived byte e.input }
arrived Ack e = record e { output = with_acknowledge e.output }

-- a byte is posted; it replaces one that still waits
abbrev pub posted : ℕ → LinkEnd → LinkEnd
posted byte e =
    record e { latch = record e.latch { byte = Some byte }; output = record { awaits = true; acknowledged = false } }

-- by what the buffer holds: nothing is acknowledged if it is empty
abbrev pub without_buffered : Option ℕ → LinkEnd → LinkEnd
without_buffered None e = e
without_buffered (Some _) e =
    record e { latch = record e.latch { acknowledge = true }; input = record e.input { buffer = None } }

-- the byte is taken from the buffer, which posts an acknowledge
abbrev pub emptied : LinkEnd → LinkEnd
emptied e = without_buffered e.input.buffer e
