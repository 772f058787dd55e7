-- The four links of a node, by their numbers.
use Rattle.std.specs.Prelude.{ℕ, ◌==◌, not, Bool, ◌&&◌, ◌||◌, is_some, false, List, [], ◌∷◌}
use Rattle.link_channels.specs.declared.link.Link.{Link}
use Rattle.link_channels.specs.declared.number.LinkNumber.{LinkNumber}
use Rattle.link_channels.specs.declared.number.LinkNumber.TheVariants.{Zero, One, Two, Three}
use Rattle.link_channels.specs.declared.link.FourLinks.{FourLinks}
use Rattle.node_memory.specs.Effect.{Effect, Gave, Halted}
use Rattle.os_link.specs.End.{fresh_end, arrived, without_next, posted, emptied}
use Rattle.os_link.specs.declared.latch.Packet.{Packet}

-- each of them, in the order of the numbers
abbrev pub every_link : List LinkNumber
every_link = Zero ∷ One ∷ Two ∷ Three ∷ []

-- the link of a number
abbrev pub at : LinkNumber → FourLinks → Link
at Zero ls = ls.zero
at One ls = ls.one
at Two ls = ls.two
at Three ls = ls.three

-- one link is changed to this
abbrev pub with_link : LinkNumber → Link → FourLinks → FourLinks
with_link Zero l ls = record ls { zero = l }
with_link One l ls = record ls { one = l }
with_link Two l ls = record ls { two = l }
with_link Three l ls = record ls { three = l }

-- what was done to one link, as done to the four
abbrev pub within : {A : Type 0} → LinkNumber → FourLinks → Effect A Link → Effect A FourLinks
within n ls (Gave x l m) = Gave x (with_link n l ls) m
within n ls (Halted fault l m) = Halted fault (with_link n l ls) m

-- the word of a link's output channel. T414 data sheet, memory map
abbrev pub output_channel : LinkNumber → ℕ
output_channel Zero = 0x80000000
output_channel One = 0x80000004
output_channel Two = 0x80000008
output_channel Three = 0x8000000C

-- the word of a link's input channel
abbrev pub input_channel : LinkNumber → ℕ
input_channel Zero = 0x80000010
input_channel One = 0x80000014
input_channel Two = 0x80000018
input_channel Three = 0x8000001C

-- a link at which nothing has happened, and from which nobody has asked anything
abbrev pub fresh_link : Link
fresh_link = record {
  end = fresh_end;
  input_pointer = 0;
  input_count = 0;
  output_pointer = 0;
  output_count = 0;
  watched = false;
}

-- four fresh links
abbrev pub fresh_links : FourLinks
fresh_links = record { zero = fresh_link; one = fresh_link; two = fresh_link; three = fresh_link }

-- an acknowledge that no process has been informed of, or a byte that a process waits for or watches for
abbrev pub has_work : Link → Bool
has_work l =
    l.end.output.acknowledged || (is_some l.end.input.buffer && (l.watched || not (l.input_count == 0)))

-- one of the four has work
abbrev pub any_has_work : FourLinks → Bool
any_has_work ls = has_work ls.zero || has_work ls.one || has_work ls.two || has_work ls.three

-- a packet arrives at a link
abbrev pub packet_arrived : LinkNumber → Packet → FourLinks → FourLinks
packet_arrived n packet ls = let l = at n ls in with_link n (record l { end = arrived packet l.end }) ls

-- the packet that leaves a link next is taken
abbrev pub packet_taken : LinkNumber → FourLinks → FourLinks
packet_taken n ls =
    let l = at n ls in with_link n (record l { end = record l.end { latch = without_next l.end.latch } }) ls

-- a byte is posted at a link
abbrev pub byte_posted : LinkNumber → ℕ → FourLinks → FourLinks
byte_posted n byte ls = let l = at n ls in with_link n (record l { end = posted byte l.end }) ls

-- the byte in a link's buffer is taken, which posts an acknowledge
abbrev pub byte_taken : LinkNumber → FourLinks → FourLinks
byte_taken n ls = let l = at n ls in with_link n (record l { end = emptied l.end }) ls

-- the flag that an acknowledge has come is cleared
abbrev pub acknowledge_cleared : Link → Link
acknowledge_cleared l = record l { end = record l.end { output = record l.end.output { acknowledged = false } } }

-- the same of one of the four
abbrev pub acknowledge_cleared_at : LinkNumber → FourLinks → FourLinks
acknowledge_cleared_at n ls = with_link n (acknowledge_cleared (at n ls)) ls
