-- Which words of memory are channels of links. T414 data sheet, memory map.
use Rattle.std.specs.Prelude.{ℕ, ◌==◌, List, [], ◌∷◌, if◌then◌else◌}
use Rattle.node_memory.specs.Words.{aligned}
use Rattle.link_channels.specs.declared.channel.Channel.{Channel}
use Rattle.link_channels.specs.declared.channel.Channel.TheVariants.{Soft, LinkOutput, LinkInput, Event}
use Rattle.link_channels.specs.declared.number.LinkNumber.TheVariants.{Zero, One, Two, Three}

-- the addresses of the nine channels
abbrev pub channels : List (ℕ × Channel)
channels =
    (0x80000000, LinkOutput Zero) ∷
    (0x80000004, LinkOutput One) ∷
    (0x80000008, LinkOutput Two) ∷
    (0x8000000C, LinkOutput Three) ∷
    (0x80000010, LinkInput Zero) ∷
    (0x80000014, LinkInput One) ∷
    (0x80000018, LinkInput Two) ∷
    (0x8000001C, LinkInput Three) ∷
    (0x80000020, Event) ∷
    []

-- what a list has at a word address, a soft channel if it has nothing there
abbrev pub kind_among : List (ℕ × Channel) → ℕ → Channel
kind_among [] word = Soft
kind_among (entry ∷ entries) word = if word == entry.0 then entry.1 else kind_among entries word

-- what an address stands for, whose low two bits are ignored
unfoldable pub kind_of : ℕ → Channel
kind_of address = kind_among channels (aligned address)
