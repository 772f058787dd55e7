-- Links by their numbers. T414 data sheet, links.
use Rattle.std.specs.Prelude.{ℕ}
use Rattle.link_channels.specs.declared.number.LinkNumber.{LinkNumber}
use Rattle.link_channels.specs.declared.number.LinkNumber.TheVariants.{Zero, One, Two, Three}

-- the number of a link, 0 to 3
abbrev pub link_number : LinkNumber → ℕ
link_number Zero = 0
link_number One = 1
link_number Two = 2
link_number Three = 3
