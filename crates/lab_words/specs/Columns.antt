-- Where a character is in its line.
use Rattle.std.specs.Prelude.{ℕ, ◌+◌, ◌&&◌, List, Bool, not, nat_lt, take}
use Rattle.std.specs.List.{count_by}

-- a character of UTF-8 begins with this byte: the others are 128 to 191
abbrev pub begins_character : ℕ → Bool
begins_character byte = not (nat_lt 127 byte && nat_lt byte 192)

-- the number, from 1, of the character that begins after this many bytes of a line
abbrev pub column_of : List ℕ → ℕ → ℕ
column_of line start = count_by begins_character (take start line) + 1
