-- Bytes that are spelled by hexadecimal digits.
use Rattle.std.specs.Prelude.{◌≡◌, ℕ, List, [], ◌∷◌, Ok}
use Rattle.hex.specs.Hex.{decode_of}

-- the text spells some bytes, two digits for each
abbrev pub Spells : List ℕ → List ℕ → Type 0
Spells [] bytes = ⊥
Spells (digit ∷ digits) bytes = decode_of (digit ∷ digits) ≡ Ok bytes
