-- How many bytes statements take, if it is given how many each instruction takes.
use Rattle.std.specs.Prelude.{ℕ, ◌≡◌, ◌+◌, ◌-◌, ◌<◌, ◌≤◌, ◌%◌, ◌==◌, ◌++◌, List, [], Some, true, false, if◌then◌else◌, length, max, slice_get, slice_index}
use Rattle.t414_assembly.specs.declared.statement.Operand.TheVariants.{Number}
use Rattle.t414_assembly.specs.declared.statement.Statement.{Statement}
use Rattle.t414_assembly.specs.declared.statement.Statement.TheVariants.{Instruction, Byte, Word, Align, Space}
use Rattle.t414_decode.specs.Meaning.{continues, meaning}
use Rattle.t414_assembly.specs.Program.{address_of, IsPiece}

-- how far the next multiple of a size is
abbrev pub gap : ℕ → ℕ → ℕ
gap size address = if address % size == 0 then 0 else (size - address % size)

-- how many bytes a statement takes at an address, if an instruction takes as many as its room
abbrev pub size_of : ℕ → ℕ → Statement → ℕ
size_of address room (Instruction function operand) = room
size_of address room (Byte value) = 1
size_of address room (Word operand) = 4
size_of address room (Align size) = gap (max size 1) address
size_of address room (Space count) = count

-- an instruction's room isn't larger than a number needs, and that of a prefix by itself is one byte
abbrev pub IsTight : ℕ → Statement → Type 0
IsTight room (Instruction function (Number n)) =
    (continues function ≡ true → room ≡ 1)
    × ((others : List ℕ) → continues function ≡ false
    → meaning others ≡ Some (record { function = function; operand = n; rest = [] }) → room ≤ length others)
IsTight room (Instruction function operand) = continues function ≡ true → room ≡ 1
IsTight room statement = Unit {0}

-- each statement has a room, which is tight, from 1 to 8
pub record AreRooms (statements : List Statement) (rooms : List ℕ) : Type 0 where
  pub count : length rooms ≡ length statements
  pub least : (k : ℕ) → k < length rooms → 1 ≤ slice_index rooms k
  pub most : (k : ℕ) → slice_index rooms k ≤ 8
  pub tight : (k : ℕ) (s : Statement) → slice_get statements k ≡ Some s → IsTight (slice_index rooms k) s

-- starts has how many bytes come before each of the first n places and the next, if the instructions take what rooms
-- says
pub record AreStarts (origin : ℕ) (statements : List Statement) (rooms : List ℕ) (n : ℕ) (starts : List ℕ)
    : Type 0 where
  pub count : length starts ≡ n + 1
  pub first : slice_index starts 0 ≡ 0
  pub next : (k : ℕ) (s : Statement) → k < n → slice_get statements k ≡ Some s
      → slice_index starts (k + 1)
      ≡ slice_index starts k + size_of (address_of origin starts k) (slice_index rooms k) s
  pub most : (k : ℕ) → slice_index starts k ≤ 65464

-- the new bytes are the old ones, and the bytes of a statement after them
abbrev pub PutsPiece : ℕ → List ℕ → ℕ → ℕ → Statement → List ℕ → List ℕ → Type 0
PutsPiece origin starts place room statement old new =
    (piece : List ℕ) × (new ≡ old ++ piece)
    × (length piece ≡ size_of (address_of origin starts place) room statement)
    × IsPiece (address_of origin starts) (place + 1) statement piece
