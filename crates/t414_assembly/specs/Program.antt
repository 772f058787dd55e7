-- Programs: statements, the places between them, and the bytes that they are to become.
use Rattle.std.specs.Prelude.{ℕ, ◌≡◌, ◌+◌, ◌-◌, ◌<◌, ◌≤◌, ◌%◌, ◌^◌, ◌++◌, List, [], ◌∷◌, Some, Bool, true, false, if◌then◌else◌, take, length, slice_get, slice_index, slice_index_or, flat_map, replicate, max}
use Rattle.std.specs.Int.{to_le_bytes, w32}
use Rattle.t414_decode.specs.declared.instruction.Function.{Function}
use Rattle.t414_decode.specs.declared.instruction.Function.TheVariants.{Jump, Call, ConditionalJump}
use Rattle.t414_assembly.specs.declared.statement.Operand.{Operand}
use Rattle.t414_assembly.specs.declared.statement.Operand.TheVariants.{Number, Label, Difference}
use Rattle.t414_assembly.specs.declared.statement.Statement.{Statement}
use Rattle.t414_assembly.specs.declared.statement.Statement.TheVariants.{Instruction, Byte, Word, Align, Space}
use Rattle.t414_decode.specs.Meaning.{continues}
use Rattle.t414_assembly.specs.Usual.{usual}
use Rattle.t414_assembly.specs.Spelled.{Means, IsShortest, IsByteOf}

-- j, cj and call take an operand from the next instruction
abbrev pub is_relative : Function → Bool
is_relative Jump = true
is_relative ConditionalJump = true
is_relative Call = true
is_relative _ = false

-- the address of a place, where starts says how many bytes come before each place
abbrev pub address_of : ℕ → List ℕ → ℕ → ℕ
address_of origin starts place = origin + slice_index starts place

-- a number less another, as a word
abbrev pub less : ℕ → ℕ → ℕ
less a b = (a + (2 ^ 32 - b)) % 2 ^ 32

-- a number and another, as a word
abbrev pub plus : ℕ → ℕ → ℕ
plus a b = (a + b) % 2 ^ 32

-- the word that an operand says, of the addresses of places
abbrev pub value_of : (ℕ → ℕ) → Operand → ℕ
value_of address (Number n) = n
value_of address (Label place n) = plus (address place) n
value_of address (Difference a b n) = plus (less (address a) (address b)) n

-- the operand of an instruction before a place: a branch takes a label, with the number on it, as its distance from
-- that place
abbrev pub operand_of : (ℕ → ℕ) → ℕ → Function → Operand → ℕ
operand_of address next function (Label place n) =
    if is_relative function then less (plus (address place) n) (address next) else plus (address place) n
operand_of address next function operand = value_of address operand

-- an instruction in bytes that mean it: pfix 0 as many times as pads says, which change nothing, and then the shortest
-- bytes that mean it
pub record IsPadded (function : Function) (operand : ℕ) (pads : ℕ) (bytes : List ℕ) : Type 0 where
  pub means : Means bytes function operand
  pub short : List ℕ
  pub whole : bytes ≡ replicate pads 0x20 ++ short
  pub shortest : IsShortest short function operand

-- the bytes of an instruction with an operand: a prefix by itself is one byte; a number is never padded,
-- and is spelled in the usual way
pub record IsInstruction (address : ℕ → ℕ) (next : ℕ) (function : Function) (operand : Operand)
    (bytes : List ℕ) : Type 0 where
  pub prefix : continues function ≡ true → IsByteOf function (operand_of address next function operand % 16) bytes
  pub other : continues function ≡ false
      → (pads : ℕ) × IsPadded function (operand_of address next function operand) pads bytes
  pub number : (n : ℕ) → operand ≡ Number n → bytes ≡ usual function n
  pub shortest : (n : ℕ) → operand ≡ Number n → continues function ≡ false → IsShortest bytes function n

-- the bytes of the statement before a place; to be a multiple of 0 asks nothing, as to be one of 1
abbrev pub IsPiece : (ℕ → ℕ) → ℕ → Statement → List ℕ → Type 0
IsPiece address next (Instruction function operand) bytes = IsInstruction address next function operand bytes
IsPiece address next (Byte value) bytes = bytes ≡ value ∷ []
IsPiece address next (Word operand) bytes = bytes ≡ to_le_bytes w32 (value_of address operand)
IsPiece address next (Align size) bytes =
    (bytes ≡ replicate (length bytes) 0) × (length bytes < max size 1) × (address next % max size 1 ≡ 0)
IsPiece address next (Space count) bytes = bytes ≡ replicate count 0

-- The bytes of the first n statements are theirs, one after another, and starts has the bytes before each place.
pub record IsImage (origin : ℕ) (statements : List Statement) (starts : List ℕ) (n : ℕ) (bytes : List ℕ)
    : Type 0 where
  pub pieces : List (List ℕ)
  pub count : length pieces ≡ n
  pub whole : bytes ≡ flat_map (λ piece. piece) pieces
  pub places : (k : ℕ) → k ≤ n → slice_index starts k ≡ length (flat_map (λ piece. piece) (take k pieces))
  pub each : (k : ℕ) (s : Statement) → k < n → slice_get statements k ≡ Some s
      → IsPiece (address_of origin starts) (k + 1) s (slice_index_or pieces k [])
