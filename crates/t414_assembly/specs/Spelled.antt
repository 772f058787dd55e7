-- What the bytes of an instruction are to be.
use Rattle.std.specs.Prelude.{ℕ, ◌≡◌, ◌≤◌, ◌/◌, ◌%◌, ◌++◌, List, [], ◌∷◌, Some, Bool, true, false, take, length}
use Rattle.t414_decode.specs.Codes.{function_of}
use Rattle.t414_decode.specs.declared.instruction.Function.{Function}
use Rattle.t414_decode.specs.declared.instruction.Function.TheVariants.{Prefix, NegativePrefix}
use Rattle.t414_assembly.specs.declared.spelling.Spelling.{Spelling}
use Rattle.t414_decode.specs.Meaning.{meaning}

-- the bytes of a spelling
abbrev pub spelled : Spelling → List ℕ
spelled s = take s.count s.bytes

-- to the processor bytes are the function with the operand, and it comes to what follows them, whatever that is
abbrev pub Means : List ℕ → Function → ℕ → Type 0
Means bytes function operand =
    (rest : List ℕ)
    → meaning (bytes ++ rest) ≡ Some (record { function = function; operand = operand; rest = rest })

-- nothing shorter is read as the function with the operand
abbrev pub IsShortest : List ℕ → Function → ℕ → Type 0
IsShortest bytes function operand =
    (others : List ℕ) → meaning others ≡ Some (record { function = function; operand = operand; rest = [] })
    → length bytes ≤ length others

-- one byte: the function, and a nibble
abbrev pub IsByteOf : Function → ℕ → List ℕ → Type 0
IsByteOf function nibble bytes =
    (byte : ℕ) × (bytes ≡ byte ∷ []) × (function_of (byte / 16) ≡ function) × (byte % 16 ≡ nibble)

-- pfix, or nfix
abbrev pub prefix_of : Bool → Function
prefix_of true = NegativePrefix
prefix_of false = Prefix
