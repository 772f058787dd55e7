-- The one spelling of an instruction that is written, of those that are as short.
-- Transputer instruction set handbook, prefixing functions.
use Rattle.std.specs.Prelude.{ℕ, ◌+◌, ◌-◌, ◌*◌, ◌/◌, ◌%◌, ◌^◌, ◌++◌, List, [], ◌∷◌, Bool, true, false, zero, suc, nat_lt, if◌then◌else◌}
use Rattle.t414_decode.specs.declared.instruction.Function.{Function}
use Rattle.t414_decode.specs.declared.instruction.Function.TheVariants.{Jump, LoadLocalPointer, Prefix, LoadNonLocal, LoadConstant, LoadNonLocalPointer, NegativePrefix, LoadLocal, AddConstant, Call, ConditionalJump, AdjustWorkspace, EqualsConstant, StoreLocal, StoreNonLocal, Operate}
use Rattle.t414_decode.specs.Meaning.{continues}
use Rattle.t414_assembly.specs.Spelled.{prefix_of}

-- the high nibble of a function
unfoldable pub nibble_of : Function → ℕ
nibble_of Jump = 0x0
nibble_of LoadLocalPointer = 0x1
nibble_of Prefix = 0x2
nibble_of LoadNonLocal = 0x3
nibble_of LoadConstant = 0x4
nibble_of LoadNonLocalPointer = 0x5
nibble_of NegativePrefix = 0x6
nibble_of LoadLocal = 0x7
nibble_of AddConstant = 0x8
nibble_of Call = 0x9
nibble_of ConditionalJump = 0xA
nibble_of AdjustWorkspace = 0xB
nibble_of EqualsConstant = 0xC
nibble_of StoreLocal = 0xD
nibble_of StoreNonLocal = 0xE
nibble_of Operate = 0xF

-- the byte of a function with the lowest nibble of a number
abbrev pub byte_with : Function → ℕ → ℕ
byte_with function n = nibble_of function * 16 + n % 16

-- a number by prefixes, nibble by nibble, at most this many: each is pfix, but the last is nfix if the operand is to be
-- negative
unfoldable pub prefix_bytes : ℕ → ℕ → Bool → List ℕ
prefix_bytes zero value negative = []
prefix_bytes (suc most) value negative =
    (if nat_lt value 16 then [] else prefix_bytes most (value / 16) false)
    ++ byte_with (prefix_of negative) value ∷ []

-- the prefixes of an operand: none below 16; those of the rest of the number if it is positive, and else of its
-- complement
unfoldable pub prefixes_of : ℕ → List ℕ
prefixes_of operand =
    if nat_lt operand 16 then []
    else (if nat_lt operand (2 ^ 31) then prefix_bytes 7 (operand / 16) false
    else prefix_bytes 7 ((2 ^ 32 - 1 - operand) / 16) true)

-- the bytes of an instruction; a prefix by itself is one byte
abbrev pub usual : Function → ℕ → List ℕ
usual function operand = (if continues function then [] else prefixes_of operand) ++ byte_with function operand ∷ []
