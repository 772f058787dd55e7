-- What bytes mean to the processor, by what t414_decode says of each byte.
-- Transputer instruction set handbook, direct functions and prefixing functions.
use Rattle.std.specs.Prelude.{ℕ, ◌/◌, List, [], ◌∷◌, Option, Some, None, Bool, true, false, if◌then◌else◌}
use Rattle.t414_decode.specs.Codes.{function_of, accumulated}
use Rattle.t414_decode.specs.declared.instruction.Function.{Function}
use Rattle.t414_decode.specs.declared.instruction.Function.TheVariants.{Prefix, NegativePrefix}

-- whether the instruction goes on after a byte of this function: it does for pfix and nfix
abbrev pub continues : Function → Bool
continues Prefix = true
continues NegativePrefix = true
continues _ = false

-- an instruction, and the bytes after it
pub record Meant : Type 0 where
  pub function : Function
  pub operand : ℕ
  pub rest : List ℕ

-- the instruction that ends first, of bytes after those that made an operand; none if the bytes end within prefixes
unfoldable pub read_from : ℕ → List ℕ → Option Meant
read_from operand [] = None
read_from operand (byte ∷ bytes) =
    if continues (function_of (byte / 16)) then read_from (accumulated operand byte) bytes
    else Some (record { function = function_of (byte / 16); operand = accumulated operand byte; rest = bytes })

-- the first instruction of bytes: each instruction begins with the operand 0
abbrev pub meaning : List ℕ → Option Meant
meaning bytes = read_from 0 bytes
