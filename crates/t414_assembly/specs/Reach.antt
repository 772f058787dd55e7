-- How far prefixes reach.
use Rattle.std.specs.Prelude.{ℕ, ◌<◌, ◌≤◌, ◌+◌, ◌^◌, ◌⊎◌, zero, suc}

-- the operands that a number of prefixes can make, with the nibble after them: as signed numbers from -16^(n + 1) to
-- 16^(n + 1) - 1, and without a prefix those from 0 to 15
abbrev pub Reaches : ℕ → ℕ → Type 0
Reaches zero operand = operand < 16
Reaches (suc n) operand = (operand < 16 ^ (n + 2)) ⊎ (2 ^ 32 ≤ operand + 16 ^ (n + 2))
