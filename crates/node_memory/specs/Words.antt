-- Arithmetic on words of 32 bits: wrapping, signed with an overflow flag, and on double words.
-- Transputer instruction set handbook, arithmetic: add, sub, mul, sum, diff, prod, lshl, lshr, norm.
use Rattle.std.specs.Prelude.{ℕ, ◌+◌, ◌-◌, ◌*◌, ◌/◌, ◌%◌, ◌^◌, Bool, ℤ, pos, negsuc, ◌+ℤ◌, ◌-ℤ◌, ◌*ℤ◌, nat_le, nat_lt, if◌then◌else◌}
use Rattle.std.specs.Int.{w32, cast_signed}

-- the sum modulo 2 ^ 32
infixl 6 ◌⊕◌
abbrev pub ◌⊕◌ : ℕ → ℕ → ℕ
a ⊕ b = (a + b) % 2 ^ 32

-- the difference modulo 2 ^ 32
infixl 6 ◌⊖◌
abbrev pub ◌⊖◌ : ℕ → ℕ → ℕ
a ⊖ b = (a + (2 ^ 32 - b)) % 2 ^ 32

-- the product modulo 2 ^ 32
infixl 7 ◌⊗◌
abbrev pub ◌⊗◌ : ℕ → ℕ → ℕ
a ⊗ b = (a * b) % 2 ^ 32

-- a word address: the low two bits cleared
abbrev pub aligned : ℕ → ℕ
aligned w = w - w % 4

-- an exact result that 32 bits can't hold in two's complement
abbrev pub overflows : ℤ → Bool
overflows (pos n) = nat_le (2 ^ 31) n
overflows (negsuc n) = nat_le (2 ^ 31) n

-- the number that a word stands for in two's complement
abbrev pub signed : ℕ → ℤ
signed w = cast_signed w32 w

-- add: the wrapped sum, and whether the signed one didn't fit
unfoldable pub sum_checked : ℕ → ℕ → ℕ × Bool
sum_checked a b = (a ⊕ b, overflows (signed a +ℤ signed b))

-- sub: the wrapped difference, and whether the signed one didn't fit
unfoldable pub difference_checked : ℕ → ℕ → ℕ × Bool
difference_checked a b = (a ⊖ b, overflows (signed a -ℤ signed b))

-- mul: the wrapped product, and whether the signed one didn't fit
unfoldable pub product_checked : ℕ → ℕ → ℕ × Bool
product_checked a b = (a ⊗ b, overflows (signed a *ℤ signed b))

-- shl, lshl: a number of this many bits shifted left by some places; 0 if there are as many places as bits, or more
abbrev pub shifted_left : ℕ → ℕ → ℕ → ℕ
shifted_left bits n places = if nat_lt places bits then (n * 2 ^ places) % 2 ^ bits else 0

-- shr, lshr: a number of this many bits shifted right by some places; 0 if there are as many places as bits, or more
abbrev pub shifted_right : ℕ → ℕ → ℕ → ℕ
shifted_right bits n places = if nat_lt places bits then n / 2 ^ places else 0
