-- What an expression is worth. A store is the list of the variables' words, by their numbers; an array takes as many
-- words as its elements need.
-- occam 2 reference manual, expressions: the value in which an error is met is none. Where the manual leaves the
-- behaviour open, it is our choice: a BOOL variable to which nothing was assigned is TRUE unless it is 0.
use Rattle.std.specs.Prelude.{ℕ, ◌+◌, ◌-◌, ◌*◌, ◌/◌, ◌%◌, ◌^◌, ◌==◌, ◌||◌, ◌&&◌, not, Bool, List, Option, Some, None, nat_lt, if◌then◌else◌, int_lt, int_div, int_rem, bit_and, bit_or, bit_xor, slice_index}
use Rattle.std.specs.Int.{w32, cast_unsigned}
use Rattle.node_memory.specs.Words.{◌⊕◌, ◌⊖◌, ◌⊗◌, signed, sum_checked, difference_checked, product_checked, shifted_left, shifted_right}
use Rattle.occam_core.specs.declared.expression.CoreArray.{CoreArray}
use Rattle.occam_core.specs.declared.expression.ElementKind.{ElementKind}
use Rattle.occam_core.specs.declared.expression.ElementKind.TheVariants.{Byte, Word}
use Rattle.occam_core.specs.declared.expression.Expression.{Expression}
use Rattle.occam_core.specs.declared.expression.Expression.TheVariants.{Number, Variable, Element', One', Two', And', Or', Below'}
use Rattle.occam_core.specs.declared.expression.OneOperation.{OneOperation}
use Rattle.occam_core.specs.declared.expression.OneOperation.TheVariants as one
use Rattle.occam_core.specs.declared.expression.TwoOperation.{TwoOperation}
use Rattle.occam_core.specs.declared.expression.TwoOperation.TheVariants as two

-- an element of an array in a store: a BYTE is one of the four bytes of a word
abbrev pub element : ElementKind → ℕ → List ℕ → ℕ → ℕ
element Word first σ k = slice_index σ (first + k)
element Byte first σ k = slice_index σ (first + k / 4) / 2 ^ (8 * (k % 4)) % 2 ^ 8

-- the element of a subscript, if the array has it
abbrev pub element_of : CoreArray → List ℕ → ℕ → Option ℕ
element_of array σ k = if nat_lt k array.length then Some (element array.kind array.first σ k) else None

-- FALSE is 0, and TRUE is 1
abbrev pub truth : Bool → ℕ
truth b = if b then 1 else 0

-- a value, unless there was an error
abbrev pub unless : Bool → ℕ → Option ℕ
unless error x = if error then None else Some x

-- the least INT by -1, whose quotient isn't an INT
abbrev pub divides_past_an_int : ℕ → ℕ → Bool
divides_past_an_int x y = (x == 0x80000000) && (y == 0xFFFFFFFF)

-- x op y; equal words are those whose difference is 0
abbrev pub result_of : TwoOperation → ℕ → ℕ → Option ℕ
result_of two.Add x y = unless (sum_checked x y).1 (sum_checked x y).0
result_of two.Subtract x y = unless (difference_checked x y).1 (difference_checked x y).0
result_of two.Multiply x y = unless (product_checked x y).1 (product_checked x y).0
result_of two.Divide x y =
    unless (y == 0 || divides_past_an_int x y) (cast_unsigned w32 (int_div (signed x) (signed y)))
result_of two.Remainder x y =
    unless (y == 0) (if divides_past_an_int x y then 0 else cast_unsigned w32 (int_rem (signed x) (signed y)))
result_of two.Plus x y = Some (x ⊕ y)
result_of two.Minus x y = Some (x ⊖ y)
result_of two.Times x y = Some (x ⊗ y)
result_of two.BitAnd x y = Some (bit_and x y)
result_of two.BitOr x y = Some (bit_or x y)
result_of two.BitXor x y = Some (bit_xor x y)
result_of two.ShiftLeft x y = unless (nat_lt 32 y) (shifted_left 32 x y)
result_of two.ShiftRight x y = unless (nat_lt 32 y) (shifted_right 32 x y)
result_of two.Equal x y = Some (truth ((x ⊖ y) == 0))
result_of two.NotEqual x y = Some (truth (not ((x ⊖ y) == 0)))
result_of two.Less x y = Some (truth (int_lt (signed x) (signed y)))
result_of two.Greater x y = Some (truth (int_lt (signed y) (signed x)))
result_of two.AtMost x y = Some (truth (not (int_lt (signed y) (signed x))))
result_of two.AtLeast x y = Some (truth (not (int_lt (signed x) (signed y))))

-- op x
abbrev pub result_of_one : OneOperation → ℕ → Option ℕ
result_of_one one.Negate x = unless (difference_checked 0 x).1 (difference_checked 0 x).0
result_of_one one.Minus x = Some (0 ⊖ x)
result_of_one one.Complement x = Some (2 ^ 32 - 1 - x)
result_of_one one.Not x = Some (truth (x == 0))

-- what comes of one value, unless there was an error in it
abbrev pub of_one : (ℕ → Option ℕ) → Option ℕ → Option ℕ
of_one f None = None
of_one f (Some x) = f x

-- what comes of both values, unless there was an error in one of them
abbrev pub of_two : (ℕ → ℕ → Option ℕ) → Option ℕ → Option ℕ → Option ℕ
of_two f None y = None
of_two f (Some x) None = None
of_two f (Some x) (Some y) = f x y

-- 0 of 0, and else the other side
abbrev pub and_value : Option ℕ → ℕ → Option ℕ
and_value y x = if x == 0 then Some 0 else y

-- 1 of all but 0, and else whether the other side isn't 0
abbrev pub or_value : Option ℕ → ℕ → Option ℕ
or_value y x = if x == 0 then of_one (λ z. Some (truth (not (z == 0)))) y else Some 1

-- a value below a bound
abbrev pub below : ℕ → ℕ → Option ℕ
below bound x = unless (not (nat_lt x bound)) x

-- the value of an expression in a store, or none if an error is met
abbrev pub value : Expression → List ℕ → Option ℕ
value (Number n) σ = Some n
value (Variable v) σ = Some (slice_index σ v)
value (Element' array p i) σ = of_one (element_of array σ) (value i σ)
value (One' op p a) σ = of_one (result_of_one op) (value a σ)
value (Two' op p a q b) σ = of_two (result_of op) (value a σ) (value b σ)
value (And' p a q b) σ = of_one (and_value (value b σ)) (value a σ)
value (Or' p a q b) σ = of_one (or_value (value b σ)) (value a σ)
value (Below' bound p a) σ = of_one (below bound) (value a σ)
