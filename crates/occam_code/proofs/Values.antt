-- Values are words.
use Rattle.std.proofs.Common.{◌≡◌, ℕ, ◌+◌, ◌-◌, ◌*◌, ◌/◌, ◌%◌, ◌^◌, ◌<◌, ◌≤◌, List, Option, Some, None, refl, arith, Bool, true, false, not, nat_lt}
use Rattle.std.specs.Prelude.{◌==◌, ◌||◌, ⊤, slice_index, if◌then◌else◌, int_div, int_rem}
use Rattle.std.specs.Int.{w32, cast_unsigned}
use Rattle.std.proofs.lemmas.Bool.Decides.{nat_tests}
use Rattle.std.proofs.lemmas.Int.{ints}
use Rattle.std.proofs.lemmas.Nat.{and_le_l, or_lt, xor_lt}
use Rattle.node_memory.specs.Words.{signed, sum_checked, difference_checked, product_checked, shifted_left, shifted_right}
use Rattle.occam_core.specs.declared.expression.ElementKind.{ElementKind}
use Rattle.occam_core.specs.declared.expression.ElementKind.TheVariants as kind
use Rattle.occam_core.specs.declared.expression.Expression.{Expression}
use Rattle.occam_core.specs.declared.expression.Expression.TheVariants.{Number, Variable, Element', One', Two', And', Or', Below'}
use Rattle.occam_core.specs.declared.expression.OneOperation.{OneOperation}
use Rattle.occam_core.specs.declared.expression.OneOperation.TheVariants as one
use Rattle.occam_core.specs.declared.expression.TwoOperation.{TwoOperation}
use Rattle.occam_core.specs.declared.expression.TwoOperation.TheVariants as two
use Rattle.occam_core.specs.Values.{element, element_of, unless, truth, result_of, result_of_one, of_one, of_two, and_value, or_value, below, divides_past_an_int, value}
use Rattle.occam_code.specs.Evaluates.{array_words, NamesBelow, HasWords}

-- a value, if there is one, is a word
abbrev pub IsWord : Option ℕ → Type 0
IsWord None = ⊤
IsWord (Some x) = x < 2 ^ 32

unless_word : (bad : Bool) (x : ℕ) → (bad ≡ false → x < 2 ^ 32) → IsWord (unless bad x)
unless_word true x fits = tt
unless_word false x fits = fits refl

truth_word : (b : Bool) → truth b < 2 ^ 32
truth_word true = omega arith
truth_word false = omega arith

low : (n : ℕ) → n % 2 ^ 32 < 2 ^ 32
low n = omega arith

or_fits : (bad b : Bool) → (bad || b) ≡ false → (bad ≡ false) × (b ≡ false)
or_fits true b is = absurd (grind arith)
or_fits false b is = (refl, is)

quotient_fits : (x y : ℕ) → x < 2 ^ 32 → y < 2 ^ 32 → (y == 0) ≡ false → divides_past_an_int x y ≡ false
    → cast_unsigned w32 (int_div (signed x) (signed y)) < 2 ^ 32
quotient_fits x y fx fy nonzero short = grind (arith, ints)

remainder_fits : (x y : ℕ) → x < 2 ^ 32 → y < 2 ^ 32 → (y == 0) ≡ false
    → cast_unsigned w32 (int_rem (signed x) (signed y)) < 2 ^ 32
remainder_fits x y fx fy nonzero = grind (arith, ints)

if_word : (b : Bool) (x y : ℕ) → x < 2 ^ 32 → y < 2 ^ 32 → (if b then x else y) < 2 ^ 32
if_word true x y fx fy = fx
if_word false x y fx fy = fy

left_word : (b : Bool) (n : ℕ) → (if b then n % 2 ^ 32 else 0) < 2 ^ 32
left_word true n = omega arith
left_word false n = omega arith

right_word : (b : Bool) (n k : ℕ) → n < 2 ^ 32 → (if b then n / 2 ^ k else 0) < 2 ^ 32
right_word true n k fits = grind arith
right_word false n k fits = omega arith

two_word : (operation : TwoOperation) (x y : ℕ) → x < 2 ^ 32 → y < 2 ^ 32 → IsWord (result_of operation x y)
unfolding sum_checked difference_checked product_checked
two_word two.Add x y fx fy = unless_word (sum_checked x y).1 (sum_checked x y).0 (λ _. low (x + y))
two_word two.Subtract x y fx fy =
    unless_word (difference_checked x y).1 (difference_checked x y).0 (λ _. low (x + (2 ^ 32 - y)))
two_word two.Multiply x y fx fy = unless_word (product_checked x y).1 (product_checked x y).0 (λ _. low (x * y))
two_word two.Divide x y fx fy =
    unless_word (y == 0 || divides_past_an_int x y) (cast_unsigned w32 (int_div (signed x) (signed y)))
    (λ good. let both = or_fits (y == 0) (divides_past_an_int x y) good in
    quotient_fits x y fx fy both.0 both.1)
two_word two.Remainder x y fx fy =
    unless_word (y == 0) (if divides_past_an_int x y then 0 else cast_unsigned w32 (int_rem (signed x) (signed y)))
    (λ good. if_word (divides_past_an_int x y) 0 (cast_unsigned w32 (int_rem (signed x) (signed y))) (omega arith)
    (remainder_fits x y fx fy good))
two_word two.Plus x y fx fy = low (x + y)
two_word two.Minus x y fx fy = low (x + (2 ^ 32 - y))
two_word two.Times x y fx fy = low (x * y)
two_word two.BitAnd x y fx fy = omega (arith, and_le_l x y)
two_word two.BitOr x y fx fy = or_lt 32 x y fx fy
two_word two.BitXor x y fx fy = xor_lt 32 x y fx fy
two_word two.ShiftLeft x y fx fy =
    unless_word (nat_lt 32 y) (shifted_left 32 x y) (λ _. left_word (nat_lt y 32) (x * 2 ^ y))
two_word two.ShiftRight x y fx fy =
    unless_word (nat_lt 32 y) (shifted_right 32 x y) (λ _. right_word (nat_lt y 32) x y fx)
two_word two.Equal x y fx fy = truth_word _
two_word two.NotEqual x y fx fy = truth_word _
two_word two.Less x y fx fy = truth_word _
two_word two.Greater x y fx fy = truth_word _
two_word two.AtMost x y fx fy = truth_word _
two_word two.AtLeast x y fx fy = truth_word _

one_word : (operation : OneOperation) (x : ℕ) → x < 2 ^ 32 → IsWord (result_of_one operation x)
unfolding difference_checked
one_word one.Negate x fx =
    unless_word (difference_checked 0 x).1 (difference_checked 0 x).0 (λ _. low (0 + (2 ^ 32 - x)))
one_word one.Minus x fx = low (0 + (2 ^ 32 - x))
one_word one.Complement x fx = omega arith
one_word one.Not x fx = truth_word (x == 0)

of_one_word : (f : ℕ → Option ℕ) (outcome : Option ℕ) → IsWord outcome → ((x : ℕ) → x < 2 ^ 32 → IsWord (f x))
    → IsWord (of_one f outcome)
of_one_word f None word next = tt
of_one_word f (Some x) word next = next x word

of_two_word : (result : ℕ → ℕ → Option ℕ) (outcome outcome' : Option ℕ) → IsWord outcome → IsWord outcome'
    → ((x y : ℕ) → x < 2 ^ 32 → y < 2 ^ 32 → IsWord (result x y)) → IsWord (of_two result outcome outcome')
of_two_word result None outcome' word word' next = tt
of_two_word result (Some x) None word word' next = tt
of_two_word result (Some x) (Some y) word word' next = next x y word word'

and_word : (outcome : Option ℕ) (b : Bool) → IsWord outcome → IsWord (if b then Some 0 else outcome)
and_word outcome true word = omega arith
and_word outcome false word = word

or_word : (outcome : Option ℕ) (b : Bool) → IsWord outcome → IsWord (if b then outcome else Some 1)
or_word outcome true word = word
or_word outcome false word = omega arith

byte_fits : (n : ℕ) → n % 2 ^ 8 < 2 ^ 32
byte_fits n = omega arith

if_some_word : (b : Bool) (x : ℕ) → (b ≡ true → x < 2 ^ 32) → IsWord (if b then Some x else None)
if_some_word true x fits = fits refl
if_some_word false x fits = tt

-- a test of numbers
pub is_less : (k bound : ℕ) → nat_lt k bound ≡ true → k < bound
is_less k bound is = grind (arith, nat_tests)

element_word : (element_kind : ElementKind) (first long count k : ℕ) (store : List ℕ)
    → first + array_words element_kind long ≤ count → ((v : ℕ) → v < count → slice_index store v < 2 ^ 32)
    → k < long → element element_kind first store k < 2 ^ 32
element_word kind.Byte first long count k store within stored below =
    byte_fits (slice_index store (first + k / 4) / 2 ^ (8 * (k % 4)))
element_word kind.Word first long count k store within stored below = stored (first + k) (omega (arith, within, below))

-- the value of an expression is a word
pub value_word : (e : Expression) (count : ℕ) (store : List ℕ) → HasWords e → NamesBelow count e
    → ((v : ℕ) → v < count → slice_index store v < 2 ^ 32) → IsWord (value e store)
value_word (Number n) count store words names stored = words
value_word (Variable v) count store words names stored = stored v names
value_word (Element' array p i) count store words names stored =
    of_one_word (element_of array store) (value i store) (value_word i count store words names.1 stored)
    (λ k fits. if_some_word (nat_lt k array.length) (element array.kind array.first store k)
    (λ is. element_word array.kind array.first array.length count k store names.0 stored
    (is_less k array.length is)))
value_word (One' o p a) count store words names stored =
    of_one_word (result_of_one o) (value a store) (value_word a count store words names stored) (one_word o)
value_word (Two' o p a q b) count store words names stored =
    of_two_word (result_of o) (value a store) (value b store) (value_word a count store words.0 names.0 stored)
    (value_word b count store words.1 names.1 stored) (two_word o)
value_word (And' p a q b) count store words names stored =
    of_one_word (and_value (value b store)) (value a store) (value_word a count store words.0 names.0 stored)
    (λ x fx. and_word (value b store) (x == 0) (value_word b count store words.1 names.1 stored))
value_word (Or' p a q b) count store words names stored =
    of_one_word (or_value (value b store)) (value a store) (value_word a count store words.0 names.0 stored)
    (λ x fx. or_word (of_one (λ z. Some (truth (not (z == 0)))) (value b store)) (x == 0)
    (of_one_word (λ z. Some (truth (not (z == 0)))) (value b store)
    (value_word b count store words.1 names.1 stored) (λ z fz. truth_word (not (z == 0)))))
value_word (Below' bound p a) count store words names stored =
    of_one_word (below bound) (value a store) (value_word a count store words names stored)
    (λ x fx. unless_word (not (nat_lt x bound)) x (λ _. fx))
