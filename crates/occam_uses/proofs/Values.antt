-- What an expression is worth depends on what it reads: for the law of values.
use Rattle.std.proofs.Common.{ℕ, ◌≡◌, ◌+◌, ◌-◌, ◌*◌, ◌/◌, ◌%◌, ◌^◌, ◌<◌, ◌≤◌, ◌⊎◌, ◌==◌, inl, inr, Bool, true, false, nat_lt, nat_le, cond, min, List, [], ◌∷◌, ◌++◌, Option, Some, None, refl, sym, ap, subst, ◌∙◌, arith}
use Rattle.std.specs.Prelude.{⊤, slice_index}
use Rattle.std.proofs.lemmas.Bool.{and_from, or_left, or_right, le-leb, lt-ltb, ltb-true, eqb-true, cases_Bool, cases_lt}
use Rattle.std.proofs.lemmas.List.Folds.{list_any-append}
use Rattle.std.proofs.Math.Nat.{mul-le-mul_left}
use Rattle.node_memory.specs.Words.{◌⊕◌, ◌⊖◌, sum_checked, difference_checked}
use Rattle.occam_core.specs.declared.expression.CoreArray.{CoreArray}
use Rattle.occam_core.specs.declared.expression.ElementKind.{ElementKind}
use Rattle.occam_core.specs.declared.expression.ElementKind.TheVariants.{Byte, Word}
use Rattle.occam_core.specs.declared.expression.Expression.{Expression}
use Rattle.occam_core.specs.declared.expression.Expression.TheVariants.{Number, Variable, Element', One', Two', And', Or', Below'}
use Rattle.occam_core.specs.declared.expression.TwoOperation.{TwoOperation}
use Rattle.occam_core.specs.declared.expression.TwoOperation.TheVariants.{Add, Subtract}
use Rattle.occam_core.specs.declared.process.CorePlace.{CorePlace}
use Rattle.occam_core.specs.Values.{element, element_of, unless, result_of, result_of_one, of_one, of_two, and_value, or_value, below, value}
use Rattle.occam_uses.specs.declared.gathering.Elements.{Elements}
use Rattle.occam_uses.specs.declared.subscripts.SubscriptValues.{SubscriptValues}
use Rattle.occam_uses.specs.declared.subscripts.LoopIndex.{LoopIndex}
use Rattle.occam_uses.specs.declared.usage.Usage.{Usage}
use Rattle.occam_uses.specs.declared.usage.UsageWay.TheVariants.{Reads}
use Rattle.occam_uses.specs.Subscripts.{later_values, index_values, variable_values, offset, moved_values, subscript_values}
use Rattle.occam_uses.specs.Uses.{part_usage, array_elements, element_bytes, element_uses, expression_uses, is_between, uses_number, has_usage}
use Rattle.occam_uses.specs.Laws.{IsOfWords, IsOneOf, IsInLoops, AgreeWhereRead}

-- an element that a subscript with these values may have
abbrev Reaches : Option SubscriptValues → ℕ → Type 0
Reaches None k = ⊤
Reaches (Some values) k =
    ((values.first ≤ k) × (k < values.first + values.count)) ⊎ (k < values.first + values.count - 2 ^ 32)

one_reaches : (values : Option SubscriptValues) (k : ℕ) → IsOneOf values k → Reaches values k
one_reaches None k one = tt
one_reaches (Some values) k (turn, fits, below, is) =
    elim (cases_lt (values.first + turn) (2 ^ 32)) [
      | inl small ↦
          let same : k ≡ values.first + turn = omega arith in
          inl (omega arith, omega arith)
      | inr large ↦ inr (omega arith)
    ]

later_one : (indices : List LoopIndex) (store : List ℕ) (variable : ℕ) (values : Option SubscriptValues) → IsInLoops
    indices store
    → IsOneOf values (slice_index store variable) → IsOneOf (later_values values indices variable) (slice_index store
    variable)
later_one [] store variable values loops one = one
later_one (index ∷ indices) store variable values loops one =
    later_one indices store variable (cond (index.variable == variable) index.values values) loops.1
    (elim (cases_Bool (index.variable == variable)) [
      | inl same ↦
          rw same (let P : ℕ → Type 0 = λ w. IsOneOf index.values (slice_index store w) in
          subst P (eqb-true index.variable variable same) loops.0)
      | inr other ↦ rw other one
    ])

moved_one : (values : Option SubscriptValues) (by x y : ℕ) → y ≡ x ⊕ by → IsOneOf values x
    → IsOneOf (moved_values (Some by) values) y
moved_one None by x y is one = tt
moved_one (Some values) by x y is (turn, fits, below, at) = (turn, omega arith, below, omega arith)

nothing_moved : (by : Option ℕ) (k : ℕ) → Reaches (moved_values by None) k
nothing_moved None k = tt
nothing_moved (Some by) k = tt

some_is : (x y : ℕ) → Some x ≡ Some y → x ≡ y
some_is x y is = cc

unless_is : (error : Bool) (x y : ℕ) → unless error x ≡ Some y → x ≡ y
unless_is true x y is = cc
unless_is false x y is = some_is x y is

added_reaches : (indices : List LoopIndex) (store : List ℕ) → IsInLoops indices store → (op : TwoOperation) (variable
    : ℕ)
    (right : Expression) (k : ℕ) → of_two (result_of op) (Some (slice_index store variable)) (value right store) ≡
    Some k
    → Reaches (moved_values (offset op right) (index_values indices variable)) k
unfolding sum_checked difference_checked
added_reaches indices store loops Add variable (Number n) k is =
    one_reaches (moved_values (Some n) (index_values indices variable)) k
    (moved_one (index_values indices variable) n (slice_index store variable) k
    (sym (unless_is (sum_checked (slice_index store variable) n).1 (slice_index store variable ⊕ n) k is))
    (later_one indices store variable None loops tt))
added_reaches indices store loops Subtract variable (Number n) k is =
    one_reaches (moved_values (Some (0 ⊖ n)) (index_values indices variable)) k
    (moved_one (index_values indices variable) (0 ⊖ n) (slice_index store variable) k
    (sym (unless_is (difference_checked (slice_index store variable) n).1 (slice_index store variable ⊖ n) k is) ∙
    omega arith)
    (later_one indices store variable None loops tt))
added_reaches indices store loops op variable right k is = tt

two_reaches : (indices : List LoopIndex) (store : List ℕ) → IsInLoops indices store → (op : TwoOperation) (left right
    : Expression)
    (k : ℕ) → of_two (result_of op) (value left store) (value right store) ≡ Some k
    → Reaches (moved_values (offset op right) (variable_values indices left)) k
two_reaches indices store loops op (Variable variable) right k is = added_reaches indices store loops op variable
    right k is
two_reaches indices store loops op left right k is = nothing_moved (offset op right) k

subscript_reaches : (indices : List LoopIndex) (store : List ℕ) → IsInLoops indices store → (i : Expression) (k : ℕ)
    → value i store ≡ Some k → Reaches (subscript_values indices i) k
subscript_reaches indices store loops (Number n) k is =
    let same : n ≡ k = some_is n k is in
    inl (omega arith, omega arith)
subscript_reaches indices store loops (Variable v) k is =
    one_reaches (index_values indices v) k
    (let P : ℕ → Type 0 = IsOneOf (index_values indices v) in
    subst P (some_is (slice_index store v) k is) (later_one indices store v None loops tt))
subscript_reaches indices store loops (Two' op p a q b) k is = two_reaches indices store loops op a b k is
subscript_reaches indices store loops i k is = tt

used_here : (first end n : ℕ) → first ≤ n → n < end → is_between first end n ≡ true
used_here first end n from to = and_from (nat_le first n) (nat_lt n end) (le-leb first n from) (lt-ltb n end to)

part_read : (place : CorePlace) (elements : Elements) (is_known : Bool) (from to k n : ℕ) → from ≤ k → k < to
    → elements.first + elements.size * k ≤ n → n < elements.first + elements.size * k + elements.size
    → uses_number Reads n (part_usage place Reads elements is_known from to) ≡ true
part_read place elements is_known from to k n low high start end =
    let more : k + 1 ≤ to = omega arith in
    used_here (elements.first + elements.size * from) (elements.first + elements.size * to) n
    (omega (arith, mul-le-mul_left elements.size low)) (omega (arith, mul-le-mul_left elements.size more))

element_read : (place : CorePlace) (elements : Elements) (values : Option SubscriptValues) (k n : ℕ) → Reaches values k
    → k < elements.count → elements.first + elements.size * k ≤ n
    → n < elements.first + elements.size * k + elements.size
    → has_usage (element_uses place Reads elements values) Reads n ≡ true
element_read place elements None k n reached within start end =
    or_left _ false (part_read place elements false 0 elements.count k n (omega arith) within start end)
element_read place elements (Some values) k n (inl (low, high)) within start end =
    or_left _ _
    (part_read place elements true values.first (min (values.first + values.count) elements.count) k n low
    (omega arith) start end)
element_read place elements (Some values) k n (inr past) within start end =
    or_right _ _
    (or_left _ false
    (part_read place elements true 0 (min (values.first + values.count - 2 ^ 32) elements.count) k n (omega arith)
    (omega arith) start end))

byte_at : (store : List ℕ) (v b : ℕ) → b < 4 → element Byte 0 store (4 * v + b) ≡ slice_index store v / 2 ^ (8 * b) %
    2 ^ 8
byte_at store v b small =
    let word : 0 + (4 * v + b) / 4 ≡ v = omega arith in
    let rest : (4 * v + b) % 4 ≡ b = omega arith in
    ap (λ w. slice_index store w / 2 ^ (8 * ((4 * v + b) % 4)) % 2 ^ 8) word
    ∙ ap (λ r. slice_index store v / 2 ^ (8 * r) % 2 ^ 8) rest

word_from_bytes : (x y : ℕ) → x < 2 ^ 32 → y < 2 ^ 32 → x % 256 ≡ y % 256 → x / 256 % 256 ≡ y / 256 % 256
    → x / 65536 % 256 ≡ y / 65536 % 256 → x / 16777216 % 256 ≡ y / 16777216 % 256 → x ≡ y
word_from_bytes x y x_fits y_fits first second third fourth = omega arith

word_same : (store twin : List ℕ) (v : ℕ) → IsOfWords store → IsOfWords twin
    → ((b : ℕ) → b < 4 → element Byte 0 store (4 * v + b) ≡ element Byte 0 twin (4 * v + b))
    → slice_index store v ≡ slice_index twin v
word_same store twin v store_words twin_words same =
    let byte = λ (b : ℕ) (small : b < 4). sym (byte_at store v b small) ∙ same b small ∙ byte_at twin v b small in
    let zero : slice_index store v / 2 ^ (8 * 0) % 2 ^ 8 ≡ slice_index twin v / 2 ^ (8 * 0) % 2 ^ 8 = byte 0 (omega
    arith) in
    word_from_bytes (slice_index store v) (slice_index twin v) (store_words v) (twin_words v) (omega arith) (byte 1
    (omega arith))
    (byte 2 (omega arith)) (byte 3 (omega arith))

byte_element : (store : List ℕ) (first k : ℕ) → element Byte 0 store (4 * first + k) ≡ element Byte first store k
byte_element store first k =
    let word : 0 + (4 * first + k) / 4 ≡ first + k / 4 = omega arith in
    let rest : (4 * first + k) % 4 ≡ k % 4 = omega arith in
    ap (λ w. slice_index store w / 2 ^ (8 * ((4 * first + k) % 4)) % 2 ^ 8) word
    ∙ ap (λ r. slice_index store (first + k / 4) / 2 ^ (8 * r) % 2 ^ 8) rest

element_same : (store twin : List ℕ) → IsOfWords store → IsOfWords twin → (kind : ElementKind) (first k : ℕ)
    → ((n : ℕ) → 4 * first + element_bytes kind * k ≤ n
    → n < 4 * first + element_bytes kind * k + element_bytes kind → element Byte 0 store n ≡ element Byte 0 twin n)
    → element kind first store k ≡ element kind first twin k
element_same store twin store_words twin_words Word first k same =
    word_same store twin (first + k) store_words twin_words
    (λ b small. same (4 * (first + k) + b) (omega arith) (omega arith))
element_same store twin store_words twin_words Byte first k same =
    sym (byte_element store first k) ∙ same (4 * first + k) (omega arith) (omega arith) ∙ byte_element twin first k

of_one_same : (f twin : ℕ → Option ℕ) (outcome : Option ℕ) → ((k : ℕ) → outcome ≡ Some k → f k ≡ twin k)
    → of_one f outcome ≡ of_one twin outcome
of_one_same f twin None same = refl
of_one_same f twin (Some k) same = same k refl

agree_left : (uses more : List Usage) (store twin : List ℕ) → AgreeWhereRead (uses ++ more) store twin →
    AgreeWhereRead uses store twin
agree_left uses more store twin agree n read =
    agree n (list_any-append (uses_number Reads n) uses more
    ∙ or_left (has_usage uses Reads n) (has_usage more Reads n) read)

agree_right : (uses more : List Usage) (store twin : List ℕ) → AgreeWhereRead (uses ++ more) store twin →
    AgreeWhereRead more store twin
agree_right uses more store twin agree n read =
    agree n (list_any-append (uses_number Reads n) uses more
    ∙ or_right (has_usage uses Reads n) (has_usage more Reads n) read)

element_of_same : (place : CorePlace) (array : CoreArray) (values : Option SubscriptValues) (store twin : List ℕ) →
    IsOfWords store
    → IsOfWords twin → AgreeWhereRead (element_uses place Reads (array_elements array) values) store twin → (k : ℕ)
    → Reaches values k → element_of array store k ≡ element_of array twin k
element_of_same place array values store twin store_words twin_words agree k reached =
    elim (cases_Bool (nat_lt k array.length)) [
      | inl within ↦
          let below : k < array.length = ltb-true k array.length within in
          ap (λ e. cond (nat_lt k array.length) (Some e) None)
          (element_same store twin store_words twin_words array.kind array.first k
          (λ n start end. agree n (element_read place (array_elements array) values k n reached below start end)))
      | inr past ↦ rw past refl
    ]

-- an expression is worth the same in stores that agree where it reads
pub value_same : (place : CorePlace) (indices : List LoopIndex) (e : Expression) (store twin : List ℕ) → IsOfWords store
    → IsOfWords twin → IsInLoops indices store → AgreeWhereRead (expression_uses place indices e) store twin → value
    e store ≡ value e twin
value_same place indices (Number n) store twin store_words twin_words loops agree = refl
value_same place indices (Variable v) store twin store_words twin_words loops agree =
    ap Some (word_same store twin v store_words twin_words
    (λ b small. agree (4 * v + b)
    (or_left _ false (used_here (4 * v) (4 * v + 4) (4 * v + b) (omega arith) (omega arith)))))
value_same place indices (Element' array p i) store twin store_words twin_words loops agree =
    let read = element_uses place Reads (array_elements array) (subscript_values indices i) in
    let inner = expression_uses place indices i in
    of_one_same (element_of array store) (element_of array twin) (value i store)
    (λ k is.
    element_of_same place array (subscript_values indices i) store twin store_words twin_words (agree_left read inner
    store twin agree) k
    (subscript_reaches indices store loops i k is))
    ∙ ap (of_one (element_of array twin))
    (value_same place indices i store twin store_words twin_words loops (agree_right read inner store twin agree))
value_same place indices (One' op p a) store twin store_words twin_words loops agree =
    ap (of_one (result_of_one op)) (value_same place indices a store twin store_words twin_words loops agree)
value_same place indices (Two' op p a q b) store twin store_words twin_words loops agree =
    let left = expression_uses place indices a in
    let right = expression_uses place indices b in
    ap (λ x. of_two (result_of op) x (value b store))
    (value_same place indices a store twin store_words twin_words loops (agree_left left right store twin agree))
    ∙ ap (of_two (result_of op) (value a twin))
    (value_same place indices b store twin store_words twin_words loops (agree_right left right store twin agree))
value_same place indices (And' p a q b) store twin store_words twin_words loops agree =
    let left = expression_uses place indices a in
    let right = expression_uses place indices b in
    ap (of_one (and_value (value b store)))
    (value_same place indices a store twin store_words twin_words loops (agree_left left right store twin agree))
    ∙ ap (λ y. of_one (and_value y) (value a twin))
    (value_same place indices b store twin store_words twin_words loops (agree_right left right store twin agree))
value_same place indices (Or' p a q b) store twin store_words twin_words loops agree =
    let left = expression_uses place indices a in
    let right = expression_uses place indices b in
    ap (of_one (or_value (value b store)))
    (value_same place indices a store twin store_words twin_words loops (agree_left left right store twin agree))
    ∙ ap (λ y. of_one (or_value y) (value a twin))
    (value_same place indices b store twin store_words twin_words loops (agree_right left right store twin agree))
value_same place indices (Below' bound p a) store twin store_words twin_words loops agree =
    ap (of_one (below bound)) (value_same place indices a store twin store_words twin_words loops agree)
