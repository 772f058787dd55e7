-- The code of an expression gives its value.
use Rattle.std.proofs.Common.{Box, Global, ◌≡◌, ℕ, ◌+◌, ◌-◌, ◌*◌, ◌^◌, ◌<◌, ◌≤◌, List, [], ◌∷◌, ◌++◌, length, length-append, Option, Some, None, refl, sym, ap, ◌∙◌, subst, arith, Bool, true, false, not, max, nat_lt, Ok, ◌/◌, ◌%◌}
use Rattle.std.specs.Prelude.{◌==◌, slice_get, slice_index, if◌then◌else◌}
use Rattle.std.proofs.lemmas.Bool.Decides.{nat_tests}
use Rattle.node_memory.specs.Effect.{Gave, tried}
use Rattle.node_memory.specs.Bytes.{byte_at, word_at}
use Rattle.node_memory.specs.Words.{◌⊕◌, ◌⊗◌}
use Rattle.link_channels.specs.declared.link.FourLinks.{FourLinks}
use Rattle.t414_decode.specs.declared.instruction.Function.TheVariants.{LoadLocal, LoadNonLocal, StoreLocal, ConditionalJump}
use Rattle.t414_assembly.specs.declared.statement.Operand.TheVariants as operand
use Rattle.t414_assembly.specs.declared.statement.Statement.{Statement}
use Rattle.t414_assembly.specs.Program.{less, plus}
use Rattle.t414_step.specs.declared.cpu.Cpu.{Cpu}
use Rattle.t414_step.specs.Registers.{bit}
use Rattle.t414_step.specs.Rows.{direct}
use Rattle.occam_core.specs.declared.expression.CoreArray.{CoreArray}
use Rattle.occam_core.specs.declared.expression.ElementKind.{ElementKind}
use Rattle.occam_core.specs.declared.expression.ElementKind.TheVariants as kind
use Rattle.occam_core.specs.declared.expression.Expression.{Expression}
use Rattle.occam_core.specs.declared.expression.Expression.TheVariants.{Number, Variable, Element', One', Two', And', Or', Below'}
use Rattle.occam_core.specs.declared.expression.OneOperation.{OneOperation}
use Rattle.occam_core.specs.declared.expression.TwoOperation.{TwoOperation}
use Rattle.occam_core.specs.Values.{element, element_of, unless, truth, result_of, result_of_one, of_one, of_two, and_value, or_value, below, value}
use Rattle.occam_code.specs.declared.frame.FrameWords.{FrameWords}
use Rattle.occam_code.specs.Instructions as asm
use Rattle.occam_code.specs.Words.{is_leaf, temporaries_of}
use Rattle.occam_code.specs.Expressions.{subscript_code, load_code, one_code, two_code, sides_code, expression_code}
use Rattle.occam_code.specs.Evaluates.{array_words, NamesBelow, HasWords, word_in, Holds, KeepsOthers, Comes, GivesValue}
use Rattle.occam_code.proofs.Stepping.{HasAt, has_front, has_back, has_all, has_same, step}
use Rattle.occam_code.proofs.Workspace.{byte_is, byte_address, element_address, word_is, with_word_in, word_put, word_fits, word_kept, kept_same, kept_then, kept_store, stored_word, holds_store}
use Rattle.occam_code.proofs.Operations.{points, word_subscript, byte_subscript, loads_byte, at, twice, Ends, Moves, later, onward, arrives, constant, equals, last_equals, bounded, ends_at, one_run, two_run}
use Rattle.occam_code.proofs.Values.{IsWord, is_less, value_word}

-- a jump comes to the place of its label
pub landing : (x y : ℕ) → x < 2 ^ 32 → y < 2 ^ 32 → y ⊕ less (plus x 0) y ≡ x
landing x y fx fy = omega arith

-- what a test of 0 finds
pub is_zero : (x : ℕ) → (x == 0) ≡ true → x ≡ 0
is_zero x is = grind (arith, nat_tests)

right_none : (result : ℕ → ℕ → Option ℕ) (outcome : Option ℕ) → None ≡ of_two result outcome None
right_none result None = refl
right_none result (Some x) = refl

right_some : (result : ℕ → ℕ → Option ℕ) (outcome : Option ℕ) (y : ℕ)
    → of_one (λ x. result x y) outcome ≡ of_two result outcome (Some y)
right_some result None y = refl
right_some result (Some x) y = refl

-- the word of a variable
pub word_after : (base v count size w long : ℕ) → v < count → count + base ≤ size → w + 4 * size ≤ long → long ≤ 65536
    → v ⊕ base ≡ v + base
word_after base v count size w long below within most bound = omega arith

module _ (address : ℕ → ℕ) (addresses : (k : ℕ) → address k < 2 ^ 32) (program : List Statement) (ls : FourLinks)
    (base size count : ℕ) (store : List ℕ) where
  -- the words that are free from one on
  abbrev from : ℕ → FrameWords
  from temporary = record { base = base; temporary = temporary }

  abbrev Reaches : ℕ → ℕ → Cpu → List ℕ → Option ℕ → Type 0
  Reaches last first s m outcome = Ends address program ls base size count store last first s m outcome

  abbrev Goes_to : Cpu → List ℕ → Cpu → List ℕ → Type 0
  Goes_to s m after u = Moves address program ls base size count store s m after u

  abbrev Held : Cpu → List ℕ → Type 0
  Held s m = Holds s.workspace base size count store m

  -- a word is loaded
  loads : (k j a b c : ℕ) (s : Cpu) (m : List ℕ) → slice_get program k ≡ Some (asm.ldl j) → Held s m → j < size
      → Goes_to (at s (address k) a b c) m (at s (address (k + 1)) (word_in s.workspace m j) a b) m
  unfolding direct
  loads k j a b c s m is holds below =
      step address program ls k LoadLocal (operand.Number j) (at s (address k) a b c)
      (at s (address (k + 1)) (word_in s.workspace m j) a b) m m is refl
      (ap (λ r. tried r ls m (λ x. Gave (at s (address (k + 1)) x a b) ls m))
      (word_is s.workspace base size count j store m holds below))

  -- A is stored
  stores : (k j a b c : ℕ) (s : Cpu) (m : List ℕ) → slice_get program k ≡ Some (asm.stl j) → Held s m → j < size
      → Goes_to (at s (address k) a b c) m (at s (address (k + 1)) b c c) (with_word_in s.workspace m j a)
  unfolding direct
  stores k j a b c s m is holds below =
      step address program ls k StoreLocal (operand.Number j) (at s (address k) a b c)
      (at s (address (k + 1)) b c c) m (with_word_in s.workspace m j a) is refl
      (ap (λ r. tried r ls m (λ u. Gave (at s (address (k + 1)) b c c) ls u))
      (word_put s.workspace base size count j a store m holds below))

  -- cj at 0
  jumps : (k place b c : ℕ) (s : Cpu) (m : List ℕ) → slice_get program k ≡ Some (asm.cj place)
      → Goes_to (at s (address k) 0 b c) m (at s (address place) 0 b c) m
  unfolding direct
  jumps k place b c s m is =
      step address program ls k ConditionalJump (operand.Label place 0) (at s (address k) 0 b c)
      (at s (address place) 0 b c) m m is refl
      (ap (λ i. Gave (at s i 0 b c) ls m)
      (landing (address place) (address (k + 1)) (addresses place) (addresses (k + 1))))

  -- cj at another value
  passes : (k place a b c : ℕ) (s : Cpu) (m : List ℕ) → slice_get program k ≡ Some (asm.cj place)
      → (a == 0) ≡ false → Goes_to (at s (address k) a b c) m (at s (address (k + 1)) b c c) m
  unfolding direct
  passes k place a b c s m is nonzero =
      step address program ls k ConditionalJump (operand.Label place 0) (at s (address k) a b c)
      (at s (address (k + 1)) b c c) m m is refl
      (ap (λ q. Gave (if q then at s (address (k + 1) ⊕ less (plus (address place) 0) (address (k + 1))) a b c
      else at s (address (k + 1)) b c c) ls m) nonzero)

  -- what is done with a value
  after : (outcome : Option ℕ) (f : ℕ → Option ℕ) (mid last first next : ℕ) (s : Cpu) (m : List ℕ) → first ≤ next
      → Reaches mid next s m outcome
      → ((x b c : ℕ) (u : List ℕ) → IsWord outcome → outcome ≡ Some x → Held s u → KeepsOthers s.workspace next size m u
      → Reaches last first (at s (address mid) x b c) u (f x))
      → IsWord outcome → Reaches last first s m (of_one f outcome)
  after None f mid last first next s m more reaches then_do word = reaches
  after (Some x) f mid last first next s m more reaches then_do word =
      later address program ls base size count store (f x) last first (address mid) x reaches.b reaches.c s m
      reaches.memory
      (record { number = reaches.number; leads = reaches.leads })
      (kept_then s.workspace first next size m m reaches.memory more (kept_same s.workspace first size m) reaches.kept)
      (then_do x reaches.b reaches.c reaches.memory word refl reaches.holds reaches.kept)

  -- the right value comes first
  after_right : (result : ℕ → ℕ → Option ℕ) (outcome outcome' : Option ℕ) (mid last first : ℕ) (s : Cpu) (m : List ℕ)
      → Reaches mid first s m outcome'
      → ((y b c : ℕ) (u : List ℕ) → IsWord (Some y) → Held s u
      → Reaches last first (at s (address mid) y b c) u (of_one (λ x. result x y) outcome))
      → IsWord outcome' → Reaches last first s m (of_two result outcome outcome')
  after_right result outcome None mid last first s m reaches then_do word =
      subst (λ q. Reaches last first s m q) (right_none result outcome) reaches
  after_right result outcome (Some y) mid last first s m reaches then_do word =
      later address program ls base size count store (of_two result outcome (Some y)) last first
      (address mid) y reaches.b reaches.c s m reaches.memory
      (record { number = reaches.number; leads = reaches.leads }) reaches.kept
      (subst (λ q. Reaches last first (at s (address mid) y reaches.b reaches.c) reaches.memory q)
      (right_some result outcome y)
      (then_do y reaches.b reaches.c reaches.memory word reaches.holds))

  -- the code of an expression, from any registers, gives its value
  abbrev Runs : Expression → Type 0
  Runs e =
      (k t a b c : ℕ) (s : Cpu) (m : List ℕ) → HasAt program k (expression_code k (from t) e) → Held s m → count +
      base ≤ t
      → t + temporaries_of e ≤ size
      → Reaches (k + length (expression_code k (from t) e)) t (at s (address k) a b c) m (value e store)

  number_runs : (n : ℕ) → Runs (Number n)
  number_runs n k t a b c s m has h free room =
      arrives address program ls base size count store (k + 1) t n a b (at s (address k) a b c) m h
      (constant address program ls base size count store k n a b c s m has.0)

  variable_goes : (v k first a b c : ℕ) (s : Cpu) (m : List ℕ) → v < count → HasAt program k (asm.ldl (v ⊕ base) ∷ [])
      → Held s m → count + base ≤ size
      → Goes_to (at s (address k) a b c) m (at s (address (k + 1)) (slice_index store v) a b) m
  variable_goes v k first a b c s m below has holds within =
      let next = word_after base v count size (s.workspace - 0x80000000)
      (length m) below within holds.most holds.memory.most in
      let is : word_in s.workspace m (v ⊕ base) ≡ slice_index store v =
      ap (λ j. word_in s.workspace m j) next ∙ holds.variables v below in
      subst (λ x. Goes_to (at s (address k) a b c) m (at s (address (k + 1)) x a b) m) is
      (loads k (v ⊕ base) a b c s m has.0 holds (omega (arith, next, below, within)))

  variable_runs : (v : ℕ) → v < count → Runs (Variable v)
  variable_runs v below k t a b c s m has h free room =
      arrives address program ls base size count store (k + 1) t (slice_index store v) a b (at s (address k) a b c) m h
      (variable_goes v k t a b c s m below has h (omega (arith, free, room)))

  one_runs : (operation : OneOperation) (box : Box (Unit {0}) Global) (e : Expression) → IsWord (value e store) → Runs e
      → Runs (One' operation box e)
  one_runs operation box e word run k t a b c s m has h free room =
      let code = expression_code k (from t) e in
      let mid = k + length code in
      ends_at address program ls base size count store (of_one (result_of_one operation) (value e store)) (mid + length
      (one_code operation))
      (k + length (code ++ one_code operation)) t (at s (address k) a b c) m (omega (
        arith,
        length-append code
            (one_code operation),
      ))
      (after (value e store) (result_of_one operation) mid (mid + length (one_code operation)) t t
      (at s (address k) a b c) m
      (omega arith)
      (run k t a b c s m (has_front program k code (one_code operation) has) h free room)
      (λ x b' c' u w is h' kept. one_run address program ls base size count store operation mid t x b' c' s u
      (has_back program k code (one_code operation) has) h')
      word)

  below_runs : (bound : ℕ) (box : Box (Unit {0}) Global) (e : Expression) → IsWord (value e store) → Runs e
      → Runs (Below' bound box e)
  below_runs bound box e word run k t a b c s m has h free room =
      let code = expression_code k (from t) e in
      let more = asm.ldc bound ∷ asm.csub0 ∷ [] in
      let mid = k + length code in
      ends_at address program ls base size count store (of_one (below bound) (value e store)) (mid + 2)
      (k + length (code ++ more)) t (at s (address k) a b c) m (omega (arith, length-append code more))
      (after (value e store) (below bound) mid (mid + 2) t t (at s (address k) a b c) m (omega arith)
      (run k t a b c s m (has_front program k code more has) h free room)
      (λ x b' c' u w is h' kept. bounded address program ls base size count store mid t bound x b' c' s u
      (has_back program k code more has) h')
      word)

  -- ldnl 0
  loads_word : (k a b c x : ℕ) (s : Cpu) (m : List ℕ) → slice_get program k ≡ Some (asm.ldnl 0)
      → word_at m (a ⊕ 4 ⊗ 0) ≡ Ok x
      → Goes_to (at s (address k) a b c) m (at s (address (k + 1)) x b c) m
  unfolding direct
  loads_word k a b c x s m is found =
      step address program ls k LoadNonLocal (operand.Number 0) (at s (address k) a b c)
      (at s (address (k + 1)) x b c) m m is refl
      (ap (λ r. tried r ls m (λ y. Gave (at s (address (k + 1)) y b c) ls m)) found)

  -- the element whose subscript is in A
  element_loads : (element_kind : ElementKind) (v long k first i b c : ℕ) (s : Cpu) (m : List ℕ)
      → HasAt program k (asm.ldlp (v ⊕ base) ∷ subscript_code element_kind ∷ load_code element_kind ∷ []) → Held s m
      → v + array_words element_kind long ≤ count → count + base ≤ size → i < long
      → Reaches (k + 1 + 1 + 1) first (at s (address k) i b c) m (Some (element element_kind v store i))
  element_loads kind.Byte v long k first i b c s m has holds names within below =
      let w = s.workspace in
      let start = w ⊕ 4 ⊗ (v ⊕ base) in
      let x = element kind.Byte v store i in
      let last = k + 1 + 1 + 1 in
      let under : v + i / 4 < count = omega (arith, names, below) in
      let inside : v + i / 4 + base < size = omega (arith, under, within) in
      let found : byte_at m (start ⊕ i) ≡ Ok x =
      ap (λ a. byte_at m a) (byte_address w v i base size count store m holds inside)
      ∙ byte_is w base size count v i store m holds inside
      ∙ ap (λ y. Ok (y / 2 ^ (8 * (i % 4)) % 2 ^ 8)) (holds.variables (v + i / 4) under) in
      onward address program ls base size count store (Some x) last first (address (k + 1)) start i b
      (at s (address k) i b c) m (points address program ls base size count store k (v ⊕ base) i b c s m has.0)
      (onward address program ls base size count store (Some x) last first (address (k + 1 + 1)) (start ⊕ i) b b
      (at s (address (k + 1)) start i b) m
      (byte_subscript address program ls base size count store (k + 1) start i b s m has.1.0)
      (arrives address program ls base size count store last first x b b (at s (address (k + 1 + 1)) (start ⊕ i) b b)
      m holds
      (loads_byte address program ls base size count store (k + 1 + 1) (start ⊕ i) b b x s m has.1.1.0 found)))
  element_loads kind.Word v long k first i b c s m has holds names within below =
      let w = s.workspace in
      let start = w ⊕ 4 ⊗ (v ⊕ base) in
      let place = start ⊕ 4 ⊗ i in
      let x = slice_index store (v + i) in
      let last = k + 1 + 1 + 1 in
      let under : v + i < count = omega (arith, names, below) in
      let inside : v + i + base < size = omega (arith, under, within) in
      let found : word_at m (place ⊕ 4 ⊗ 0) ≡ Ok x =
      ap (λ a. word_at m a) (element_address w v i base size count store m holds inside)
      ∙ word_is w base size count (v + i + base) store m holds inside
      ∙ ap Ok (holds.variables (v + i) under) in
      onward address program ls base size count store (Some x) last first (address (k + 1)) start i b
      (at s (address k) i b c) m (points address program ls base size count store k (v ⊕ base) i b c s m has.0)
      (onward address program ls base size count store (Some x) last first (address (k + 1 + 1)) place b b
      (at s (address (k + 1)) start i b) m
      (word_subscript address program ls base size count store (k + 1) start i b s m has.1.0)
      (arrives address program ls base size count store last first x b b (at s (address (k + 1 + 1)) place b b) m holds
      (loads_word (k + 1 + 1) place b b x s m has.1.1.0 found)))

  -- what is done with a subscript after its check
  after_check : (inside : Bool) (i x mid last first : ℕ) (s : Cpu) (m : List ℕ)
      → Reaches mid first s m (unless (not inside) i)
      → ((b c : ℕ) (u : List ℕ) → inside ≡ true → Held s u → Reaches last first (at s (address mid) i b c) u (Some x))
      → Reaches last first s m (if inside then Some x else None)
  after_check true i x mid last first s m reaches then_do =
      later address program ls base size count store (Some x) last first (address mid) i reaches.b reaches.c s m
      reaches.memory (record { number = reaches.number; leads = reaches.leads }) reaches.kept
      (then_do reaches.b reaches.c reaches.memory refl reaches.holds)
  after_check false i x mid last first s m reaches then_do = reaches

  element_runs : (array : CoreArray) (box : Box (Unit {0}) Global) (e : Expression) → IsWord (value e store) → Runs e
      → array.first + array_words array.kind array.length ≤ count → Runs (Element' array box e)
  element_runs array box e word run names k first a b c s m has holds free room =
      let code = expression_code k (from first) e in
      let check = asm.ldc array.length ∷ asm.csub0 ∷ [] in
      let load = asm.ldlp (array.first ⊕ base) ∷ subscript_code array.kind ∷ load_code array.kind ∷ [] in
      let mid = k + length code in
      let last = mid + 2 + 1 + 1 + 1 in
      let more_has = has_back program k code (check ++ load) has in
      let place : mid + 1 + 1 ≡ mid + 2 = omega arith in
      let load_has = subst (λ n. HasAt program n load) place more_has.1.1 in
      let within : count + base ≤ size = omega (arith, free, room) in
      ends_at address program ls base size count store (of_one (element_of array store) (value e store)) last
      (k + length (code ++ (check ++ load))) first (at s (address k) a b c) m
      (omega (arith, length-append code (check ++ load)))
      (after (value e store) (element_of array store) mid last first first (at s (address k) a b c) m (omega arith)
      (run k first a b c s m (has_front program k code (check ++ load) has) holds free room)
      (λ x b' c' u w is holds' kept. after_check (nat_lt x array.length) x
      (element array.kind array.first store x) (mid + 2) last first (at s (address mid) x b' c') u
      (bounded address program ls base size count store mid first array.length x b' c' s u
      (has_front program mid check load more_has) holds')
      (λ b1 c1 u' inside kept'. element_loads array.kind array.first array.length (mid + 2) first x b1 c1 s u'
      load_has kept' names within (is_less x array.length inside)))
      word)

  -- a leaf pushes its value
  record IsLeaf (e : Expression) : Type 0 where
    leaf : ℕ
    is : value e store ≡ Some leaf
    pushes : (k t a b c : ℕ) (s : Cpu) (m : List ℕ) → HasAt program k (expression_code k (from t) e) → Held s m
        → count + base ≤ size → (length (expression_code k (from t) e) ≡ 1)
        × Goes_to (at s (address k) a b c) m (at s (address (k + 1)) leaf a b) m

  leaf_of : (e : Expression) → is_leaf e ≡ true → NamesBelow count e → IsLeaf e
  leaf_of (Number n) leaf names =
      record {
        leaf = n;
        is = refl;
        pushes = λ k t a b c s m has h within.
            (refl, constant address program ls base size count store k n a b c s m has.0);
      }
  leaf_of (Variable v) leaf names =
      record {
        leaf = slice_index store v;
        is = refl;
        pushes = λ k t a b c s m has h within. (refl, variable_goes v k t a b c s m names has h within);
      }
  leaf_of (Element' array p i) leaf names = absurd (grind arith)
  leaf_of (One' o p a) leaf names = absurd (grind arith)
  leaf_of (Two' o p a q b) leaf names = absurd (grind arith)
  leaf_of (And' p a q b) leaf names = absurd (grind arith)
  leaf_of (Or' p a q b) leaf names = absurd (grind arith)
  leaf_of (Below' bound p a) leaf names = absurd (grind arith)

  -- both sides, the right one a leaf, and the operation
  leaf_runs : (operation : TwoOperation) (e e' : Expression) → IsWord (value e store) → Runs e → IsLeaf e'
      → (k first a b c : ℕ) (s : Cpu) (m : List ℕ)
      → HasAt program k
      (sides_code true k (from first) (λ i n. expression_code i n e) (λ i n. expression_code i n e') ++ two_code
      operation)
      → Held s m → count + base ≤ first → first + temporaries_of e ≤ size
      → Reaches
      (k + length
      (sides_code true k (from first) (λ i n. expression_code i n e) (λ i n. expression_code i n e') ++ two_code
      operation))
      first (at s (address k) a b c) m (of_two (result_of operation) (value e store) (value e' store))
  leaf_runs operation e e' word run leaf k first a b c s m has holds free room =
      let left = expression_code k (from first) e in
      let mid = k + length left in
      let right = expression_code mid (from first) e' in
      let sides = has_front program k (left ++ right) (two_code operation) has in
      let last_has = has_back program k (left ++ right) (two_code operation) has in
      let right_has = has_back program k left right sides in
      let within : count + base ≤ size = omega (arith, free, room) in
      let one = (leaf.pushes mid first a b c s m right_has holds within).0 in
      let place : k + length (left ++ right) ≡ mid + 1 = omega (arith, one, length-append left right) in
      let both = subst (λ n. HasAt program n (two_code operation)) place last_has in
      let ends : mid + 1 + length (two_code operation) ≡ k + length ((left ++ right) ++ two_code operation) =
      omega (arith, place, length-append (left ++ right) (two_code operation)) in
      let flipped : of_one (λ x. result_of operation x leaf.leaf) (value e store)
      ≡ of_two (result_of operation) (value e store) (value e' store) =
      right_some (result_of operation) (value e store) leaf.leaf
      ∙ ap (λ q. of_two (result_of operation) (value e store) q) (sym leaf.is) in
      subst (λ q. Reaches (k + length ((left ++ right) ++ two_code operation)) first
      (at s (address k) a b c) m q) flipped
      (ends_at address program ls base size count store (of_one (λ x. result_of operation x leaf.leaf) (value e store))
      (mid + 1 + length (two_code operation)) (k + length ((left ++ right) ++ two_code operation)) first
      (at s (address k) a b c) m ends
      (after (value e store) (λ x. result_of operation x leaf.leaf) mid (mid + 1 + length
      (two_code operation)) first first
      (at s (address k) a b c) m (omega arith)
      (run k first a b c s m (has_front program k left right sides) holds free room)
      (λ x b' c' u w is h' kept. onward address program ls base size count store (result_of operation x leaf.leaf)
      (mid + 1 + length (two_code operation)) first (address (mid + 1)) leaf.leaf x b' (at s (address mid) x b' c') u
      (leaf.pushes mid first x b' c' s u right_has h' within).1
      (two_run address program ls base size count store operation (mid + 1) first leaf.leaf x b' s u both h'))
      word))

  -- the right side first, which is kept, then the left side and the operation
  kept_runs : (operation : TwoOperation) (e e' : Expression) → IsWord (value e store) → IsWord (value e' store)
      → Runs e → Runs e'
      → (k first a b c : ℕ) (s : Cpu) (m : List ℕ)
      → HasAt program k
      (sides_code false k (from first) (λ i n. expression_code i n e) (λ i n. expression_code i n e') ++ two_code
      operation)
      → Held s m → count + base ≤ first → first + max (temporaries_of e + 1) (temporaries_of e') ≤ size
      → Reaches
      (k + length
      (sides_code false k (from first) (λ i n. expression_code i n e) (λ i n. expression_code i n e') ++ two_code
      operation))
      first (at s (address k) a b c) m (of_two (result_of operation) (value e store) (value e' store))
  kept_runs operation e e' word word' run r' k first a b c s m has holds free room =
      let right = expression_code k (from first) e' in
      let mid = k + length right in
      let next = first ⊕ 1 in
      let left = expression_code (mid + 1) (from next) e in
      let back = asm.ldl first ∷ [] in
      let middle = asm.stl first ∷ (left ++ back) in
      let loaded = mid + 1 + length left in
      let last = loaded + 1 + length (two_code operation) in
      let sides = has_front program k (right ++ middle) (two_code operation) has in
      let last_has = has_back program k (right ++ middle) (two_code operation) has in
      let middle_has = has_back program k right middle sides in
      let left_has = has_front program (mid + 1) left back middle_has.1 in
      let back_has = has_back program (mid + 1) left back middle_has.1 in
      let joined = length-append right middle in
      let inner = length-append left back in
      let place : k + length (right ++ middle) ≡ loaded + 1 = omega (arith, joined, inner) in
      let both = subst (λ n. HasAt program n (two_code operation)) place last_has in
      let ends : last ≡ k + length ((right ++ middle) ++ two_code operation) =
      omega (arith, place, length-append (right ++ middle) (two_code operation)) in
      let below : first < size = omega (arith, room) in
      let one_more : next ≡ first + 1 = omega (arith, below, holds.most, holds.memory.most) in
      let room' : first + temporaries_of e' ≤ size = omega (arith, room) in
      let room'' : next + temporaries_of e ≤ size = omega (arith, room, one_more) in
      let free' : count + base ≤ next = omega (arith, free, one_more) in
      ends_at address program ls base size count store (of_two (result_of operation) (value e store) (value e'
      store)) last
      (k + length ((right ++ middle) ++ two_code operation)) first (at s (address k) a b c) m ends
      (after_right (result_of operation) (value e store) (value e' store) mid last first (at s (address k) a b c) m
      (r' k first a b c s m (has_front program k right middle sides) holds free room')
      (λ y b' c' u fits h'.
      let w = s.workspace in
      let v = with_word_in w u first y in
      let f' = λ (x : ℕ). result_of operation x y in
      let held = holds_store w base size count first y store u h' free below in
      later address program ls base size count store (of_one f' (value e store)) last first (address (mid + 1)) b' c' c'
      (at s (address mid) y b' c') u v (stores mid first y b' c' s u middle_has.0 h' below)
      (kept_store w first size y u below)
      (after (value e store) f' loaded last first next (at s (address (mid + 1)) b' c' c') v (omega (arith, one_more))
      (run (mid + 1) next b' c' c' s v left_has held free' room'')
      (λ x b'' c'' z w' is h'' kept.
      let same : word_in w z first ≡ y =
      word_kept w next size first v z kept (omega (arith, one_more))
      ∙ stored_word w base size count first y store u h' below fits in
      onward address program ls base size count store (f' x) last first (address (loaded + 1)) y x b''
      (at s (address loaded) x b'' c'') z
      (subst (λ i. Goes_to (at s (address loaded) x b'' c'') z (at s (address (loaded + 1)) i x b'') z) same
      (loads loaded first x b'' c'' s z back_has.0 h'' below))
      (two_run address program ls base size count store operation (loaded + 1) first y x b'' s z both h''))
      word))
      word')

  -- both sides and an operation on them, whether the right side is a leaf or not
  sides_run : (leaf : Bool) (operation : TwoOperation) (e e' : Expression) → is_leaf e' ≡ leaf → IsWord (value e store)
      → IsWord (value e' store) → Runs e → Runs e' → NamesBelow count e' → (k first a b c : ℕ) (s : Cpu) (m : List ℕ)
      → HasAt program k
      (sides_code leaf k (from first) (λ i n. expression_code i n e) (λ i n. expression_code i n e') ++ two_code
      operation)
      → Held s m → count + base ≤ first
      → first + (if leaf then temporaries_of e else max (temporaries_of e + 1) (temporaries_of e')) ≤ size
      → Reaches
      (k + length
      (sides_code leaf k (from first) (λ i n. expression_code i n e) (λ i n. expression_code i n e') ++ two_code
      operation))
      first (at s (address k) a b c) m (of_two (result_of operation) (value e store) (value e' store))
  sides_run true operation e e' is word word' run r' names k first a b c s m has holds free room =
      leaf_runs operation e e' word run (leaf_of e' is names) k first a b c s m has holds free room
  sides_run false operation e e' is word word' run r' names k first a b c s m has holds free room =
      kept_runs operation e e' word word' run r' k first a b c s m has holds free room

  two_runs : (operation : TwoOperation) (box box' : Box (Unit {0}) Global) (e e' : Expression) → IsWord (value e store)
      → IsWord (value e' store) → Runs e → Runs e' → NamesBelow count e' → Runs (Two' operation box e box' e')
  two_runs operation box box' e e' word word' run r' names k t a b c s m has h free room =
      sides_run (is_leaf e') operation e e' refl word word' run r' names k t a b c s m has h free room

  -- cj, and the right side if it doesn't jump
  and_goes : (zero : Bool) (e' : Expression) (x mid first b c : ℕ) (s : Cpu) (m : List ℕ) → (x == 0) ≡ zero → Runs e'
      → HasAt program mid
      (asm.cj (mid + 1 + length (expression_code (mid + 1) (from first) e')) ∷ expression_code (mid + 1) (from first)
      e')
      → Held s m → count + base ≤ first → first + temporaries_of e' ≤ size
      → Reaches (mid + 1 + length (expression_code (mid + 1) (from first) e')) first (at s (address mid) x b c) m
      (if zero then Some 0 else value e' store)
  and_goes true e' x mid first b c s m is run has holds free room =
      let last = mid + 1 + length (expression_code (mid + 1) (from first) e') in
      subst (λ i. Reaches last first (at s (address mid) i b c) m (Some 0)) (sym (is_zero x is))
      (arrives address program ls base size count store last first 0 b c (at s (address mid) 0 b c) m holds
      (jumps mid last b c s m has.0))
  and_goes false e' x mid first b c s m is run has holds free room =
      let last = mid + 1 + length (expression_code (mid + 1) (from first) e') in
      onward address program ls base size count store (value e' store) last first (address (mid + 1)) b c c
      (at s (address mid) x b c) m (passes mid last x b c s m has.0 is)
      (run (mid + 1) first b c c s m has.1 holds free room)

  and_runs : (box box' : Box (Unit {0}) Global) (e e' : Expression) → IsWord (value e store) → Runs e → Runs e'
      → Runs (And' box e box' e')
  and_runs box box' e e' word run r' k t a b c s m has h free room =
      let left = expression_code k (from t) e in
      let mid = k + length left in
      let right = expression_code (mid + 1) (from t) e' in
      let last = mid + 1 + length right in
      let more = asm.cj last ∷ right in
      ends_at address program ls base size count store (of_one (and_value (value e' store)) (value e store)) last
      (k + length (left ++ more)) t (at s (address k) a b c) m (omega (arith, length-append left more))
      (after (value e store) (and_value (value e' store)) mid last t t (at s (address k) a b c) m (omega arith)
      (run k t a b c s m (has_front program k left more has) h free (omega (arith, room)))
      (λ x b' c' u w is h' kept. and_goes (x == 0) e' x mid t b' c' s u refl r' (has_back program k left more has) h'
      free
      (omega (arith, room)))
      word)

  -- eqc 0 twice
  twice_equals : (k first a b c : ℕ) (s : Cpu) (m : List ℕ) → HasAt program k (asm.eqc 0 ∷ asm.eqc 0 ∷ [])
      → Held s m → Reaches (k + 1 + 1) first (at s (address k) a b c) m (Some (truth (not (a == 0))))
  twice_equals k first a b c s m has holds =
      let q = (a == 0) in
      onward address program ls base size count store (Some (truth (not q))) (k + 1 + 1) first (address (k + 1)) (bit
      q) b c
      (at s (address k) a b c) m (equals address program ls base size count store k 0 a b c s m has.0)
      (subst (λ z. Reaches (k + 1 + 1) first (at s (address (k + 1)) (bit q) b c) m (Some z)) (twice q)
      (last_equals address program ls base size count store (k + 1) first (bit q) b c s m has.1.0 holds))

  -- cj, the right side and whether it isn't 0, if it doesn't jump, and else 1
  or_goes : (zero : Bool) (e' : Expression) (start first b c : ℕ) (s : Cpu) (m : List ℕ) (mid : ℕ) → mid + 1 ≡ start
      → Runs e'
      → slice_get program mid ≡ Some (asm.cj (start + length (expression_code start (from first) e') + 1))
      → HasAt program start (expression_code start (from first) e' ++ asm.eqc 0 ∷ asm.eqc 0 ∷ [])
      → IsWord (value e' store) → Held s m → count + base ≤ first → first + temporaries_of e' ≤ size
      → Reaches (start + length (expression_code start (from first) e') + 1 + 1) first (at s (address mid) (bit zero)
      b c) m
      (if zero then of_one (λ z. Some (truth (not (z == 0)))) (value e' store) else Some 1)
  or_goes true e' start first b c s m mid place run jump has word holds free room =
      let right = expression_code start (from first) e' in
      let more = asm.eqc 0 ∷ asm.eqc 0 ∷ [] in
      let end = start + length right in
      let test : ℕ → Option ℕ = λ z. Some (truth (not (z == 0))) in
      onward address program ls base size count store (of_one test (value e' store)) (end + 1 + 1) first
      (address start) b c c
      (at s (address mid) 1 b c) m
      (subst (λ i. Goes_to (at s (address mid) 1 b c) m (at s (address i) b c c) m) place
      (passes mid (end + 1) 1 b c s m jump refl))
      (after (value e' store) test end (end + 1 + 1) first first (at s (address start) b c c) m (omega arith)
      (run start first b c c s m (has_front program start right more has) holds free room)
      (λ z b' c' u w is h' kept. twice_equals end first z b' c' s u (has_back program start right more has) h')
      word)
  or_goes false e' start first b c s m mid place run jump has word holds free room =
      let right = expression_code start (from first) e' in
      let more = asm.eqc 0 ∷ asm.eqc 0 ∷ [] in
      let end = start + length right in
      onward address program ls base size count store (Some 1) (end + 1 + 1) first (address (end + 1)) 0 b c
      (at s (address mid) 0 b c) m (jumps mid (end + 1) b c s m jump)
      (last_equals address program ls base size count store (end + 1) first 0 b c s m
      (has_back program start right more has).1.0 holds)

  or_runs : (box box' : Box (Unit {0}) Global) (e e' : Expression) → IsWord (value e store) → IsWord (value e' store)
      → Runs e → Runs e' → Runs (Or' box e box' e')
  or_runs box box' e e' word word' run r' k t a b c s m has h free room =
      let left = expression_code k (from t) e in
      let mid = k + length left in
      let start = mid + 2 in
      let right = expression_code start (from t) e' in
      let end = start + length right in
      let tail = right ++ asm.eqc 0 ∷ asm.eqc 0 ∷ [] in
      let more = asm.eqc 0 ∷ asm.cj (end + 1) ∷ tail in
      let place : mid + 1 + 1 ≡ start = omega arith in
      let more_has = has_back program k left more has in
      let tail_has = subst (λ i. HasAt program i tail) place more_has.1.1 in
      ends_at address program ls base size count store (of_one (or_value (value e' store)) (value e store)) (end + 1
      + 1)
      (k + length (left ++ more)) t (at s (address k) a b c) m
      (omega (arith, length-append left more, length-append right (asm.eqc 0 ∷ asm.eqc 0 ∷ [])))
      (after (value e store) (or_value (value e' store)) mid (end + 1 + 1) t t (at s (address k) a b c) m (omega arith)
      (run k t a b c s m (has_front program k left more has) h free (omega (arith, room)))
      (λ x b' c' u w is h' kept. onward address program ls base size count store (or_value (value e' store) x)
      (end + 1 + 1) t
      (address (mid + 1)) (bit (x == 0)) b' c' (at s (address mid) x b' c') u
      (equals address program ls base size count store mid 0 x b' c' s u more_has.0)
      (or_goes (x == 0) e' start t b' c' s u (mid + 1) place r' more_has.1.0 tail_has word' h' free
      (omega (arith, room))))
      word)

  -- the store's words are those of memory
  pub stored : (s : Cpu) (m : List ℕ) → Held s m → (v : ℕ) → v < count → slice_index store v < 2 ^ 32
  stored s m holds v below =
      subst (λ x. x < 2 ^ 32) (holds.variables v below)
      (word_fits m (s.workspace - 0x80000000 + 4 * (v + base)) holds.bytes)

  -- the code of an expression gives its value
  pub runs : (e : Expression) → HasWords e → NamesBelow count e
      → ((v : ℕ) → v < count → slice_index store v < 2 ^ 32) → Runs e
  runs (Number n) words names fits = number_runs n
  runs (Variable v) words names fits = variable_runs v names
  runs (Element' array p e) words names fits =
      element_runs array p e (value_word e count store words names.1 fits) (runs e words names.1 fits) names.0
  runs (One' o p e) words names fits =
      one_runs o p e (value_word e count store words names fits) (runs e words names fits)
  runs (Two' o p e q f) words names fits =
      two_runs o p q e f (value_word e count store words.0 names.0 fits) (value_word f count store words.1 names.1 fits)
      (runs e words.0 names.0 fits) (runs f words.1 names.1 fits) names.1
  runs (And' p e q f) words names fits =
      and_runs p q e f (value_word e count store words.0 names.0 fits) (runs e words.0 names.0 fits)
      (runs f words.1 names.1 fits)
  runs (Or' p e q f) words names fits =
      or_runs p q e f (value_word e count store words.0 names.0 fits) (value_word f count store words.1 names.1 fits)
      (runs e words.0 names.0 fits) (runs f words.1 names.1 fits)
  runs (Below' bound p e) words names fits =
      below_runs bound p e (value_word e count store words names fits) (runs e words names fits)

-- the code that was appended, in any program that has it there
pub gives_value : (old new : List Statement) (words : FrameWords) (e : Expression)
    → new ≡ old ++ expression_code (length old) words e
    → HasWords e → GivesValue (length old) (length new) new words e
gives_value old new words e is fit program same address ls size count store s m ready =
    let k = length old in
    let base = words.base in
    let first = words.temporary in
    let code = expression_code k words e in
    let long : length new ≡ k + length code = ap length is ∙ length-append old code in
    let here = subst (λ l. HasAt l k code) (sym is) (has_all code old) in
    let has = has_same program new code k (λ i from below. same i from (omega (arith, below, long))) here in
    let fits = stored address ready.addresses program ls base size count store s m ready.holds in
    let r =
    runs address ready.addresses program ls base size count store e fit ready.names fits k first s.a s.b s.c s m has
    ready.holds ready.free ready.room in
    let begin : at s (address k) s.a s.b s.c ≡ s = ap (λ i. at s i s.a s.b s.c) (sym ready.here) in
    subst (λ last. Comes address program ls last first base size count store s m (value e store)) (sym long)
    (subst (λ q. Comes address program ls (k + length code) first base size count store q m (value e store)) begin r)
