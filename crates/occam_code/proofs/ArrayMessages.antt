-- The code of messages to an element and of an array does what they do: for the law of processes.
use Rattle.std.proofs.Common.{◌≡◌, ℕ, ◌+◌, ◌*◌, ◌<◌, ◌≤◌, List, [], ◌∷◌, ◌++◌, length, length-append, length-take, take, refl, sym, ap, ◌∙◌, subst, arith, Bool, true, false, not, nat_le, nat_lt}
use Rattle.std.specs.Prelude.{if◌then◌else◌}
use Rattle.std.proofs.lemmas.Bool.Decides.{nat_tests}
use Rattle.node_memory.specs.Words.{◌⊕◌, ◌⊗◌}
use Rattle.t414_decode.specs.Codes.{operation_of}
use Rattle.t414_decode.specs.declared.instruction.Function.TheVariants.{Operate}
use Rattle.t414_assembly.specs.declared.statement.Operand.TheVariants as operand
use Rattle.t414_assembly.specs.declared.statement.Statement.{Statement}
use Rattle.occam_core.specs.declared.channel.CoreChannel.TheVariants.{Link}
use Rattle.occam_core.specs.declared.expression.CoreArray.{CoreArray}
use Rattle.occam_core.specs.declared.expression.ElementKind.{ElementKind}
use Rattle.occam_core.specs.declared.expression.ElementKind.TheVariants as kind
use Rattle.occam_core.specs.declared.expression.Expression.{Expression}
use Rattle.occam_core.specs.declared.process.CoreProcess.TheVariants.{InputElement, InputArray, OutputArray}
use Rattle.occam_core.specs.Values.{value}
use Rattle.occam_core.specs.Processes.{Said, Situation, Course, Ended, Erred, Awaits, value_then, heard, with_bytes_in, bytes_of_store, bytes_of_element, array_size, received}
use Rattle.occam_code.specs.Instructions as asm
use Rattle.occam_code.specs.Expressions.{subscript_code, address_code, expression_code}
use Rattle.occam_code.specs.Guards.{channel_code}
use Rattle.occam_code.specs.Code.{bytes_of, array_bytes}
use Rattle.occam_code.specs.Machine.{done_at}
use Rattle.occam_code.specs.Evaluates.{array_words}
use Rattle.occam_code.specs.Alone.{Running, Says, after_others, and_then, with_bytes, bytes_at, channel_at, say, left_after}
use Rattle.occam_code.specs.Behaves.{IsWithin}
use Rattle.occam_code.proofs.Operations.{not_below}
use Rattle.occam_code.proofs.Values.{is_less}
use Rattle.occam_code.proofs.Lone.{Lies, lies_front, lies_back, Advances, waits, advances_on, some, one_on, staged}
use Rattle.occam_code.proofs.MessageBytes.{channel_word, output_of, rest_bytes}
use Rattle.occam_code.proofs.StoreBytes.{filled, bytes_found, first_bytes}
use Rattle.occam_code.proofs.Behaving.{Ground, from, st, Held, Shows, later, ends_as, ended, evaluates, Runs}
use Rattle.occam_code.proofs.Repeating.{points, checked}
use Rattle.occam_code.proofs.Speaking.{constants, channel_runs}
use Rattle.occam_code.proofs.Hearing.{listens_on, input_stage}
use Rattle.occam_code.proofs.Elements.{subscripts, subscripts_byte, other_way, was_true}

-- as many bytes come as are taken
enough_come : (count : ℕ) (coming : List ℕ) → nat_le count (length coming) ≡ true → count ≤ length coming
enough_come count coming is = grind (arith, nat_tests)

-- an array's bytes are within its words
pub size_fits : (element_kind : ElementKind) (long : ℕ) → long * bytes_of_element element_kind ≤ 4 * array_words
    element_kind long
size_fits kind.Byte long = omega arith
size_fits kind.Word long = omega arith

-- an element's bytes are within the words of its array
element_fits : (element_kind : ElementKind) (first long number : ℕ) → number < long
    → 4 * first + number * bytes_of_element element_kind + bytes_of_element element_kind
    ≤ 4 * (first + array_words element_kind long)
element_fits kind.Byte first long number below = omega (arith, below)
element_fits kind.Word first long number below = omega (arith, below)

-- the operand of a message of an array
pub operand_is : (element_kind : ElementKind) (long : ℕ) → 4 * array_words element_kind long ≤ 65536
    → bytes_of element_kind long ≡ long * bytes_of_element element_kind
operand_is kind.Byte long fits = omega arith
operand_is kind.Word long fits = omega (arith, fits)

-- the operand of a message to an element
one_is : (element_kind : ElementKind) → bytes_of element_kind 1 ≡ bytes_of_element element_kind
one_is kind.Byte = refl
one_is kind.Word = refl

module _ (ground : Ground) where
  open ground use {setting as g, program, registers as s, links as ls, base, size, count}

  -- in, to bytes of the variables
  hears_bytes : (enough : Bool) (n c many i pointer k : ℕ) (m : List ℕ) (now : Situation) (breaks : ℕ)
      (rest : List Statement) → 4 ≤ c → c < 8 → Lies g program k (asm.in ∷ rest)
      → nat_le many (length now.coming) ≡ enough → pointer ≡ s.workspace + 4 * base + i → Held ground m now
      → i + many ≤ 4 * count → count + base ≤ size
      → Shows ground n (k + 1) (st ground k many (channel_word c) pointer m now breaks)
      (if enough
      then Ended (record (heard c many now) { store = with_bytes_in now.store i (take many now.coming) })
      else Awaits now.talk)
  hears_bytes true n c many i pointer k m now breaks rest least below lies is here held within room =
      let bytes = take many now.coming in
      let long : length bytes ≤ many = omega (arith, length-take many now.coming) in
      let fill = filled ground bytes i m now held (omega (arith, within, long)) room
      (first_bytes many now.coming held.bytes) in
      let end = record (heard c many now) { store = with_bytes_in now.store i bytes } in
      let p = st ground k many (channel_word c) pointer m now breaks in
      let next = st ground (k + 1) many (channel_word c) pointer m now breaks in
      let any = g.others breaks in
      let last = st ground (k + 1) any.0 any.1 any.2 fill.memory end (breaks + 1) in
      ended ground n (k + 1) any.0 any.1 any.2 fill.memory end (breaks + 1) p
      (some g program p last
      (one_on g program p last
      (input_stage ground true many c pointer k m now breaks rest least below lies is
      ∙ ap (λ q. and_then q next
      (λ u. Running (after_others g (st ground (k + 1) many (channel_word c) pointer u (heard c many now) breaks))))
      (ap (λ a. with_bytes m a bytes) here ∙ fill.put))))
      (record {
        holds = fill.held.holds;
        kept = fill.held.kept;
        long = fill.held.long;
        bytes = rest_bytes many now.coming held.bytes;
      })
  hears_bytes false n c many i pointer k m now breaks rest least below lies is here held within room =
      let p = st ground k many (channel_word c) pointer m now breaks in
      listens_on ground p p (waits g program p)
      (input_stage ground false many c pointer k m now breaks rest least below lies is)

  -- the channel of an input whose address is in A, the number of bytes, and in
  receives : (n c many i pointer spare k a b : ℕ) (m : List ℕ) (now : Situation) (breaks : ℕ) → 4 ≤ c → c < 8
      → Lies g program k (channel_code (from ground spare) (Link c) ++ asm.ldc many ∷ asm.in ∷ [])
      → pointer ≡ s.workspace + 4 * base + i → Held ground m now → i + many ≤ 4 * count → count + base ≤ size
      → Shows ground n (k + length (channel_code (from ground spare) (Link c)) + 1 + 1)
      (st ground k pointer a b m now breaks) (received c many i now)
  receives n c many i pointer spare k a b m now breaks least below lies here held within room =
      let channel = channel_code (from ground spare) (Link c) in
      let back = asm.ldc many ∷ asm.in ∷ [] in
      let mid = k + length channel in
      let p = st ground k pointer a b m now breaks in
      let p1 = st ground mid (channel_word c) pointer a m now breaks in
      let p2 = st ground (mid + 1) many (channel_word c) pointer m now breaks in
      let back_lies = lies_back g program k channel back lies in
      later ground (received c many i now) n (mid + 1 + 1) p p2
      (advances_on g program p p1 p2
      (channel_runs ground c spare k pointer a b m now breaks (lies_front g program k channel back lies))
      (some g program p1 p2
      (constants ground mid many (channel_word c) pointer a m now breaks (asm.in ∷ []) back_lies)))
      (hears_bytes (nat_le many (length now.coming)) n c many i pointer (mid + 1) m now breaks [] least below
      back_lies.2 refl here held within room)

  -- where an array begins
  pub array_at : (first : ℕ) (m : List ℕ) (now : Situation) → Held ground m now → first + base ≤ size
      → s.workspace ⊕ 4 ⊗ (first ⊕ base) ≡ s.workspace + 4 * base + 4 * first
  array_at first m now held within =
      let h = held.holds in
      let next : first ⊕ base ≡ first + base = omega (arith, h.most, h.memory.most, within) in
      ap (λ j. s.workspace ⊕ 4 ⊗ j) next ∙ omega (arith, h.least, h.most, h.memory.most, within)

  -- an array's words are in memory
  pub words_fit : (words : ℕ) (m : List ℕ) (now : Situation) → Held ground m now → words ≤ count → count + base ≤ size
      → 4 * words ≤ 65536
  words_fit words m now held within room = omega (arith, held.holds.most, held.holds.memory.most, within, room)

  -- an input of an array
  pub input_array_runs : (c : ℕ) (array : CoreArray) → 4 ≤ c → c < 8
      → array.first + array_words array.kind array.length ≤ count → Runs ground (InputArray (Link c) array)
  input_array_runs c array least below within n k spare a b d m now breaks lies held free room =
      let channel = channel_code (from ground spare) (Link c) in
      let many = array_size array in
      let inside : count + base ≤ size = omega (arith, free, room) in
      let fits = words_fit (array_words array.kind array.length) m now held (omega (arith, within)) inside in
      let same = operand_is array.kind array.length fits in
      let back = asm.ldc (array_bytes array) ∷ asm.in ∷ [] in
      let code = asm.ldlp (array.first ⊕ base) ∷ (channel ++ back) in
      let lies' = subst (λ j. Lies g program k (asm.ldlp (array.first ⊕ base) ∷ (channel ++ asm.ldc j ∷ asm.in ∷ [])))
      same lies in
      let pointer = s.workspace ⊕ 4 ⊗ (array.first ⊕ base) in
      let p = st ground k a b d m now breaks in
      let p1 = st ground (k + 1) pointer a b m now breaks in
      ends_as ground (received c many (4 * array.first) now) n (k + 1 + length channel + 1 + 1) (k + length code) p
      (omega (arith, length-append channel back))
      (later ground (received c many (4 * array.first) now) n (k + 1 + length channel + 1 + 1) p p1
      (some g program p p1
      (points ground k (array.first ⊕ base) a b d m now breaks (channel ++ asm.ldc many ∷ asm.in ∷ []) lies'))
      (receives n c many (4 * array.first) pointer spare (k + 1) a b m now breaks least below lies'.2
      (array_at array.first m now held (omega (arith, within, inside))) held
      (omega (arith, size_fits array.kind array.length, within)) inside))

  -- out, of bytes of the variables
  sends_bytes : (c many i pointer k : ℕ) (m : List ℕ) (now : Situation) (breaks : ℕ)
      (rest : List Statement) → c < 4 → Lies g program k (asm.operation 0x0B ∷ rest)
      → pointer ≡ s.workspace + 4 * base + i → Held ground m now → i + many ≤ 4 * count → count + base ≤ size
      → Advances g program (st ground k many (channel_word c) pointer m now breaks)
      (st ground (k + 1) (g.others breaks).0 (g.others breaks).1 (g.others breaks).2 m
      (record now { talk = now.talk ++ Said c (bytes_of_store many now.store i) ∷ [] }) (breaks + 1))
  unfolding operation_of
  sends_bytes c many i pointer k m now breaks rest below lies here held within room =
      let p = st ground k many (channel_word c) pointer m now breaks in
      let next = st ground (k + 1) many (channel_word c) pointer m now breaks in
      let other = left_after (done_at g.address k Operate (operand.Number 0x0B) p.registers ls m) p Running in
      let output = output_of c below in
      let bytes = bytes_of_store many now.store i in
      let any = g.others breaks in
      let end = st ground (k + 1) any.0 any.1 any.2 m (record now { talk = now.talk ++ Said c bytes ∷ [] })
      (breaks + 1) in
      some g program p end
      (one_on g program p end
      (staged g program k p Operate (operand.Number 0x0B) Says refl lies.0 lies.1 refl
      ∙ ap (λ q. say g q many pointer next other) output.kind
      ∙ ap (λ q. and_then q next (λ l. Running (after_others g
      (record next { talk = now.talk ++ Said (channel_at (channel_word c)) l ∷ [] }))))
      (ap (λ q. bytes_at many m q) here ∙ bytes_found ground many i m now held within room)
      ∙ ap (λ q. Running (after_others g (record next { talk = now.talk ++ Said q bytes ∷ [] }))) output.number))

  -- an output of an array
  pub output_array_runs : (c : ℕ) (array : CoreArray) → c < 4
      → array.first + array_words array.kind array.length ≤ count → Runs ground (OutputArray (Link c) array)
  output_array_runs c array below within n k spare a b d m now breaks lies held free room =
      let channel = channel_code (from ground spare) (Link c) in
      let many = array_size array in
      let i = 4 * array.first in
      let inside : count + base ≤ size = omega (arith, free, room) in
      let fits = words_fit (array_words array.kind array.length) m now held (omega (arith, within)) inside in
      let same = operand_is array.kind array.length fits in
      let back = asm.ldc (array_bytes array) ∷ asm.operation 0x0B ∷ [] in
      let back' = asm.ldc many ∷ asm.operation 0x0B ∷ [] in
      let code = asm.ldlp (array.first ⊕ base) ∷ (channel ++ back) in
      let lies' = subst (λ j. Lies g program k
      (asm.ldlp (array.first ⊕ base) ∷ (channel ++ asm.ldc j ∷ asm.operation 0x0B ∷ []))) same lies in
      let pointer = s.workspace ⊕ 4 ⊗ (array.first ⊕ base) in
      let mid = k + 1 + length channel in
      let back_lies = lies_back g program (k + 1) channel back' lies'.2 in
      let any = g.others breaks in
      let talk = now.talk ++ Said c (bytes_of_store many now.store i) ∷ [] in
      let end = record now { talk = talk } in
      let p = st ground k a b d m now breaks in
      let p1 = st ground (k + 1) pointer a b m now breaks in
      let p2 = st ground mid (channel_word c) pointer a m now breaks in
      let p3 = st ground (mid + 1) many (channel_word c) pointer m now breaks in
      let p4 = st ground (mid + 1 + 1) any.0 any.1 any.2 m end (breaks + 1) in
      ends_as ground (Ended end) n (mid + 1 + 1) (k + length code) p (omega (arith, length-append channel back))
      (ended ground n (mid + 1 + 1) any.0 any.1 any.2 m end (breaks + 1) p
      (advances_on g program p p1 p4
      (some g program p p1 (points ground k (array.first ⊕ base) a b d m now breaks (channel ++ back') lies'))
      (advances_on g program p1 p2 p4
      (channel_runs ground c spare (k + 1) pointer a b m now breaks
      (lies_front g program (k + 1) channel back' lies'.2))
      (advances_on g program p2 p3 p4
      (some g program p2 p3
      (constants ground mid many (channel_word c) pointer a m now breaks (asm.operation 0x0B ∷ []) back_lies))
      (sends_bytes c many i pointer (mid + 1) m now breaks [] below back_lies.2
      (array_at array.first m now held (omega (arith, within, inside))) held
      (omega (arith, size_fits array.kind array.length, within)) inside))))
      (record { holds = held.holds; kept = held.kept; long = held.long; bytes = held.bytes }))

  -- the address of an element whose subscript is in A
  element_at : (element_kind : ElementKind) (first number : ℕ) (m : List ℕ) (now : Situation) → Held ground m now
      → 4 * first + number * bytes_of_element element_kind + bytes_of_element element_kind ≤ 4 * count
      → count + base ≤ size
      → (pointer : ℕ) × (pointer ≡ s.workspace + 4 * base + (4 * first + number * bytes_of_element element_kind))
      × ((k b : ℕ) (breaks : ℕ) (rest : List Statement) → Lies g program k (subscript_code element_kind ∷ rest)
      → Advances g program (st ground k (s.workspace ⊕ 4 ⊗ (first ⊕ base)) number b m now breaks)
      (st ground (k + 1) pointer b b m now breaks))
  element_at kind.Byte first number m now held within room =
      let h = held.holds in
      let start = s.workspace ⊕ 4 ⊗ (first ⊕ base) in
      let at = array_at first m now held (omega (arith, within, room)) in (
        start ⊕ number,
        ap (λ a. a ⊕ number) at ∙ omega (arith, h.least, h.most, h.memory.most, within, room),
        λ k b breaks rest lies. some g program (st ground k start number b m now breaks)
            (st ground (k + 1) (start ⊕ number) b b m now breaks)
            (subscripts_byte ground k start number b m now breaks rest lies),
      )
  element_at kind.Word first number m now held within room =
      let h = held.holds in
      let start = s.workspace ⊕ 4 ⊗ (first ⊕ base) in
      let at = array_at first m now held (omega (arith, within, room)) in (
        start ⊕ 4 ⊗ number,
        ap (λ a. a ⊕ 4 ⊗ number) at ∙ omega (arith, h.least, h.most, h.memory.most, within, room),
        λ k b breaks rest lies. some g program (st ground k start number b m now breaks)
            (st ground (k + 1) (start ⊕ 4 ⊗ number) b b m now breaks)
            (subscripts ground k start number b m now breaks rest lies),
      )

  -- an input of an element, from its subscript in A
  receives_element : (inside : Bool) (n c : ℕ) (array : CoreArray) (spare k number b d : ℕ) (m : List ℕ)
      (now : Situation) (breaks : ℕ) → nat_lt number array.length ≡ inside → 4 ≤ c → c < 8
      → Lies g program k
      (address_code base array
      ++ (channel_code (from ground spare) (Link c) ++ asm.ldc (bytes_of_element array.kind) ∷ asm.in ∷ []))
      → Held ground m now → array.first + array_words array.kind array.length ≤ count → count + base ≤ size
      → Shows ground n (k + 4 + length (channel_code (from ground spare) (Link c)) + 1 + 1)
      (st ground k number b d m now breaks)
      (if inside
      then received c (bytes_of_element array.kind) (4 * array.first + number * bytes_of_element array.kind) now
      else Erred now.talk)
  receives_element inside n c array spare k number b d m now breaks is least below lies held within room =
      let channel = channel_code (from ground spare) (Link c) in
      let many = bytes_of_element array.kind in
      let i = 4 * array.first + number * many in
      let course = received c many i now in
      let back = channel ++ asm.ldc many ∷ asm.in ∷ [] in
      let start = s.workspace ⊕ 4 ⊗ (array.first ⊕ base) in
      let all = k + 4 + length channel + 1 + 1 in
      let mid = k + 1 + 1 in
      let p = st ground k number b d m now breaks in
      let p1 = st ground (k + 1) array.length number b m now breaks in
      let p2 = st ground mid number b b m now breaks in
      let p3 = st ground (mid + 1) start number b m now breaks in
      let rest = asm.ldlp (array.first ⊕ base) ∷ subscript_code array.kind ∷ back in
      let place : mid + 1 + 1 + length channel + 1 + 1 ≡ all = omega arith in
      let test : nat_le array.length number ≡ not inside = not_below number array.length ∙ ap not is in
      later ground (if inside then course else Erred now.talk) n all p p1
      (some g program p p1 (constants ground k array.length number b d m now breaks (asm.csub0 ∷ rest) lies))
      (subst (λ o. Shows ground n all p1 o) (other_way inside course (Erred now.talk))
      (checked ground (not inside) course n all (k + 1) array.length number b m now breaks rest lies.2 test
      (λ fine.
      let fits = element_fits array.kind array.first array.length number
      (is_less number array.length (is ∙ was_true inside fine)) in
      let there = element_at array.kind array.first number m now held (omega (arith, fits, within)) room in
      let p4 = st ground (mid + 1 + 1) there.0 b b m now breaks in
      later ground course n all p2 p4
      (advances_on g program p2 p3 p4
      (some g program p2 p3
      (points ground mid (array.first ⊕ base) number b b m now breaks (subscript_code array.kind ∷ back) lies.2.2))
      (there.2 (mid + 1) b breaks back lies.2.2.2))
      (ends_as ground course n (mid + 1 + 1 + length channel + 1 + 1) all p4 place
      (receives n c many i there.0 spare (mid + 1 + 1) b b m now breaks least below lies.2.2.2.2 there.1 held
      (omega (arith, fits, within)) room)))))

  -- an input of an element
  pub input_element_runs : (c : ℕ) (array : CoreArray) (e : Expression) → 4 ≤ c → c < 8
      → array.first + array_words array.kind array.length ≤ count → IsWithin count e
      → Runs ground (InputElement (Link c) array e)
  input_element_runs c array e least below within fit n k spare a b d m now breaks lies held free room =
      let place : k + 0 ≡ k = omega arith in
      let channel = channel_code (from ground spare) (Link c) in
      let many = bytes_of_element array.kind in
      let code = expression_code k (from ground spare) e in
      let back = address_code base array ++ (channel ++ asm.ldc (bytes_of array.kind 1) ∷ asm.in ∷ []) in
      let back' = address_code base array ++ (channel ++ asm.ldc many ∷ asm.in ∷ []) in
      let mid = k + length code in
      let inside : count + base ≤ size = omega (arith, free, room) in
      let whole : ℕ → List Statement = λ i. expression_code i (from ground spare) e ++ back in
      let lies1 : Lies g program k (code ++ back) = subst (λ i. Lies g program k (whole i)) place lies in
      let lies2 : Lies g program k (code ++ back') =
      subst (λ j. Lies g program k (code ++ (address_code base array ++ (channel ++ asm.ldc j ∷ asm.in ∷ []))))
      (one_is array.kind) lies1 in
      let go : ℕ → Course = λ number. if nat_lt number array.length
      then received c many (4 * array.first + number * many) now else Erred now.talk in
      let course = value_then (value e now.store) now.talk go in
      subst (λ i. Shows ground n (k + length (whole i)) (st ground k a b d m now breaks) course) (sym place)
      (ends_as ground course n (mid + 4 + length channel + 1 + 1) (k + length (code ++ back))
      (st ground k a b d m now breaks)
      (omega (arith, length-append code back, length-append channel (asm.ldc (bytes_of array.kind 1) ∷ asm.in ∷ [])))
      (evaluates ground e go n (mid + 4 + length channel + 1 + 1) k spare a b d m now breaks fit
      (lies_front g program k code back' lies2) held free room
      (λ number b' d' u fits held' kept. receives_element (nat_lt number array.length) n c array spare mid number b'
      d' u
      now breaks refl least below (lies_back g program k code back' lies2) held' within inside)))
