-- The code of an assignment to an element does what the assignment does: for the law of processes.
use Rattle.std.proofs.Common.{◌≡◌, ℕ, ◌+◌, ◌-◌, ◌*◌, ◌/◌, ◌%◌, ◌^◌, ◌<◌, ◌≤◌, List, [], ◌∷◌, ◌++◌, length, length-append, Ok, refl, sym, ap, ◌∙◌, subst, arith, Bool, true, false, not, nat_le, nat_lt}
use Rattle.std.specs.Prelude.{slice_set, if◌then◌else◌}
use Rattle.node_memory.specs.Bytes.{first_address, with_byte, with_word}
use Rattle.node_memory.specs.Effect.{Gave, tried}
use Rattle.node_memory.specs.Words.{◌⊕◌, ◌⊗◌}
use Rattle.t414_decode.specs.Codes.{operation_of}
use Rattle.t414_decode.specs.declared.instruction.Function.TheVariants.{StoreNonLocal, Operate}
use Rattle.t414_assembly.specs.declared.statement.Operand.TheVariants as operand
use Rattle.t414_assembly.specs.declared.statement.Statement.{Statement}
use Rattle.t414_step.specs.Rows.{row, direct}
use Rattle.occam_core.specs.declared.expression.CoreArray.{CoreArray}
use Rattle.occam_core.specs.declared.expression.ElementKind.{ElementKind}
use Rattle.occam_core.specs.declared.expression.ElementKind.TheVariants as kind
use Rattle.occam_core.specs.declared.expression.Expression.{Expression}
use Rattle.occam_core.specs.declared.process.CoreProcess.TheVariants.{AssignElement}
use Rattle.occam_core.specs.Values.{value}
use Rattle.occam_core.specs.Processes.{Situation, Ended, Erred, value_then, with_element, does}
use Rattle.occam_code.specs.Instructions as asm
use Rattle.occam_code.specs.Expressions.{subscript_code, address_code, expression_code}
use Rattle.occam_code.specs.Code.{store_code}
use Rattle.occam_code.specs.Evaluates.{array_words, word_in}
use Rattle.occam_code.specs.Behaves.{ProcessIsWithin}
use Rattle.occam_code.proofs.Workspace.{with_word_in, word_put, byte_address, element_address, word_kept, stored_word}
use Rattle.occam_code.proofs.Operations.{at, not_below}
use Rattle.occam_code.proofs.Values.{is_less}
use Rattle.occam_code.proofs.Lone.{Lies, lies_front, lies_back, Advances, Proceeds, advances_on, some}
use Rattle.occam_code.proofs.MessageBytes.{byte_put}
use Rattle.occam_code.proofs.StoreBytes.{held_byte}
use Rattle.occam_code.proofs.Behaving.{Ground, from, st, Held, Shows, later, ends_as, ended, rows, stores, evaluates, Runs, held_assigned}
use Rattle.occam_code.proofs.Repeating.{points, checked}
use Rattle.occam_code.proofs.Speaking.{loads_word, constants, held_temporary}

-- a choice by a test, and by its opposite
pub other_way : {A : Type 0} (b : Bool) (x y : A) → (if not b then y else x) ≡ (if b then x else y)
other_way true x y = refl
other_way false x y = refl

-- what holds where a test's opposite fails
pub was_true : (b : Bool) → not b ≡ false → b ≡ true
was_true true is = refl
was_true false is = sym is

module _ (ground : Ground) where
  open ground use {setting as g, program, registers as s, links as ls, base, size, count, own}

  -- wsub
  pub subscripts : (k a b c : ℕ) (m : List ℕ) (now : Situation) (breaks : ℕ) (rest : List Statement)
      → Lies g program k (asm.wsub ∷ rest)
      → Proceeds g program (st ground k a b c m now breaks) (st ground (k + 1) (a ⊕ 4 ⊗ b) c c m now breaks)
  unfolding direct row operation_of
  subscripts k a b c m now breaks rest lies =
      rows ground k a b c (k + 1) (a ⊕ 4 ⊗ b) c c m m now breaks Operate (operand.Number 0x0A) rest lies refl refl

  -- rev
  reverses : (k a b c : ℕ) (m : List ℕ) (now : Situation) (breaks : ℕ) (rest : List Statement)
      → Lies g program k (asm.rev ∷ rest)
      → Proceeds g program (st ground k a b c m now breaks) (st ground (k + 1) b a c m now breaks)
  unfolding direct row operation_of
  reverses k a b c m now breaks rest lies =
      rows ground k a b c (k + 1) b a c m m now breaks Operate (operand.Number 0x00) rest lies refl refl

  -- stnl 0
  stores_far : (k a b c : ℕ) (m u : List ℕ) (now : Situation) (breaks : ℕ) (rest : List Statement)
      → Lies g program k (asm.stnl 0 ∷ rest) → with_word m (a ⊕ 4 ⊗ 0) b ≡ Ok u
      → Proceeds g program (st ground k a b c m now breaks) (st ground (k + 1) c b c u now breaks)
  unfolding direct
  stores_far k a b c m u now breaks rest lies put =
      rows ground k a b c (k + 1) c b c m u now breaks StoreNonLocal (operand.Number 0) rest lies refl
      (ap (λ q. tried q ls m (λ n. Gave (at s (g.address (k + 1)) c b c) ls n)) put)

  -- bsub
  pub subscripts_byte : (k a b c : ℕ) (m : List ℕ) (now : Situation) (breaks : ℕ) (rest : List Statement)
      → Lies g program k (asm.bsub ∷ rest)
      → Proceeds g program (st ground k a b c m now breaks) (st ground (k + 1) (a ⊕ b) c c m now breaks)
  unfolding direct row operation_of
  subscripts_byte k a b c m now breaks rest lies =
      rows ground k a b c (k + 1) (a ⊕ b) c c m m now breaks Operate (operand.Number 0x02) rest lies refl refl

  -- sb
  stores_byte : (k a b c : ℕ) (m u : List ℕ) (now : Situation) (breaks : ℕ) (rest : List Statement)
      → Lies g program k (asm.sb ∷ rest) → with_byte m a (b % 2 ^ 8) ≡ Ok u
      → Proceeds g program (st ground k a b c m now breaks) (st ground (k + 1) c b c u now breaks)
  unfolding direct row operation_of
  stores_byte k a b c m u now breaks rest lies put =
      rows ground k a b c (k + 1) c b c m u now breaks Operate (operand.Number 0x3B) rest lies refl
      (ap (λ q. tried q ls m (λ n. Gave (at s (g.address (k + 1)) c b c) ls n)) put)

  -- a situation with another value of an element
  abbrev with_put : ElementKind → ℕ → ℕ → ℕ → Situation → Situation
  with_put element_kind first number y now = record now { store = with_element element_kind first now.store number y }

  -- a value, that is kept, to the element whose subscript is in A
  record IsPut (element_kind : ElementKind) (first number y k b : ℕ) (m : List ℕ) (now : Situation) (breaks : ℕ) :
      Type 0 where
    memory : List ℕ
    goes :
        Advances g program (st ground k number b b m now breaks)
        (st ground (k + 5) b y b memory (with_put element_kind first number y now) breaks)
    held : Held ground memory (with_put element_kind first number y now)

  -- how it is put
  put_element : (element_kind : ElementKind) (first long k spare y number b : ℕ) (m : List ℕ) (now : Situation)
      (breaks : ℕ)
      → Lies g program k
      (asm.ldlp (first ⊕ base) ∷ subscript_code element_kind ∷ asm.ldl spare ∷ asm.rev ∷ store_code element_kind ∷ [])
      → Held ground m now → first + array_words element_kind long ≤ count → count + base ≤ size → spare < size →
      number < long
      → word_in s.workspace m spare ≡ y → y < 2 ^ 32 → IsPut element_kind first number y k b m now breaks
  put_element kind.Word first long k spare y number b m now breaks lies held within room below inside kept fits =
      let start = s.workspace ⊕ 4 ⊗ (first ⊕ base) in
      let a = start ⊕ 4 ⊗ number in
      let j = first + number + base in
      let u = with_word_in s.workspace m j y in
      let under : first + number < count = omega (arith, within, inside) in
      let here : j < size = omega (arith, under, room) in
      let put : with_word m (a ⊕ 4 ⊗ 0) y ≡ Ok u =
      ap (λ i. with_word m i y) (element_address s.workspace first number base size count now.store m held.holds here)
      ∙ word_put s.workspace base size count j y now.store m held.holds here in
      let last = store_code kind.Word ∷ [] in
      let rest = asm.ldl spare ∷ asm.rev ∷ last in
      let place : k + 1 + 1 + 1 + 1 + 1 ≡ k + 5 = omega arith in
      let p = st ground k number b b m now breaks in
      let p1 = st ground (k + 1) start number b m now breaks in
      let p2 = st ground (k + 1 + 1) a b b m now breaks in
      let p3 = st ground (k + 1 + 1 + 1) y a b m now breaks in
      let p4 = st ground (k + 1 + 1 + 1 + 1) a y b m now breaks in
      let p5 = st ground (k + 1 + 1 + 1 + 1 + 1) b y b u (with_put kind.Word first number y now) breaks in
      record {
        memory = u;
        goes =
            subst (λ i. Advances g program p (st ground i b y b u (with_put kind.Word first number y now) breaks)) place
            (advances_on g program p p1 p5 (some g program p p1
            (points ground k (first ⊕ base) number b b m now breaks (subscript_code kind.Word ∷ rest) lies))
            (advances_on g program p1 p2 p5 (some g program p1 p2
            (subscripts (k + 1) start number b m now breaks rest lies.2))
            (advances_on g program p2 p3 p5
            (some g program p2 p3 (loads_word ground (k + 1 + 1) spare y a b b m now breaks (asm.rev ∷ last) lies.2.2
            held below kept))
            (advances_on g program p3 p4 p5
            (some g program p3 p4 (reverses (k + 1 + 1 + 1) y a b m now breaks last lies.2.2.2))
            (some g program p4 p5 (stores_far (k + 1 + 1 + 1 + 1) a y b m u now breaks [] lies.2.2.2.2 put))))));
        held = held_assigned ground (first + number) y m now held under room fits;
      }
  put_element kind.Byte first long k spare y number b m now breaks lies held within room below inside kept fits =
      let start = s.workspace ⊕ 4 ⊗ (first ⊕ base) in
      let a = start ⊕ number in
      let i = 4 * first + number in
      let o = s.workspace - first_address + 4 * base in
      let byte = y % 2 ^ 8 in
      let u = slice_set m (o + i) byte in
      let under : first + number / 4 < count = omega (arith, within, inside) in
      let among : i < 4 * count = omega (arith, under) in
      let h = held.holds in
      let here : a ≡ s.workspace + 4 * (first + base) + number =
      byte_address s.workspace first number base size count now.store m h (omega (arith, under, room)) in
      let put : with_byte m a byte ≡ Ok u =
      ap (λ q. with_byte m q byte) here
      ∙ byte_put m (s.workspace + 4 * (first + base) + number) byte (omega (arith, h.least))
      (omega (arith, h.least, h.most, under, room))
      ∙ ap (λ q. Ok (slice_set m q byte)) (omega (arith, h.least)) in
      let last = store_code kind.Byte ∷ [] in
      let rest = asm.ldl spare ∷ asm.rev ∷ last in
      let place : k + 1 + 1 + 1 + 1 + 1 ≡ k + 5 = omega arith in
      let p = st ground k number b b m now breaks in
      let p1 = st ground (k + 1) start number b m now breaks in
      let p2 = st ground (k + 1 + 1) a b b m now breaks in
      let p3 = st ground (k + 1 + 1 + 1) y a b m now breaks in
      let p4 = st ground (k + 1 + 1 + 1 + 1) a y b m now breaks in
      let p5 = st ground (k + 1 + 1 + 1 + 1 + 1) b y b u (with_put kind.Byte first number y now) breaks in
      record {
        memory = u;
        goes =
            subst (λ q. Advances g program p (st ground q b y b u (with_put kind.Byte first number y now) breaks)) place
            (advances_on g program p p1 p5 (some g program p p1
            (points ground k (first ⊕ base) number b b m now breaks (subscript_code kind.Byte ∷ rest) lies))
            (advances_on g program p1 p2 p5 (some g program p1 p2
            (subscripts_byte (k + 1) start number b m now breaks rest lies.2))
            (advances_on g program p2 p3 p5
            (some g program p2 p3 (loads_word ground (k + 1 + 1) spare y a b b m now breaks (asm.rev ∷ last) lies.2.2
            held below kept))
            (advances_on g program p3 p4 p5
            (some g program p3 p4 (reverses (k + 1 + 1 + 1) y a b m now breaks last lies.2.2.2))
            (some g program p4 p5 (stores_byte (k + 1 + 1 + 1 + 1) a y b m u now breaks [] lies.2.2.2.2 put))))));
        held = held_byte ground i byte m now held among room (omega arith);
      }

  -- a value, that is kept, to the element whose subscript is in A, if the array has it
  puts : (inside : Bool) (array : CoreArray) (n k spare y number b c : ℕ) (m : List ℕ) (now : Situation) (breaks : ℕ)
      → nat_lt number array.length ≡ inside
      → Lies g program k
      (address_code base array ++ asm.ldl spare ∷ asm.rev ∷ store_code array.kind ∷ [])
      → Held ground m now → array.first + array_words array.kind array.length ≤ count → count + base ≤ size → spare <
      size
      → word_in s.workspace m spare ≡ y → y < 2 ^ 32
      → Shows ground n (k + 7) (st ground k number b c m now breaks)
      (if inside then Ended (with_put array.kind array.first number y now) else Erred now.talk)
  puts inside array n k spare y number b c m now breaks is lies held within room below kept fits =
      let course = Ended (with_put array.kind array.first number y now) in
      let p = st ground k number b c m now breaks in
      let p1 = st ground (k + 1) array.length number b m now breaks in
      let p2 = st ground (k + 1 + 1) number b b m now breaks in
      let rest = asm.ldlp (array.first ⊕ base) ∷ subscript_code array.kind ∷ asm.ldl spare ∷ asm.rev
      ∷ store_code array.kind ∷ [] in
      let place : k + 1 + 1 + 5 ≡ k + 7 = omega arith in
      let test : nat_le array.length number ≡ not inside = not_below number array.length ∙ ap not is in
      later ground (if inside then course else Erred now.talk) n (k + 7) p p1
      (some g program p p1 (constants ground k array.length number b c m now breaks (asm.csub0 ∷ rest) lies))
      (subst (λ o. Shows ground n (k + 7) p1 o) (other_way inside course (Erred now.talk))
      (checked ground (not inside) course n (k + 7) (k + 1) array.length number b m now breaks rest lies.2 test
      (λ fine.
      let put = put_element array.kind array.first array.length (k + 1 + 1) spare y number b m now breaks lies.2.2
      held within room below
      (is_less number array.length (is ∙ was_true inside fine)) kept fits in
      ends_as ground course n (k + 1 + 1 + 5) (k + 7) p2 place
      (ended ground n (k + 1 + 1 + 5) b y b put.memory (with_put array.kind array.first number y now) breaks p2
      put.goes put.held))))

  -- an assignment to an element
  pub assign_element_runs : (array : CoreArray) (i e : Expression) → ProcessIsWithin count (AssignElement array i e)
      → Runs ground (AssignElement array i e)
  assign_element_runs array i e fit n k t a b c m x r lies held free room =
      let next = t ⊕ 1 in
      let code = expression_code k (from ground t) e in
      let mid = k + length code in
      let start = mid + 1 in
      let second = expression_code start (from ground next) i in
      let check = start + length second in
      let back = address_code base array ++ asm.ldl t ∷ asm.rev ∷ store_code array.kind ∷ [] in
      let more = asm.stl t ∷ (second ++ back) in
      let below : t < size = omega (arith, room) in
      let h = held.holds in
      let one_more : next ≡ t + 1 = omega (arith, below, h.most, h.memory.most) in
      let inside : count + base ≤ size = omega (arith, free, room) in
      let more_lies = lies_back g program k code more lies in
      let put = λ (y number : ℕ). if nat_lt number array.length then Ended (with_put array.kind array.first number y x)
      else Erred x.talk in
      ends_as ground (does n (AssignElement array i e) x) n (check + 7) (k + length (code ++ more))
      (st ground k a b c m x r)
      (omega (arith, length-append code more, length-append second back))
      (evaluates ground e (λ y. value_then (value i x.store) x.talk (put y)) n (check + 7) k t a b c m x r fit.2
      (lies_front g program k code more lies) held free (omega (arith, room))
      (λ y b' c' u fits held' kept.
      let v = with_word_in s.workspace u t y in
      let held'' = held_temporary ground t y u x held' free below in
      later ground (value_then (value i x.store) x.talk (put y)) n (check + 7) (st ground mid y b' c' u x r)
      (st ground start b' c' c' v x r)
      (some g program (st ground mid y b' c' u x r) (st ground start b' c' c' v x r)
      (stores ground mid t y b' c' u x r (second ++ back) more_lies held' below))
      (evaluates ground i (put y) n (check + 7) start next b' c' c' v x r fit.1
      (lies_front g program start second back more_lies.2) held'' (omega (arith, free, one_more))
      (omega (arith, room, one_more))
      (λ number b'' c'' u' fits' held3 kept'.
      let same : word_in s.workspace u' t ≡ y =
      word_kept s.workspace next size t v u' kept' (omega (arith, one_more))
      ∙ stored_word s.workspace base size count t y x.store u held'.holds below fits in
      puts (nat_lt number array.length) array n check t y number b'' c'' u' x r refl
      (lies_back g program start second back more_lies.2) held3 fit.0 inside below same fits))))
