-- The code of an output by a link says what the output says: for the law of processes.
use Rattle.std.proofs.Common.{◌≡◌, ℕ, ◌+◌, ◌-◌, ◌*◌, ◌<◌, ◌≤◌, inl, List, [], ◌∷◌, ◌++◌, length, length-append, Some, Ok, refl, sym, ap, ◌∙◌, subst, arith, Bool, true, false, max}
use Rattle.std.specs.Prelude.{◌==◌, slice_index, if◌then◌else◌}
use Rattle.node_memory.specs.Bytes.{first_address, with_word, with_word_from}
use Rattle.node_memory.specs.Effect.{Gave, tried}
use Rattle.node_memory.specs.Words.{◌⊕◌, ◌⊗◌}
use Rattle.link_channels.specs.Kinds.{kind_of}
use Rattle.t414_decode.specs.Codes.{operation_of}
use Rattle.t414_decode.specs.declared.instruction.Function.TheVariants.{LoadConstant, LoadLocal, LoadNonLocalPointer, Operate}
use Rattle.t414_assembly.specs.declared.statement.Operand.TheVariants as operand
use Rattle.t414_assembly.specs.declared.statement.Statement.{Statement}
use Rattle.t414_step.specs.Rows.{direct}
use Rattle.occam_core.specs.declared.channel.CoreChannel.TheVariants.{Link}
use Rattle.occam_core.specs.declared.channel.MessageKind.{MessageKind}
use Rattle.occam_core.specs.declared.channel.MessageKind.TheVariants as message
use Rattle.occam_core.specs.declared.expression.Expression.{Expression}
use Rattle.occam_core.specs.declared.expression.Expression.TheVariants.{Number, Variable, Element', One', Two', And', Or', Below'}
use Rattle.occam_core.specs.declared.process.CoreProcess.TheVariants.{Output}
use Rattle.occam_core.specs.Values.{value}
use Rattle.occam_core.specs.Processes.{Said, Situation, Ended, value_then, bytes_in, bytes_said}
use Rattle.occam_code.specs.Instructions as asm
use Rattle.occam_code.specs.Words.{is_leaf, temporaries_of}
use Rattle.occam_code.specs.Expressions.{expression_code}
use Rattle.occam_code.specs.Guards.{channel_code}
use Rattle.occam_code.specs.Code.{output_operation, send_code}
use Rattle.occam_code.specs.Machine.{done_at}
use Rattle.occam_code.specs.Evaluates.{word_in}
use Rattle.occam_code.specs.Alone.{Running, after_others, and_then, bytes_at, channel_at, say, left_after, SaysValue, manner_of}
use Rattle.occam_code.specs.Behaves.{IsWithin}
use Rattle.occam_code.proofs.Workspace.{word_is, with_word_in, word_put, length-with, bytes_with, stored_word, holds_store}
use Rattle.occam_code.proofs.Operations.{at}
use Rattle.occam_code.proofs.Running.{is_zero}
use Rattle.occam_code.proofs.Lone.{Lies, lies_front, lies_back, Advances, Proceeds, advances_on, some, one_on, staged}
use Rattle.occam_code.proofs.Assigning.{other_word, kept_word}
use Rattle.occam_code.proofs.MessageBytes.{channel_word, output_of, said_bytes}
use Rattle.occam_code.proofs.Behaving.{Ground, from, st, Held, Shows, ends_as, ended, rows, stores, evaluates, Runs}
use Rattle.occam_code.proofs.Repeating.{word_of, least_int}

-- the address of word 0
own_word : (w size long : ℕ) → first_address ≤ w → w - first_address + 4 * size ≤ long → long ≤ 65536 → w ⊕ 4 ⊗ 0 ≡ w
own_word w size long least most bound = omega (arith, least, most, bound)

-- a temporary is written
pub held_temporary : (ground : Ground) (spare y : ℕ) (m : List ℕ) (now : Situation) → Held ground m now →
    ground.count + ground.base ≤ spare → spare < ground.size
    → Held ground (with_word_in ground.registers.workspace m spare y) now
held_temporary ground spare y m now held free below =
    record {
      holds = holds_store ground.registers.workspace ground.base ground.size ground.count spare y now.store m
          held.holds free below;
      kept = kept_word ground.registers.workspace ground.size spare y ground.begun m held.kept below;
      long = held.long;
      bytes = held.bytes;
    }

module _ (ground : Ground) where
  open ground use {setting as g, program, registers as s, links as ls, base, size, count, own}

  -- ldl of any word of the workspace
  pub loads_word : (k j y a b c : ℕ) (m : List ℕ) (now : Situation) (breaks : ℕ) (rest : List Statement)
      → Lies g program k (asm.ldl j ∷ rest) → Held ground m now → j < size → word_in s.workspace m j ≡ y
      → Proceeds g program (st ground k a b c m now breaks) (st ground (k + 1) y a b m now breaks)
  unfolding direct
  loads_word k j y a b c m now breaks rest lies held below is =
      let next = λ (number : ℕ). Gave (at s (g.address (k + 1)) number a b) ls m in
      rows ground k a b c (k + 1) y a b m m now breaks LoadLocal (operand.Number j) rest lies refl
      (ap (λ q. tried q ls m next) (word_is s.workspace base size count j now.store m held.holds below) ∙ ap next is)

  -- ldc
  pub constants : (k n a b c : ℕ) (m : List ℕ) (now : Situation) (breaks : ℕ) (rest : List Statement)
      → Lies g program k (asm.ldc n ∷ rest)
      → Proceeds g program (st ground k a b c m now breaks) (st ground (k + 1) n a b m now breaks)
  unfolding direct
  constants k n a b c m now breaks rest lies =
      rows ground k a b c (k + 1) n a b m m now breaks LoadConstant (operand.Number n) rest lies refl refl

  -- the address of a link's channel, from its number
  channel_goes : (zero : Bool) (c k a b d : ℕ) (m : List ℕ) (now : Situation) (breaks : ℕ) → (c == 0) ≡ zero
      → Lies g program k (asm.mint ∷ (if zero then [] else asm.ldnlp c ∷ []))
      → Advances g program (st ground k a b d m now breaks)
      (st ground (k + length (asm.mint ∷ (if zero then [] else asm.ldnlp c ∷ []))) (channel_word c) a b m now breaks)
  unfolding direct
  channel_goes true c k a b d m now breaks is lies =
      let none : c ≡ 0 = is_zero c is in
      subst (λ i. Advances g program (st ground k a b d m now breaks)
      (st ground (k + 1) (channel_word i) a b m now breaks)) (sym none)
      (some g program (st ground k a b d m now breaks) (st ground (k + 1) (channel_word 0) a b m now breaks)
      (least_int ground k a b d m now breaks [] lies))
  channel_goes false c k a b d m now breaks is lies =
      let place : k + 1 + 1 ≡ k + 2 = omega arith in
      let p = st ground (k + 1) 0x80000000 a b m now breaks in
      subst (λ i. Advances g program (st ground k a b d m now breaks)
      (st ground i (channel_word c) a b m now breaks)) place
      (advances_on g program (st ground k a b d m now breaks) p
      (st ground (k + 1 + 1) (channel_word c) a b m now breaks)
      (some g program (st ground k a b d m now breaks) p
      (least_int ground k a b d m now breaks (asm.ldnlp c ∷ []) lies))
      (some g program p (st ground (k + 1 + 1) (channel_word c) a b m now breaks)
      (rows ground (k + 1) 0x80000000 a b (k + 1 + 1) (channel_word c) a b m m now breaks LoadNonLocalPointer
      (operand.Number c) []
      lies.2 refl refl)))

  -- the code of a link's channel
  pub channel_runs : (c spare k a b d : ℕ) (m : List ℕ) (now : Situation) (breaks : ℕ)
      → Lies g program k (channel_code (from ground spare) (Link c))
      → Advances g program (st ground k a b d m now breaks)
      (st ground (k + length (channel_code (from ground spare) (Link c))) (channel_word c) a b m now breaks)
  channel_runs c spare k a b d m now breaks lies = channel_goes (c == 0) c k a b d m now breaks refl lies

  -- the situation after an output
  abbrev spoken : ℕ → MessageKind → ℕ → Situation → Situation
  spoken c kind y now = record now { talk = now.talk ++ Said c (bytes_said kind y) ∷ [] }

  -- word 0 is the process's own
  held_own : (c y : ℕ) (kind : MessageKind) (m : List ℕ) (now : Situation) → Held ground m now → 0 < size
      → Held ground (with_word_in s.workspace m 0 y) (spoken c kind y now)
  held_own c y kind m now held some_words =
      record {
        holds =
            record {
              memory = rw (length-with m (s.workspace - first_address + 4 * 0) y) held.holds.memory;
              bytes = bytes_with m (s.workspace - first_address + 4 * 0) y held.holds.bytes;
              aligned = held.holds.aligned;
              least = held.holds.least;
              most = rw (length-with m (s.workspace - first_address + 4 * 0) y) held.holds.most;
              variables = λ v below. other_word s.workspace 0 (v + base) y m (inl (omega (arith, own)))
                  ∙ held.holds.variables v below;
            };
        kept = kept_word s.workspace size 0 y ground.begun m held.kept some_words;
        long = held.long;
        bytes = held.bytes;
      }

  -- the manner of an output's operation
  output_manner : (kind : MessageKind) (next : ℕ)
      → (n : ℕ) × (output_operation kind ≡ asm.operation n) × (manner_of Operate n ≡ SaysValue (bytes_in kind))
  unfolding operation_of
  output_manner message.Byte next = (0x0E, refl, refl)
  output_manner message.Word next = (0x0F, refl, refl)

  -- the operation of an output
  says : (kind : MessageKind) (c k y d : ℕ) (m : List ℕ) (now : Situation) (breaks : ℕ) (rest : List Statement) → c < 4
      → Lies g program k (output_operation kind ∷ rest) → Held ground m now → 0 < size
      → Proceeds g program (st ground k y (channel_word c) d m now breaks)
      (st ground (k + 1) (g.others breaks).0 (g.others breaks).1 (g.others breaks).2 (with_word_in s.workspace m 0 y)
      (spoken c kind y now)
      (breaks + 1))
  says kind c k y d m now breaks rest below lies held some_words =
      let how = output_manner kind 0 in
      let p = st ground k y (channel_word c) d m now breaks in
      let u = with_word_in s.workspace m 0 y in
      let next = st ground (k + 1) y (channel_word c) d m now breaks in
      let mid = st ground (k + 1) y (channel_word c) d u now breaks in
      let row = done_at g.address k Operate (operand.Number how.0) p.registers ls m in
      let other = left_after row p Running in
      let size_of = bytes_in kind in
      let output = output_of c below in
      let h = held.holds in
      let here = own_word s.workspace size (length m) h.least h.most h.memory.most in
      let put : with_word m s.workspace y ≡ Ok u =
      ap (λ a. with_word m a y) (sym here) ∙ word_put s.workspace base size count 0 y now.store m h some_words in
      let same : s.workspace - first_address + 4 * 0 ≡ s.workspace - first_address = omega arith in
      let word : bytes_at size_of u s.workspace ≡ Ok (bytes_said kind y) =
      ap (λ o. bytes_at size_of (with_word_from m o y) s.workspace) same
      ∙ said_bytes kind m s.workspace y h.least (omega (arith, h.most, some_words)) h.memory.most in
      one_on g program p
      (st ground (k + 1) (g.others breaks).0 (g.others breaks).1 (g.others breaks).2 u (spoken c kind y now)
      (breaks + 1))
      (staged g program k p Operate (operand.Number how.0) (SaysValue size_of) refl
      (lies.0 ∙ ap Some how.1) lies.1 how.2
      ∙ ap (λ q. and_then q next
      (λ n. say g (kind_of (channel_word c)) size_of s.workspace
      (st ground (k + 1) y (channel_word c) d n now breaks) other)) put
      ∙ ap (λ q. say g q size_of s.workspace mid other) output.kind
      ∙ ap (λ q. and_then q mid (λ bytes. Running (after_others g
      (record mid { talk = now.talk ++ Said (channel_at (channel_word c)) bytes ∷ [] })))) word
      ∙ ap (λ n. Running (after_others g (record mid { talk = now.talk ++ Said n (bytes_said kind y) ∷ [] })))
      output.number)

  -- a leaf is pushed
  record IsPushed (e : Expression) (k spare a b c : ℕ) (m : List ℕ) (now : Situation) (breaks : ℕ) : Type 0 where
    leaf : ℕ
    is : value e now.store ≡ Some leaf
    long : length (expression_code k (from ground spare) e) ≡ 1
    goes : Proceeds g program (st ground k a b c m now breaks) (st ground (k + 1) leaf a b m now breaks)

  pushed : (e : Expression) (k spare a b c : ℕ) (m : List ℕ) (now : Situation) (breaks : ℕ) → is_leaf e ≡ true →
      IsWithin count e
      → Lies g program k (expression_code k (from ground spare) e) → Held ground m now → count + base ≤ size
      → IsPushed e k spare a b c m now breaks
  pushed (Number n) k spare a b c m now breaks leaf fit lies held inside =
      record { leaf = n; is = refl; long = refl; goes = constants k n a b c m now breaks [] lies }
  pushed (Variable v) k spare a b c m now breaks leaf fit lies held inside =
      let next = word_of ground v m now held fit.0 inside in
      record {
        leaf = slice_index now.store v;
        is = refl;
        long = refl;
        goes =
            loads_word k (v ⊕ base) (slice_index now.store v) a b c m now breaks [] lies held
            (omega (arith, next, fit.0, inside))
            (ap (λ j. word_in s.workspace m j) next ∙ held.holds.variables v fit.0);
      }
  pushed (Element' array p i) k spare a b c m now breaks leaf fit lies held inside = absurd (grind arith)
  pushed (One' o p e) k spare a b c m now breaks leaf fit lies held inside = absurd (grind arith)
  pushed (Two' o p e q f) k spare a b c m now breaks leaf fit lies held inside = absurd (grind arith)
  pushed (And' p e q f) k spare a b c m now breaks leaf fit lies held inside = absurd (grind arith)
  pushed (Or' p e q f) k spare a b c m now breaks leaf fit lies held inside = absurd (grind arith)
  pushed (Below' bound p e) k spare a b c m now breaks leaf fit lies held inside = absurd (grind arith)

  -- an output whose value is a leaf, or none
  sends : (leaf : Bool) (kind : MessageKind) (e : Expression) (n c k spare a b d : ℕ) (m : List ℕ) (now : Situation)
      (breaks : ℕ)
      → is_leaf e ≡ leaf → c < 4 → IsWithin count e
      → Lies g program k
      (if leaf
      then channel_code (from ground spare) (Link c)
      ++ (expression_code (k + length (channel_code (from ground spare) (Link c))) (from ground spare) e ++
      output_operation kind ∷ [])
      else expression_code k (from ground spare) e
      ++ asm.stl spare ∷ (channel_code (from ground spare) (Link c) ++ asm.ldl spare ∷ output_operation kind ∷ []))
      → Held ground m now → count + base ≤ spare
      → spare + (if leaf then 0 else max (temporaries_of e) 1) ≤ size
      → Shows ground n
      (k + length
      (if leaf
      then channel_code (from ground spare) (Link c)
      ++ (expression_code (k + length (channel_code (from ground spare) (Link c))) (from ground spare) e ++
      output_operation kind ∷ [])
      else expression_code k (from ground spare) e
      ++ asm.stl spare ∷ (channel_code (from ground spare) (Link c) ++ asm.ldl spare ∷ output_operation kind ∷ [])))
      (st ground k a b d m now breaks) (value_then (value e now.store) now.talk (λ y. Ended (spoken c kind y now)))
  sends true kind e n c k spare a b d m now breaks is below fit lies held free room =
      let channel = channel_code (from ground spare) (Link c) in
      let mid = k + length channel in
      let code = expression_code mid (from ground spare) e in
      let last = output_operation kind ∷ [] in
      let some_words : 0 < size = omega (arith, own, free, room) in
      let tail = lies_back g program k channel (code ++ last) lies in
      let leaf = pushed e mid spare (channel_word c) a b m now breaks is fit
      (lies_front g program mid code last tail) held
      (omega (arith, free, room)) in
      let y = leaf.leaf in
      let course = Ended (spoken c kind y now) in
      let last_lies = subst (λ i. Lies g program i last) (omega (arith, leaf.long))
      (lies_back g program mid code last tail) in
      let all = k + length (channel ++ (code ++ last)) in
      let u = with_word_in s.workspace m 0 y in
      let p = st ground k a b d m now breaks in
      let q = st ground mid (channel_word c) a b m now breaks in
      let v = st ground (mid + 1) y (channel_word c) a m now breaks in
      let end = st ground (mid + 1 + 1) (g.others breaks).0 (g.others breaks).1 (g.others breaks).2 u
      (spoken c kind y now) (breaks + 1) in
      subst (λ o. Shows ground n all p (value_then o now.talk (λ z. Ended (spoken c kind z now)))) (sym leaf.is)
      (ends_as ground course n (mid + 1 + 1) all p
      (omega (arith, length-append channel (code ++ last), length-append code last, leaf.long))
      (ended ground n (mid + 1 + 1) (g.others breaks).0 (g.others breaks).1 (g.others breaks).2 u
      (spoken c kind y now) (breaks + 1) p
      (advances_on g program p q end (channel_runs c spare k a b d m now breaks
      (lies_front g program k channel (code ++ last) lies))
      (advances_on g program q v end (some g program q v leaf.goes)
      (some g program v end (says kind c (mid + 1) y a m now breaks [] below last_lies held some_words))))
      (held_own c y kind m now held some_words)))
  sends false kind e n c k spare a b d m now breaks is below fit lies held free room =
      let channel = channel_code (from ground spare) (Link c) in
      let code = expression_code k (from ground spare) e in
      let back = asm.ldl spare ∷ output_operation kind ∷ [] in
      let more = asm.stl spare ∷ (channel ++ back) in
      let mid = k + length code in
      let start = mid + 1 in
      let loaded = start + length channel in
      let some_words : 0 < size = omega (arith, own, free, room) in
      let inside : spare < size = omega (arith, room) in
      let more_lies = lies_back g program k code more lies in
      let channel_lies = lies_front g program start channel back more_lies.2 in
      let back_lies = lies_back g program start channel back more_lies.2 in
      ends_as ground (value_then (value e now.store) now.talk (λ y. Ended (spoken c kind y now))) n (loaded + 1 + 1)
      (k + length (code ++ more)) (st ground k a b d m now breaks)
      (omega (arith, length-append code more, length-append channel back))
      (evaluates ground e (λ y. Ended (spoken c kind y now)) n (loaded + 1 + 1) k spare a b d m now breaks fit
      (lies_front g program k code more lies) held free (omega (arith, room))
      (λ y b' c' u fits held' kept.
      let v = with_word_in s.workspace u spare y in
      let z = with_word_in s.workspace v 0 y in
      let held'' = held_temporary ground spare y u now held' free inside in
      let p = st ground mid y b' c' u now breaks in
      let p1 = st ground start b' c' c' v now breaks in
      let p2 = st ground loaded (channel_word c) b' c' v now breaks in
      let p3 = st ground (loaded + 1) y (channel_word c) b' v now breaks in
      let end = st ground (loaded + 1 + 1) (g.others breaks).0 (g.others breaks).1 (g.others breaks).2 z
      (spoken c kind y now) (breaks + 1) in
      ended ground n (loaded + 1 + 1) (g.others breaks).0 (g.others breaks).1 (g.others breaks).2 z
      (spoken c kind y now) (breaks + 1) p
      (advances_on g program p p1 end
      (some g program p p1 (stores ground mid spare y b' c' u now breaks (channel ++ back) more_lies held' inside))
      (advances_on g program p1 p2 end (channel_runs c spare start b' c' c' v now breaks channel_lies)
      (advances_on g program p2 p3 end
      (some g program p2 p3
      (loads_word loaded spare y (channel_word c) b' c' v now breaks (output_operation kind ∷ []) back_lies held''
      inside
      (stored_word s.workspace base size count spare y now.store u held'.holds inside fits)))
      (some g program p3 end (says kind c (loaded + 1) y b' v now breaks [] below back_lies.2 held'' some_words)))))
      (held_own c y kind v now held'' some_words)))

  -- an output by a link
  pub output_runs : (c : ℕ) (kind : MessageKind) (e : Expression) → c < 4 → IsWithin count e
      → Runs ground (Output (Link c) kind e)
  output_runs c kind e below fit n k t a b d m x r lies held free room =
      let channel = channel_code (from ground t) (Link c) in
      let place : k + 0 ≡ k = omega arith in
      let course = value_then (value e x.store) x.talk (λ y. Ended (spoken c kind y x)) in
      subst (λ i. Shows ground n (k + length (send_code i (from ground t) channel kind e)) (st ground k a b d m x r)
      course) (sym place)
      (sends (is_leaf e) kind e n c k t a b d m x r refl below fit
      (subst (λ i. Lies g program k (send_code i (from ground t) channel kind e)) place lies) held free room)
