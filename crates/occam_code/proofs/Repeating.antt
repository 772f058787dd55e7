-- The code of a loop with an index does what the loop does: for the law of processes.
use Rattle.std.proofs.Common.{Box, Global, ◌≡◌, ℕ, zero, suc, ◌+◌, ◌-◌, ◌^◌, ◌<◌, ◌≤◌, inr, List, [], ◌∷◌, ◌++◌, length, length-append, Ok, refl, sym, ap, ◌∙◌, subst, arith, Bool, true, false, nat_le, pos}
use Rattle.std.specs.Prelude.{◌==◌, slice_index, if◌then◌else◌, int_lt}
use Rattle.node_memory.specs.Bytes.{word_at, with_word}
use Rattle.node_memory.specs.Effect.{Gave, Halted, tried}
use Rattle.node_memory.specs.Words.{◌⊕◌, ◌⊖◌, ◌⊗◌, signed}
use Rattle.node_memory.specs.declared.fault.Fault.TheVariants.{ErrorSet}
use Rattle.t414_decode.specs.Codes.{operation_of}
use Rattle.t414_decode.specs.declared.instruction.Function.TheVariants.{LoadLocalPointer, LoadConstant, LoadLocal, Operate}
use Rattle.t414_assembly.specs.declared.statement.Operand.TheVariants as operand
use Rattle.t414_assembly.specs.declared.statement.Statement.{Statement}
use Rattle.t414_assembly.specs.Program.{less, plus}
use Rattle.t414_step.specs.declared.cpu.Cpu.{Cpu}
use Rattle.t414_step.specs.ChannelRows.{CpuEffect}
use Rattle.t414_step.specs.Registers.{goto}
use Rattle.t414_step.specs.Rows.{error_if, row, direct, slice}
use Rattle.occam_core.specs.declared.expression.Expression.{Expression}
use Rattle.occam_core.specs.declared.process.CoreProcess.{CoreProcess}
use Rattle.occam_core.specs.declared.process.CoreProcess.TheVariants.{Repeat'}
use Rattle.occam_core.specs.Values.{value}
use Rattle.occam_core.specs.Processes.{Situation, Course, Ended, Erred, value_then, assigned, turns_left, turn_over, rounds, does}
use Rattle.occam_code.specs.Instructions as asm
use Rattle.occam_code.specs.Words.{process_temporaries}
use Rattle.occam_code.specs.Expressions.{expression_code}
use Rattle.occam_code.specs.Code.{count_code, loop_end_code, process_code}
use Rattle.occam_code.specs.Machine.{done_at}
use Rattle.occam_code.specs.Alone.{Running, after_others, left_after, ByRow, ThenOthers}
use Rattle.occam_code.specs.Behaves.{ProcessIsWithin}
use Rattle.occam_code.proofs.Workspace.{word_is, with_word_in, word_put}
use Rattle.occam_code.proofs.Operations.{at}
use Rattle.occam_code.proofs.Running.{is_zero, word_after}
use Rattle.occam_code.proofs.Lone.{Lies, lies_front, lies_back, Proceeds, waits, some, one_on, staged, stops_on}
use Rattle.occam_code.proofs.Assigning.{set_same, set_other, next_address}
use Rattle.occam_code.proofs.Behaving.{Ground, from, st, Held, Shows, later, later_more, fewer, then_on, ends_as, ended, rows, jumps, passes, evaluates, Runs, held_assigned, assigns, slice_goes_on, if_false}

-- a distance goes back to where it was taken from
back_again : (x y number : ℕ) → x < 2 ^ 32 → y < 2 ^ 32 → number ≡ x → number ⊖ plus (less x y) 0 ≡ y
back_again x y number fx fy same = omega (arith, fx, fy, same)

-- the word after that of a variable
next_word : (v base : ℕ) → v ⊕ base ⊕ 1 ≡ v + 1 ⊕ base
next_word v base = omega arith

-- the first of two, where a test holds
if_true : {A : Type 0} (b : Bool) (x y : A) → b ≡ true → (if b then x else y) ≡ x
if_true b x y is = ap (λ q. if q then x else y) is

module _ (ground : Ground) where
  open ground use {setting as g, addresses, program, registers as s, links as ls, base, size, count, halts, in_slice}

  -- a variable's word is read
  pub variable_is : (v : ℕ) (m : List ℕ) (now : Situation) → Held ground m now → v < count → count + base ≤ size
      → word_at m (s.workspace ⊕ 4 ⊗ (v + base)) ≡ Ok (slice_index now.store v)
  variable_is v m now held within room =
      word_is s.workspace base size count (v + base) now.store m held.holds (omega (arith, within, room))
      ∙ ap Ok (held.holds.variables v within)

  -- the number of a variable's word
  pub word_of : (v : ℕ) (m : List ℕ) (now : Situation) → Held ground m now → v < count → count + base ≤ size
      → v ⊕ base ≡ v + base
  word_of v m now held within room =
      word_after base v count size (s.workspace - 0x80000000) (length m) within room held.holds.most
      held.holds.memory.most

  -- ldl
  pub loads : (k v a b c : ℕ) (m : List ℕ) (now : Situation) (breaks : ℕ) (rest : List Statement)
      → Lies g program k (asm.ldl (v ⊕ base) ∷ rest) → Held ground m now → v < count → count + base ≤ size
      → Proceeds g program (st ground k a b c m now breaks)
      (st ground (k + 1) (slice_index now.store v) a b m now breaks)
  unfolding direct
  loads k v a b c m now breaks rest lies held within room =
      let next = λ (y : ℕ). Gave (at s (g.address (k + 1)) y a b) ls m in
      rows ground k a b c (k + 1) (slice_index now.store v) a b m m now breaks LoadLocal (operand.Number (v ⊕ base))
      rest lies refl
      (ap (λ j. tried (word_at m (s.workspace ⊕ 4 ⊗ j)) ls m next) (word_of v m now held within room)
      ∙ ap (λ q. tried q ls m next) (variable_is v m now held within room))

  -- mint
  pub least_int : (k a b c : ℕ) (m : List ℕ) (now : Situation) (breaks : ℕ) (rest : List Statement)
      → Lies g program k (asm.mint ∷ rest)
      → Proceeds g program (st ground k a b c m now breaks) (st ground (k + 1) 0x80000000 a b m now breaks)
  unfolding direct row operation_of
  least_int k a b c m now breaks rest lies =
      rows ground k a b c (k + 1) 0x80000000 a b m m now breaks Operate (operand.Number 0x42) rest lies refl refl

  -- ldlp
  pub points : (k j a b c : ℕ) (m : List ℕ) (now : Situation) (breaks : ℕ) (rest : List Statement)
      → Lies g program k (asm.ldlp j ∷ rest)
      → Proceeds g program (st ground k a b c m now breaks) (st ground (k + 1) (s.workspace ⊕ 4 ⊗ j) a b m now breaks)
  unfolding direct
  points k j a b c m now breaks rest lies =
      rows ground k a b c (k + 1) (s.workspace ⊕ 4 ⊗ j) a b m m now breaks LoadLocalPointer (operand.Number j) rest
      lies refl refl

  -- ldc of a distance
  far : (k place start a b c : ℕ) (m : List ℕ) (now : Situation) (breaks : ℕ) (rest : List Statement)
      → Lies g program k (asm.ldc_distance place start ∷ rest)
      → Proceeds g program (st ground k a b c m now breaks)
      (st ground (k + 1) (plus (less (g.address place) (g.address start)) 0) a b m now breaks)
  unfolding direct
  far k place start a b c m now breaks rest lies =
      rows ground k a b c (k + 1) (plus (less (g.address place) (g.address start)) 0) a b m m now breaks LoadConstant
      (operand.Difference place start 0) rest lies refl refl

  -- csub0, and what is done with a value below the bound
  pub checked : (bad : Bool) (course : Course) (n last k bound y number : ℕ) (m : List ℕ) (now : Situation) (breaks : ℕ)
      (rest : List Statement) → Lies g program k (asm.csub0 ∷ rest) → nat_le bound y ≡ bad
      → (bad ≡ false → Shows ground n last (st ground (k + 1) y number number m now breaks) course)
      → Shows ground n last (st ground k bound y number m now breaks) (if bad then Erred now.talk else course)
  unfolding direct row operation_of
  checked true course n last k bound y number m now breaks rest lies is next =
      let p = st ground k bound y number m now breaks in
      let t = at s (g.address (k + 1)) y number number in
      stops_on g program p p ErrorSet (waits g program p)
      (staged g program k p Operate (operand.Number 0x13) ByRow refl lies.0 lies.1 refl
      ∙ ap (λ q. left_after (error_if q t ls m) p Running) is
      ∙ ap (λ q. left_after (if q then Halted ErrorSet ls m else Gave (record t { error = true }) ls m) p Running)
      halts)
  checked false course n last k bound y number m now breaks rest lies is next =
      let p = st ground k bound y number m now breaks in
      let q = st ground (k + 1) y number number m now breaks in
      let t = at s (g.address (k + 1)) y number number in
      later ground course n last p q
      (some g program p q
      (rows ground k bound y number (k + 1) y number number m m now breaks Operate (operand.Number 0x13) rest lies refl
      (ap (λ b. error_if b t ls m) is)))
      (next refl)

  -- lend, once the count is one less
  abbrev looped : Cpu → ℕ → List ℕ → CpuEffect
  looped t left m =
      if int_lt (pos 1) (signed left)
      then tried (word_at m t.b) ls m
      (λ i. tried (with_word m t.b (i ⊕ 1)) ls m (λ u. slice (goto (t.instruction ⊖ t.a) t) ls u))
      else Gave t ls m

  -- memory with the count one less
  abbrev fewer_left : ℕ → List ℕ → Situation → List ℕ
  fewer_left v m now = with_word_in s.workspace m (v + 1 + base) (turns_left v now ⊖ 1)

  -- the row of lend
  lend_row : (k v d c : ℕ) (m : List ℕ) (now : Situation) → Held ground m now → v + 1 < count → count + base ≤ size
      → done_at g.address k Operate (operand.Number 0x21) (at s (g.address k) d (s.workspace ⊕ 4 ⊗ (v ⊕ base)) c) ls m
      ≡ looped (at s (g.address (k + 1)) d (s.workspace ⊕ 4 ⊗ (v ⊕ base)) c) (turns_left v now) (fewer_left v m now)
  unfolding direct row operation_of
  lend_row k v d c m now held within room =
      let index = s.workspace ⊕ 4 ⊗ (v ⊕ base) in
      let t = at s (g.address (k + 1)) d index c in
      let place = next_address s.workspace base size count v now.store m held.holds within room in
      ap (λ a. tried (word_at m a) ls m (λ l. tried (with_word m a (l ⊖ 1)) ls m (λ u. looped t l u))) place
      ∙ ap (λ q. tried q ls m (λ l. tried (with_word m (s.workspace ⊕ 4 ⊗ (v + 1 + base)) (l ⊖ 1)) ls m
      (λ u. looped t l u)))
      (variable_is (v + 1) m now held within room)
      ∙ ap (λ q. tried q ls m (λ u. looped t (turns_left v now) u))
      (word_put s.workspace base size count (v + 1 + base) (turns_left v now ⊖ 1) now.store m held.holds
      (omega (arith, within, room)))

  -- the situation after a turn, and with the index of the next
  abbrev next_turn : ℕ → Situation → Situation
  next_turn v now = assigned v (slice_index now.store v ⊕ 1) (turn_over v now)

  -- memory then
  abbrev next_memory : ℕ → List ℕ → Situation → List ℕ
  next_memory v m now = with_word_in s.workspace (fewer_left v m now) (v + base) (slice_index now.store v ⊕ 1)

  -- a turn is over
  held_turned : (v : ℕ) (m : List ℕ) (now : Situation) → Held ground m now → v + 1 < count → count + base ≤ size
      → Held ground (fewer_left v m now) (turn_over v now)
  held_turned v m now held within room =
      held_assigned ground (v + 1) (turns_left v now ⊖ 1) m now held within room (omega arith)

  -- the index isn't the count
  index_stays : (v : ℕ) (now : Situation) → slice_index (turn_over v now).store v ≡ slice_index now.store v
  index_stays v now = set_other now.store (v + 1) (turns_left v now ⊖ 1) v (inr (omega arith))

  held_next : (v : ℕ) (m : List ℕ) (now : Situation) → Held ground m now → v + 1 < count → count + base ≤ size
      → Held ground (next_memory v m now) (next_turn v now)
  held_next v m now held within room =
      held_assigned ground v (slice_index now.store v ⊕ 1) (fewer_left v m now) (turn_over v now)
      (held_turned v m now held within room) (omega (arith, within)) room (omega arith)

  -- lend, if a turn is left
  lends_back : (k v start c : ℕ) (m : List ℕ) (now : Situation) (breaks : ℕ) (place : ℕ) (rest : List Statement) →
      place ≡ k + 1
      → Lies g program k (asm.lend ∷ rest) → Held ground m now → v + 1 < count → count + base ≤ size
      → int_lt (pos 1) (signed (turns_left v now)) ≡ true
      → Proceeds g program
      (st ground k (plus (less (g.address place) (g.address start)) 0) (s.workspace ⊕ 4 ⊗ (v ⊕ base)) c m now breaks)
      (st ground start (g.others breaks).0 (g.others breaks).1 (g.others breaks).2 (next_memory v m now)
      (next_turn v now) (breaks + 1))
  unfolding operation_of
  lends_back k v start c m now breaks place rest next lies held within room more =
      let d = plus (less (g.address place) (g.address start)) 0 in
      let index = s.workspace ⊕ 4 ⊗ (v ⊕ base) in
      let t = at s (g.address (k + 1)) d index c in
      let u = fewer_left v m now in
      let i = slice_index now.store v in
      let p = st ground k d index c m now breaks in
      let held' = held_turned v m now held within room in
      let below : v < count = omega (arith, within) in
      let same : index ≡ s.workspace ⊕ 4 ⊗ (v + base) =
      ap (λ j. s.workspace ⊕ 4 ⊗ j) (word_of v m now held below room) in
      let found : word_at u index ≡ Ok i =
      ap (λ a. word_at u a) same ∙ variable_is v u (turn_over v now) held' below room ∙ ap Ok (index_stays v now) in
      let put : with_word u index (i ⊕ 1) ≡ Ok (next_memory v m now) =
      ap (λ a. with_word u a (i ⊕ 1)) same
      ∙ word_put s.workspace base size count (v + base) (i ⊕ 1) (turn_over v now).store u held'.holds
      (omega (arith, below, room)) in
      let back : g.address (k + 1) ⊖ d ≡ g.address start =
      back_again (g.address place) (g.address start) (g.address (k + 1)) (addresses place) (addresses start)
      (ap g.address (sym next)) in
      let effect : looped t (turns_left v now) u ≡ Gave (at s (g.address start) d index c) ls (next_memory v m now) =
      if_true (int_lt (pos 1) (signed (turns_left v now)))
      (tried (word_at u index) ls u
      (λ j. tried (with_word u index (j ⊕ 1)) ls u (λ n. slice (goto (g.address (k + 1) ⊖ d) t) ls n)))
      (Gave t ls u) more
      ∙ ap (λ q. tried q ls u
      (λ j. tried (with_word u index (j ⊕ 1)) ls u (λ n. slice (goto (g.address (k + 1) ⊖ d) t) ls n))) found
      ∙ ap (λ q. tried q ls u (λ n. slice (goto (g.address (k + 1) ⊖ d) t) ls n)) put
      ∙ slice_goes_on (goto (g.address (k + 1) ⊖ d) t) ls (next_memory v m now) in_slice
      ∙ ap (λ j. Gave (at s j d index c) ls (next_memory v m now)) back in
      one_on g program p
      (st ground start (g.others breaks).0 (g.others breaks).1 (g.others breaks).2 (next_memory v m now)
      (next_turn v now) (breaks + 1))
      (staged g program k p Operate (operand.Number 0x21) ThenOthers refl lies.0 lies.1 refl
      ∙ ap (λ e. left_after e p (λ q. Running (after_others g q)))
      (lend_row k v d c m now held within room ∙ effect))

  -- lend, if no turn is left
  lends_on : (k v d c : ℕ) (m : List ℕ) (now : Situation) (breaks : ℕ) (rest : List Statement)
      → Lies g program k (asm.lend ∷ rest) → Held ground m now → v + 1 < count → count + base ≤ size
      → int_lt (pos 1) (signed (turns_left v now)) ≡ false
      → Proceeds g program (st ground k d (s.workspace ⊕ 4 ⊗ (v ⊕ base)) c m now breaks)
      (st ground (k + 1) (g.others breaks).0 (g.others breaks).1 (g.others breaks).2 (fewer_left v m now)
      (turn_over v now) (breaks + 1))
  unfolding operation_of
  lends_on k v d c m now breaks rest lies held within room over =
      let index = s.workspace ⊕ 4 ⊗ (v ⊕ base) in
      let t = at s (g.address (k + 1)) d index c in
      let u = fewer_left v m now in
      let p = st ground k d index c m now breaks in
      one_on g program p
      (st ground (k + 1) (g.others breaks).0 (g.others breaks).1 (g.others breaks).2 u (turn_over v now) (breaks + 1))
      (staged g program k p Operate (operand.Number 0x21) ThenOthers refl lies.0 lies.1 refl
      ∙ ap (λ e. left_after e p (λ q. Running (after_others g q)))
      (lend_row k v d c m now held within room
      ∙ if_false (int_lt (pos 1) (signed (turns_left v now)))
      (tried (word_at u index) ls u
      (λ j. tried (with_word u index (j ⊕ 1)) ls u (λ n. slice (goto (g.address (k + 1) ⊖ d) t) ls n)))
      (Gave t ls u) over))

  -- the end of a turn
  turn_ends : (more : Bool) (n v k start a b c : ℕ) (m : List ℕ) (now : Situation) (breaks : ℕ)
      (go : Situation → Course) → int_lt (pos 1) (signed (turns_left v now)) ≡ more
      → Lies g program k (loop_end_code k (v ⊕ base) start) → Held ground m now → v + 1 < count → count + base ≤ size
      → ((a' b' c' : ℕ) (u : List ℕ) (y : Situation) (r' : ℕ) → Held ground u y
      → Shows ground n (k + 3) (st ground start a' b' c' u y r') (go y))
      → Shows ground (suc n) (k + 3) (st ground k a b c m now breaks)
      (if more then go (next_turn v now) else Ended (turn_over v now))
  turn_ends more n v k start a b c m now breaks go is lies held within room next =
      let index = s.workspace ⊕ 4 ⊗ (v ⊕ base) in
      let d = plus (less (g.address (k + 3)) (g.address start)) 0 in
      let course = if more then go (next_turn v now) else Ended (turn_over v now) in
      later ground course (suc n) (k + 3) (st ground k a b c m now breaks) (st ground (k + 1) index a b m now breaks)
      (some g program (st ground k a b c m now breaks) (st ground (k + 1) index a b m now breaks)
      (points k (v ⊕ base) a b c m now breaks (asm.ldc_distance (k + 3) start ∷ asm.lend ∷ []) lies))
      (later ground course (suc n) (k + 3) (st ground (k + 1) index a b m now breaks)
      (st ground (k + 1 + 1) d index a m now breaks)
      (some g program (st ground (k + 1) index a b m now breaks) (st ground (k + 1 + 1) d index a m now breaks)
      (far (k + 1) (k + 3) start index a b m now breaks (asm.lend ∷ []) lies.2))
      (lend_ends more n v k start a m now breaks go is lies.2.2 held within room next))
    where
      lend_ends : (more : Bool) (n v k start a : ℕ) (m : List ℕ) (now : Situation) (breaks : ℕ)
          (go : Situation → Course) → int_lt (pos 1) (signed (turns_left v now)) ≡ more
          → Lies g program (k + 1 + 1) (asm.lend ∷ []) → Held ground m now → v + 1 < count → count + base ≤ size
          → ((a' b' c' : ℕ) (u : List ℕ) (y : Situation) (r' : ℕ) → Held ground u y
          → Shows ground n (k + 3) (st ground start a' b' c' u y r') (go y))
          → Shows ground (suc n) (k + 3)
          (st ground (k + 1 + 1) (plus (less (g.address (k + 3)) (g.address start)) 0) (s.workspace ⊕ 4 ⊗ (v ⊕ base))
          a m now breaks)
          (if more then go (next_turn v now) else Ended (turn_over v now))
      lend_ends true n v k start a m now breaks go is lies held within room next =
          let d = plus (less (g.address (k + 3)) (g.address start)) 0 in
          let p = st ground (k + 1 + 1) d (s.workspace ⊕ 4 ⊗ (v ⊕ base)) a m now breaks in
          later_more ground (go (next_turn v now)) n (k + 3) p
          (st ground start (g.others breaks).0 (g.others breaks).1 (g.others breaks).2 (next_memory v m now)
          (next_turn v now) (breaks + 1))
          (lends_back (k + 1 + 1) v start a m now breaks (k + 3) [] (omega arith) lies held within room is)
          (next (g.others breaks).0 (g.others breaks).1 (g.others breaks).2 (next_memory v m now) (next_turn v now)
          (breaks + 1)
          (held_next v m now held within room))
      lend_ends false n v k start a m now breaks go is lies held within room next =
          let d = plus (less (g.address (k + 3)) (g.address start)) 0 in
          let p = st ground (k + 1 + 1) d (s.workspace ⊕ 4 ⊗ (v ⊕ base)) a m now breaks in
          let place : k + 1 + 1 + 1 ≡ k + 3 = omega arith in
          ends_as ground (Ended (turn_over v now)) (suc n) (k + 1 + 1 + 1) (k + 3) p place
          (ended ground (suc n) (k + 1 + 1 + 1) (g.others breaks).0 (g.others breaks).1 (g.others breaks).2
          (fewer_left v m now) (turn_over v now)
          (breaks + 1) p
          (some g program p
          (st ground (k + 1 + 1 + 1) (g.others breaks).0 (g.others breaks).1 (g.others breaks).2 (fewer_left v m now)
          (turn_over v now) (breaks + 1))
          (lends_on (k + 1 + 1) v d a m now breaks [] lies held within room is))
          (held_turned v m now held within room))

  -- some of the turns that a loop may make
  rounds_run : (v : ℕ) (p : CoreProcess) → v + 1 < count → Runs ground p → (n most start spare a b c : ℕ) (m : List ℕ)
      (now : Situation) (breaks : ℕ) → n ≤ most
      → Lies g program start
      (process_code start (from ground spare) p
      ++ loop_end_code (start + length (process_code start (from ground spare) p)) (v ⊕ base) start)
      → Held ground m now → count + base ≤ spare → spare + process_temporaries p ≤ size
      → Shows ground n (start + length (process_code start (from ground spare) p) + 3)
      (st ground start a b c m now breaks)
      (rounds n v (does most p) now)
  rounds_run v p within run zero most start spare a b c m now breaks less lies held free room =
      (0, st ground start a b c m now breaks, omega arith, refl, refl)
  rounds_run v p within run (suc n) most start spare a b c m now breaks less lies held free room =
      let body = process_code start (from ground spare) p in
      let end = start + length body in
      let back = loop_end_code end (v ⊕ base) start in
      let go = rounds n v (does most p) in
      let after : Situation → Course = λ y. if int_lt (pos 1) (signed (turns_left v y)) then go (next_turn v y)
      else Ended (turn_over v y) in
      then_on ground (does most p now) after (suc n) end (end + 3) (st ground start a b c m now breaks)
      (fewer ground (does most p now) (suc n) most end (st ground start a b c m now breaks) less
      (run most start spare a b c m now breaks (lies_front g program start body back lies) held free room))
      (λ y a' b' c' u r' held'. turn_ends (int_lt (pos 1) (signed (turns_left v y))) n v end start a' b' c' u y r' go
      refl
      (lies_back g program start body back lies) held' within (omega (arith, free, room))
      (λ a'' b'' c'' u' z r'' held''. rounds_run v p within run n most start spare a'' b'' c'' u' z r''
      (omega (arith, less)) lies held'' free room))

  -- cj, and the turns
  begins_turns : (none : Bool) (v : ℕ) (p : CoreProcess) → v + 1 < count → Runs ground p
      → (n k start spare number b c : ℕ) (m : List ℕ) (now : Situation) (breaks : ℕ) → (number == 0) ≡ none → k + 1 ≡
      start
      → Lies g program k
      (asm.cj (start + length (process_code start (from ground spare) p) + 3) ∷
      (process_code start (from ground spare) p
      ++ loop_end_code (start + length (process_code start (from ground spare) p)) (v ⊕ base) start))
      → Held ground m now → count + base ≤ spare → spare + process_temporaries p ≤ size
      → Shows ground n (start + length (process_code start (from ground spare) p) + 3)
      (st ground k number b c m now breaks)
      (if none then Ended now else rounds n v (does n p) now)
  begins_turns true v p within run n k start spare number b c m now breaks is place lies held free room =
      let body = process_code start (from ground spare) p in
      let end = start + length body in
      subst (λ i. Shows ground n (end + 3) (st ground k i b c m now breaks) (Ended now)) (sym (is_zero number is))
      (ended ground n (end + 3) 0 b c m now breaks (st ground k 0 b c m now breaks)
      (some g program (st ground k 0 b c m now breaks) (st ground (end + 3) 0 b c m now breaks)
      (jumps ground k (end + 3) b c m now breaks (body ++ loop_end_code end (v ⊕ base) start) lies)) held)
  begins_turns false v p within run n k start spare number b c m now breaks is place lies held free room =
      let body = process_code start (from ground spare) p in
      let end = start + length body in
      let code = body ++ loop_end_code end (v ⊕ base) start in
      let course = rounds n v (does n p) now in
      later ground course n (end + 3) (st ground k number b c m now breaks) (st ground (k + 1) b c c m now breaks)
      (some g program (st ground k number b c m now breaks) (st ground (k + 1) b c c m now breaks)
      (passes ground k (end + 3) number b c m now breaks code lies is))
      (subst (λ i. Shows ground n (end + 3) (st ground i b c c m now breaks) course) (sym place)
      (rounds_run v p within run n n start spare b c c m now breaks (omega arith)
      (subst (λ i. Lies g program i code) place lies.2) held free room))

  -- the number of turns, from its value in A
  counts_turns : (v : ℕ) (p : CoreProcess) → v + 1 < count → Runs ground p
      → (n k start spare number b c : ℕ) (m : List ℕ) (now : Situation) (breaks : ℕ) → k + 5 ≡ start → number < 2 ^ 32
      → Lies g program k
      (count_code (v ⊕ base ⊕ 1) ++ asm.cj (start + length (process_code start (from ground spare) p) + 3)
      ∷ (process_code start (from ground spare) p
      ++ loop_end_code (start + length (process_code start (from ground spare) p)) (v ⊕ base) start))
      → Held ground m now → count + base ≤ spare → spare + process_temporaries p ≤ size
      → Shows ground n (start + length (process_code start (from ground spare) p) + 3)
      (st ground k number b c m now breaks)
      (if nat_le (2 ^ 31) number then Erred now.talk
      else (if number == 0 then Ended (assigned (v + 1) number now) else rounds n v (does n p)
      (assigned (v + 1) number now)))
  counts_turns v p within run n k start spare number b c m now breaks place fits lies held free room =
      let body = process_code start (from ground spare) p in
      let end = start + length body in
      let code = asm.cj (end + 3) ∷ (body ++ loop_end_code end (v ⊕ base) start) in
      let word = v + 1 ⊕ base in
      let lies' = subst (λ i. Lies g program k (count_code i ++ code)) (next_word v base) lies in
      let set = assigned (v + 1) number now in
      let course = if number == 0 then Ended set else rounds n v (does n p) set in
      let all = if nat_le (2 ^ 31) number then Erred now.talk else course in
      let inside : count + base ≤ size = omega (arith, free, room) in
      let u = with_word_in s.workspace m (v + 1 + base) number in
      let held' = held_assigned ground (v + 1) number m now held within inside fits in
      let back : slice_index set.store (v + 1) ≡ number = set_same now.store (v + 1) number
      (omega (arith, within, held.long)) in
      later ground all n (end + 3) (st ground k number b c m now breaks)
      (st ground (k + 1) 0x80000000 number b m now breaks)
      (some g program (st ground k number b c m now breaks) (st ground (k + 1) 0x80000000 number b m now breaks)
      (least_int k number b c m now breaks (asm.csub0 ∷ asm.stl word ∷ asm.ldl word ∷ code) lies'))
      (checked (nat_le (2 ^ 31) number) course n (end + 3) (k + 1) 0x80000000 number b m now breaks
      (asm.stl word ∷ asm.ldl word ∷ code)
      lies'.2 refl
      (λ fine. later ground course n (end + 3) (st ground (k + 1 + 1) number b b m now breaks)
      (st ground (k + 1 + 1 + 1) b b b u set breaks)
      (some g program (st ground (k + 1 + 1) number b b m now breaks) (st ground (k + 1 + 1 + 1) b b b u set breaks)
      (assigns ground (k + 1 + 1) (v + 1) number b b m now breaks (asm.ldl word ∷ code) lies'.2.2 held within inside))
      (later ground course n (end + 3) (st ground (k + 1 + 1 + 1) b b b u set breaks)
      (st ground (k + 1 + 1 + 1 + 1) (slice_index set.store (v + 1)) b b u set breaks)
      (some g program (st ground (k + 1 + 1 + 1) b b b u set breaks)
      (st ground (k + 1 + 1 + 1 + 1) (slice_index set.store (v + 1)) b b u set breaks)
      (loads (k + 1 + 1 + 1) (v + 1) b b b u set breaks code lies'.2.2.2 held' within inside))
      (subst (λ i. Shows ground n (end + 3) (st ground (k + 1 + 1 + 1 + 1) i b b u set breaks) course) (sym back)
      (begins_turns (number == 0) v p within run n (k + 1 + 1 + 1 + 1) start spare number b b u set breaks refl
      (omega (arith, place))
      lies'.2.2.2.2 held' free room)))))

  -- a loop with an index
  pub repeat_runs : (v : ℕ) (e times : Expression) (box : Box (Unit {0}) Global) (p : CoreProcess)
      → ProcessIsWithin count (Repeat' v e times box p) → Runs ground p → Runs ground (Repeat' v e times box p)
  repeat_runs v e times box p fit run n k t a b c m x r lies held free room =
      let first = expression_code k (from ground t) e in
      let mid = k + length first in
      let counted = mid + 1 in
      let second = expression_code counted (from ground t) times in
      let check = counted + length second in
      let start = check + 5 in
      let body = process_code start (from ground t) p in
      let end = start + length body in
      let turns = asm.cj (end + 3) ∷ (body ++ loop_end_code end (v ⊕ base) start) in
      let tail = count_code (v ⊕ base ⊕ 1) ++ turns in
      let more = asm.stl (v ⊕ base) ∷ (second ++ tail) in
      let inside : count + base ≤ size = omega (arith, free, room) in
      let below : v < count = omega (arith, fit.0) in
      let more_lies = lies_back g program k first more lies in
      ends_as ground (does n (Repeat' v e times box p) x) n (end + 3) (k + length (first ++ more))
      (st ground k a b c m x r)
      (omega (
        arith,
        length-append first more,
        length-append second tail,
        length-append body
            (loop_end_code end (v ⊕ base) start),
      ))
      (evaluates ground e (λ y. let begun = assigned v y x in
      value_then (value times begun.store) begun.talk
      (λ z. if nat_le (2 ^ 31) z then Erred begun.talk
      else (let set = assigned (v + 1) z begun in if z == 0 then Ended set else rounds n v (does n p) set)))
      n (end + 3) k t a b c m x r fit.1
      (lies_front g program k first more lies) held free (omega (arith, room))
      (λ y b' c' u fits held' kept.
      let begun = assigned v y x in
      let u' = with_word_in s.workspace u (v + base) y in
      let course = value_then (value times begun.store) begun.talk
      (λ z. if nat_le (2 ^ 31) z then Erred begun.talk
      else (if z == 0 then Ended (assigned (v + 1) z begun) else rounds n v (does n p) (assigned (v + 1) z begun))) in
      later ground course n (end + 3) (st ground mid y b' c' u x r) (st ground counted b' c' c' u' begun r)
      (some g program (st ground mid y b' c' u x r) (st ground counted b' c' c' u' begun r)
      (assigns ground mid v y b' c' u x r (second ++ tail) more_lies held' below inside))
      (evaluates ground times (λ z. if nat_le (2 ^ 31) z then Erred begun.talk
      else (if z == 0 then Ended (assigned (v + 1) z begun) else rounds n v (does n p) (assigned (v + 1) z begun)))
      n (end + 3) counted t b' c' c' u' begun r fit.2
      (lies_front g program counted second tail more_lies.2) (held_assigned ground v y u x held' below inside fits) free
      (omega (arith, room))
      (λ z b'' c'' u'' fits' held'' kept'. counts_turns v p fit.0 run n check start t z b'' c'' u'' begun r refl fits'
      (lies_back g program counted second tail more_lies.2) held'' free (omega (arith, room))))))
