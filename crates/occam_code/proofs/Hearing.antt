-- The code of an input by a link does what the input does: for the law of processes.
use Rattle.std.proofs.Common.{◌≡◌, ℕ, ◌+◌, ◌-◌, ◌*◌, ◌<◌, ◌≤◌, List, [], ◌∷◌, ◌++◌, length, length-append, Ok, take, drop, refl, sym, ap, ◌∙◌, subst, arith, Bool, true, false, nat_le}
use Rattle.std.specs.Prelude.{if◌then◌else◌}
use Rattle.node_memory.specs.Bytes.{first_address, with_word_from}
use Rattle.node_memory.specs.Words.{◌⊕◌, ◌⊗◌}
use Rattle.t414_decode.specs.Codes.{operation_of}
use Rattle.t414_decode.specs.declared.instruction.Function.TheVariants.{Operate}
use Rattle.t414_assembly.specs.declared.statement.Operand.TheVariants as operand
use Rattle.t414_assembly.specs.declared.statement.Statement.{Statement}
use Rattle.occam_core.specs.declared.channel.CoreChannel.TheVariants.{Link}
use Rattle.occam_core.specs.declared.channel.MessageKind.{MessageKind}
use Rattle.occam_core.specs.declared.channel.MessageKind.TheVariants as message
use Rattle.occam_core.specs.declared.process.CoreProcess.TheVariants.{Input}
use Rattle.occam_core.specs.Processes.{Heard, Situation, Ended, Awaits, assigned, heard, bytes_in, value_heard, does}
use Rattle.occam_code.specs.Instructions as asm
use Rattle.occam_code.specs.Guards.{channel_code}
use Rattle.occam_code.specs.Machine.{done_at}
use Rattle.occam_code.specs.Alone.{LoneProcess, Running, AtInput, after_others, and_then, with_bytes, hear, left_after, Hears, next_stage, while_running, stage_after}
use Rattle.occam_code.proofs.Workspace.{array_address, with_word_in}
use Rattle.occam_code.proofs.Lone.{Lies, lies_front, lies_back, run, Advances, Proceeds, waits, advances_on, some, one_on, staged}
use Rattle.occam_code.proofs.MessageBytes.{channel_word, input_of, heard_byte, heard_word, rest_bytes, value_fits}
use Rattle.occam_code.proofs.Behaving.{Ground, from, st, Held, Shows, later, ends_as, ended, stores, Runs, held_assigned}
use Rattle.occam_code.proofs.Repeating.{word_of, points}
use Rattle.occam_code.proofs.Speaking.{constants, channel_runs}

module _ (ground : Ground) where
  open ground use {setting as g, program, registers as s, links as ls, base, size, count}

  -- a wait after some statements
  pub listens_on : (p after : LoneProcess) → Advances g program p after → next_stage g program after ≡ AtInput
      after.talk
      → (j : ℕ) × (run g program j p ≡ AtInput after.talk)
  listens_on p after adv is =
      let a = adv.by 1 in (a.0, a.2 ∙ ap (λ h. while_running h (stage_after g program 0)) is)

  -- what in does, if enough bytes come, or not
  pub input_stage : (enough : Bool) (n c pointer k : ℕ) (m : List ℕ) (now : Situation) (breaks : ℕ)
      (rest : List Statement)
      → 4 ≤ c → c < 8 → Lies g program k (asm.in ∷ rest) → nat_le n (length now.coming) ≡ enough
      → next_stage g program (st ground k n (channel_word c) pointer m now breaks)
      ≡ (if enough
      then and_then (with_bytes m pointer (take n now.coming))
      (st ground (k + 1) n (channel_word c) pointer m now breaks)
      (λ u. Running (after_others g (st ground (k + 1) n (channel_word c) pointer u (heard c n now) breaks)))
      else AtInput now.talk)
  unfolding operation_of
  input_stage enough n c pointer k m now breaks rest least below lies is =
      let p = st ground k n (channel_word c) pointer m now breaks in
      let next = st ground (k + 1) n (channel_word c) pointer m now breaks in
      let other = left_after (done_at g.address k Operate (operand.Number 0x07) p.registers ls m) p Running in
      let input = input_of c least below in
      let bytes = take n now.coming in
      let heard_by = λ (number : ℕ). and_then (with_bytes m pointer bytes) next
      (λ u. Running (after_others g (record next {
        memory = u;
        coming = drop n now.coming;
        talk = now.talk ++ Heard number bytes ∷ [];
      }))) in
      staged g program k p Operate (operand.Number 0x07) Hears refl lies.0 lies.1 refl
      ∙ ap (λ q. hear g q next other) input.kind
      ∙ ap (λ number. if nat_le n (length now.coming) then heard_by number else AtInput now.talk) input.number
      ∙ ap (λ q. if q then heard_by c else AtInput now.talk) is

  -- the situation after an input
  abbrev after_input : ℕ → MessageKind → ℕ → Situation → Situation
  after_input c kind v now = assigned v (value_heard kind now.coming) (heard c (bytes_in kind) now)

  -- a variable has got a message
  held_heard : (c v : ℕ) (kind : MessageKind) (m : List ℕ) (now : Situation) → Held ground m now → v < count
      → count + base ≤ size
      → Held ground (with_word_in s.workspace m (v + base) (value_heard kind now.coming)) (after_input c kind v now)
  held_heard c v kind m now held within room =
      let y = value_heard kind now.coming in
      let held' = held_assigned ground v y m now held within room (value_fits kind now.coming held.bytes) in
      record {
        holds = held'.holds;
        kept = held'.kept;
        long = held'.long;
        bytes = rest_bytes (bytes_in kind) now.coming held.bytes;
      }

  -- an input's operation, if the bytes would fill the variable's word
  hears : (enough : Bool) (n c v : ℕ) (kind : MessageKind) (pointer k : ℕ) (m before : List ℕ) (now : Situation)
      (breaks : ℕ)
      (rest : List Statement) → 4 ≤ c → c < 8 → Lies g program k (asm.in ∷ rest)
      → nat_le (bytes_in kind) (length now.coming) ≡ enough
      → (enough ≡ true → with_bytes m pointer (take (bytes_in kind) now.coming)
      ≡ Ok (with_word_in s.workspace before (v + base) (value_heard kind now.coming)))
      → Held ground before now → v < count → count + base ≤ size
      → Shows ground n (k + 1) (st ground k (bytes_in kind) (channel_word c) pointer m now breaks)
      (if enough then Ended (after_input c kind v now) else Awaits now.talk)
  hears true n c v kind pointer k m before now breaks rest least below lies is fills held within room =
      let p = st ground k (bytes_in kind) (channel_word c) pointer m now breaks in
      let u = with_word_in s.workspace before (v + base) (value_heard kind now.coming) in
      let y = after_input c kind v now in
      let end = st ground (k + 1) (g.others breaks).0 (g.others breaks).1 (g.others breaks).2 u y (breaks + 1) in
      let next = st ground (k + 1) (bytes_in kind) (channel_word c) pointer m now breaks in
      ended ground n (k + 1) (g.others breaks).0 (g.others breaks).1 (g.others breaks).2 u y (breaks + 1) p
      (some g program p end
      (one_on g program p end
      (input_stage true (bytes_in kind) c pointer k m now breaks rest least below lies is
      ∙ ap (λ q. and_then q next (λ l. Running (after_others g
      (st ground (k + 1) (bytes_in kind) (channel_word c) pointer l (heard c (bytes_in kind) now) breaks))))
      (fills refl))))
      (held_heard c v kind before now held within room)
  hears false n c v kind pointer k m before now breaks rest least below lies is fills held within room =
      let p = st ground k (bytes_in kind) (channel_word c) pointer m now breaks in
      listens_on p p (waits g program p)
      (input_stage false (bytes_in kind) c pointer k m now breaks rest least below lies is)

  -- the code of an input after the clearing of its variable
  input_tail : (n c v spare : ℕ) (kind : MessageKind) (k a b d : ℕ) (m before : List ℕ) (now : Situation) (breaks : ℕ)
      → 4 ≤ c → c < 8
      → Lies g program k
      (asm.ldlp (v ⊕ base) ∷ (channel_code (from ground spare) (Link c) ++ asm.ldc (bytes_in kind) ∷ asm.in ∷ []))
      → (nat_le (bytes_in kind) (length now.coming) ≡ true
      → with_bytes m (s.workspace ⊕ 4 ⊗ (v ⊕ base)) (take (bytes_in kind) now.coming)
      ≡ Ok (with_word_in s.workspace before (v + base) (value_heard kind now.coming)))
      → Held ground before now → v < count → count + base ≤ size
      → Shows ground n (k + 1 + length (channel_code (from ground spare) (Link c)) + 1 + 1)
      (st ground k a b d m now breaks)
      (if nat_le (bytes_in kind) (length now.coming) then Ended (after_input c kind v now) else Awaits now.talk)
  input_tail n c v spare kind k a b d m before now breaks least below lies fills held within room =
      let channel = channel_code (from ground spare) (Link c) in
      let back = asm.ldc (bytes_in kind) ∷ asm.in ∷ [] in
      let pointer = s.workspace ⊕ 4 ⊗ (v ⊕ base) in
      let mid = k + 1 + length channel in
      let enough = nat_le (bytes_in kind) (length now.coming) in
      let course = if enough then Ended (after_input c kind v now) else Awaits now.talk in
      let p = st ground k a b d m now breaks in
      let p1 = st ground (k + 1) pointer a b m now breaks in
      let p2 = st ground mid (channel_word c) pointer a m now breaks in
      let p3 = st ground (mid + 1) (bytes_in kind) (channel_word c) pointer m now breaks in
      let back_lies = lies_back g program (k + 1) channel back lies.2 in
      later ground course n (mid + 1 + 1) p p3
      (advances_on g program p p1 p3 (some g program p p1
      (points ground k (v ⊕ base) a b d m now breaks (channel ++ back) lies))
      (advances_on g program p1 p2 p3
      (channel_runs ground c spare (k + 1) pointer a b m now breaks (lies_front g program (k + 1) channel back lies.2))
      (some g program p2 p3
      (constants ground mid (bytes_in kind) (channel_word c) pointer a m now breaks (asm.in ∷ []) back_lies))))
      (hears enough n c v kind pointer (mid + 1) m before now breaks [] least below back_lies.2 refl fills held
      within room)

  -- where the variable of an input is
  pointer_is : (v : ℕ) (m : List ℕ) (now : Situation) → Held ground m now → v < count → count + base ≤ size
      → s.workspace ⊕ 4 ⊗ (v ⊕ base) ≡ s.workspace + 4 * (v + base)
  pointer_is v m now held within room =
      array_address s.workspace base v size (length m) held.holds.least held.holds.most held.holds.memory.most
      (omega (arith, within, room))

  -- the offset of a variable's word
  offset_is : (v : ℕ) (m : List ℕ) (now : Situation) → Held ground m now
      → s.workspace + 4 * (v + base) - first_address ≡ s.workspace - first_address + 4 * (v + base)
  offset_is v m now held = omega (arith, held.holds.least)

  -- an input by a link
  pub input_runs : (c : ℕ) (kind : MessageKind) (v : ℕ) → 4 ≤ c → c < 8 → v < count → Runs ground
      (Input (Link c) kind v)
  input_runs c message.Word v least below within n k t a b d m x r lies held free room =
      let channel = channel_code (from ground t) (Link c) in
      let back = asm.ldc 4 ∷ asm.in ∷ [] in
      let inside : count + base ≤ size = omega (arith, free, room) in
      let h = held.holds in
      let pointer = s.workspace + 4 * (v + base) in
      ends_as ground (does n (Input (Link c) message.Word v) x) n (k + 1 + length channel + 1 + 1)
      (k + length (asm.ldlp (v ⊕ base) ∷ (channel ++ back))) (st ground k a b d m x r)
      (omega (arith, length-append channel back))
      (input_tail n c v t message.Word k a b d m m x r least below lies
      (λ enough. ap (λ i. with_bytes m i (take 4 x.coming)) (pointer_is v m x held within inside)
      ∙ heard_word m x.coming pointer (omega (arith, h.least)) (omega (arith, h.least, h.most, within, inside))
      h.memory.most enough held.bytes
      ∙ ap (λ o. Ok (with_word_from m o (value_heard message.Word x.coming))) (offset_is v m x held))
      held within inside)
  input_runs c message.Byte v least below within n k t a b d m x r lies held free room =
      let channel = channel_code (from ground t) (Link c) in
      let back = asm.ldc 1 ∷ asm.in ∷ [] in
      let inside : count + base ≤ size = omega (arith, free, room) in
      let h = held.holds in
      let tail = asm.ldlp (v ⊕ base) ∷ (channel ++ back) in
      let pointer = s.workspace + 4 * (v + base) in
      let word = word_of ground v m x held within inside in
      let cleared = with_word_in s.workspace m (v + base) 0 in
      let course = does n (Input (Link c) message.Byte v) x in
      let p = st ground k a b d m x r in
      let p1 = st ground (k + 1) 0 a b m x r in
      let p2 = st ground (k + 1 + 1) a b b cleared x r in
      ends_as ground course n (k + 1 + 1 + 1 + length channel + 1 + 1)
      (k + length (asm.ldc 0 ∷ asm.stl (v ⊕ base) ∷ tail)) p
      (omega (arith, length-append channel back))
      (later ground course n (k + 1 + 1 + 1 + length channel + 1 + 1) p p2
      (advances_on g program p p1 p2
      (some g program p p1 (constants ground k 0 a b d m x r (asm.stl (v ⊕ base) ∷ tail) lies))
      (some g program p1 p2
      (subst (λ j. Proceeds g program p1 (st ground (k + 1 + 1) a b b (with_word_in s.workspace m j 0) x r)) word
      (stores ground (k + 1) (v ⊕ base) 0 a b m x r tail lies.2 held (omega (arith, word, within, inside))))))
      (input_tail n c v t message.Byte (k + 1 + 1) a b b cleared m x r least below lies.2.2
      (λ enough. ap (λ i. with_bytes cleared i (take 1 x.coming)) (pointer_is v m x held within inside)
      ∙ ap (λ o. with_bytes (with_word_from m o 0) pointer (take 1 x.coming)) (sym (offset_is v m x held))
      ∙ heard_byte m x.coming pointer (omega (arith, h.least)) (omega (arith, h.least, h.most, within, inside))
      h.memory.most enough held.bytes
      ∙ ap (λ o. Ok (with_word_from m o (value_heard message.Byte x.coming))) (offset_is v m x held))
      held within inside))
