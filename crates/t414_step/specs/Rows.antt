-- The instruction table: what each function and each operation does to the registers and to memory.
-- Transputer instruction set handbook. If the handbook leaves a register or a case undefined the row is our
-- choice: norm, cword, testpranal, ldiv if C >= A, rem of MinInt by -1, and registers that a row doesn't name, which
-- keep their values. Other than on the chip, a process of high priority halts the node, a process has its slice by
-- bytes of code, and no clock is kept.
-- s are the registers before the instruction, with Iptr at the next one; ls are the links. `x ← load ls m a` reads a
-- word, and after `m ← store ls m a w` m is memory with that word; a fault of either halts the node. `Gave s ls m` is
-- what the instruction leaves. push x, unary_result x (A = x), binary_result x (A = x, B = C), drop (A = B, B = C) and
-- drop2 (A = C) change the registers; ⊕, ⊖ and ⊗ are modulo 2 ^ 32.
use Rattle.std.specs.Prelude.{ℕ, ◌+◌, ◌-◌, ◌*◌, ◌/◌, ◌%◌, ◌^◌, ◌==◌, Bool, true, false, ◌&&◌, ◌||◌, not, List, pos, ◌+ℤ◌, ◌-ℤ◌, int_lt, int_le, int_div, int_rem, neg_ℤ, Option, Some, None, nat_le, nat_lt, if◌then◌else◌, bit_and, bit_or, bit_xor}
use Rattle.std.specs.Int.{w32, w64, cast_unsigned, leading_zeros}
use Rattle.node_memory.specs.Marks.{not_process, enabling, waiting, ready, none_selected}
use Rattle.node_memory.specs.Words.{◌⊕◌, ◌⊖◌, ◌⊗◌, aligned, signed, overflows, sum_checked, difference_checked, product_checked, shifted_left, shifted_right}
use Rattle.node_memory.specs.Effect.{Gave, Halted, ◌>>=◌, load, load_byte, store, store_byte, copy}
use Rattle.node_memory.specs.declared.fault.Fault.TheVariants.{UnknownOperation, ErrorSet, HighPriority}
use Rattle.process_queue.specs.Queue.{put}
use Rattle.link_channels.specs.Waiting.{save}
use Rattle.link_channels.specs.declared.link.FourLinks.{FourLinks}
use Rattle.t414_decode.specs.Codes.{operation_of, shifted}
use Rattle.t414_decode.specs.declared.instruction.Function.{Function}
use Rattle.t414_decode.specs.declared.instruction.Function.TheVariants.{Jump, LoadLocalPointer, Prefix, LoadNonLocal, LoadConstant, LoadNonLocalPointer, NegativePrefix, LoadLocal, AddConstant, Call, ConditionalJump, AdjustWorkspace, EqualsConstant, StoreLocal, StoreNonLocal, Operate}
use Rattle.t414_decode.specs.declared.instruction.Operation.{Operation}
use Rattle.t414_decode.specs.declared.instruction.Operation.TheVariants.{Plain, Channel}
use Rattle.t414_decode.specs.declared.instruction.PlainOperation.{PlainOperation}
use Rattle.t414_decode.specs.declared.instruction.PlainOperation.TheVariants as op
use Rattle.t414_step.specs.declared.cpu.Cpu.{Cpu}
use Rattle.t414_step.specs.ChannelRows.{CpuEffect, channel_row, process_of}
use Rattle.t414_step.specs.Registers.{bit, push, unary_result, binary_result, drop, drop2, long, goto, at_workspace, leave, double, sign_of, carry}

-- Error is set if a test holds, which halts the node if HaltOnError is set
abbrev pub error_if : Bool → Cpu → FourLinks → List ℕ → CpuEffect
error_if false s ls m = Gave s ls m
error_if true s ls m = if s.halt_on_error then Halted ErrorSet ls m else Gave (record s { error = true }) ls m

-- save, leave: Iptr is kept at W - 4, and the next step takes a process from the queue
abbrev pub wait : Cpu → FourLinks → List ℕ → CpuEffect
wait s ls m = do m ← save ls m (process_of s); Gave (leave s) ls m

-- a workspace is put in the queue
abbrev pub put_by : ℕ → Cpu → FourLinks → List ℕ → CpuEffect
put_by w s ls m = do (q, m) ← put ls s.queue m w; Gave (record s { queue = q }) ls m

-- if the byte count is 1,024, which it never passes: save, put W, leave. The chip uses time in its place
abbrev pub slice : Cpu → FourLinks → List ℕ → CpuEffect
slice s ls m =
    if s.bytes == 1024 then (do m ← save ls m (process_of s); put_by s.workspace (leave s) ls m) else Gave s ls m

-- the process of a descriptor is put; one of high priority halts the node
abbrev pub schedule : ℕ → Cpu → FourLinks → List ℕ → CpuEffect
schedule d s ls m = if d % 2 == 0 then Halted HighPriority ls m else put_by (aligned d) s ls m

-- MinInt by -1, whose quotient doesn't fit
abbrev pub divides_past : Cpu → Bool
divides_past s = (s.b == 0x80000000) && (s.a == 0xFFFFFFFF)

-- an operation, after the byte that asked for it
unfoldable pub row : PlainOperation → Cpu → FourLinks → List ℕ → CpuEffect
row op.Reverse s ls m = Gave (record s { a = s.b; b = s.a }) ls m  -- 00 rev
row op.LoadByte s ls m = do x ← load_byte ls m s.a; Gave (unary_result x s) ls m  -- 01 lb
row op.ByteSubscript s ls m = Gave (binary_result (s.a ⊕ s.b) s) ls m  -- 02 bsub
row op.EndProcess s ls m = do  -- 03 endp
  count ← load ls m (s.a ⊕ 4)
  if count == 1 then (do i ← load ls m s.a; Gave (goto i (at_workspace s.a s)) ls m)
      else (do m ← store ls m (s.a ⊕ 4) (count ⊖ 1); Gave (leave s) ls m)
row op.Difference s ls m = Gave (binary_result (s.b ⊖ s.a) s) ls m  -- 04 diff
row op.Add s ls m = error_if (sum_checked s.b s.a).1 (binary_result (sum_checked s.b s.a).0 s) ls m  -- 05 add
row op.GeneralCall s ls m = Gave (goto s.a (unary_result s.instruction s)) ls m  -- 06 gcall
row op.Product s ls m = Gave (binary_result (s.b ⊗ s.a) s) ls m  -- 08 prod
row op.GreaterThan s ls m = Gave (binary_result (bit (int_lt (signed s.a) (signed s.b))) s) ls m  -- 09 gt
row op.WordSubscript s ls m = Gave (binary_result (s.a ⊕ 4 ⊗ s.b) s) ls m  -- 0A wsub
row op.Subtract s ls m =
    error_if (difference_checked s.b s.a).1 (binary_result (difference_checked s.b s.a).0 s) ls m  -- 0C sub
row op.StartProcess s ls m = do  -- 0D startp
  m ← store ls m (s.a ⊖ 4) (s.instruction ⊕ s.b)
  put_by (aligned s.a) s ls m
row op.SetError s ls m = error_if true s ls m  -- 10 seterr
row op.CheckSubscriptFromZero s ls m = error_if (nat_le s.a s.b) (drop s) ls m  -- 13 csub0
row op.StopProcess s ls m = wait s ls m  -- 15 stopp
row op.LongAdd s ls m =  -- 16 ladd
    error_if (overflows (signed s.b +ℤ signed s.a +ℤ pos (carry s))) (unary_result (s.b ⊕ s.a ⊕ carry s) s) ls m
row op.StoreLowBack s ls m = Gave (drop (record s { queue = record s.queue { back = s.a } })) ls m  -- 17 stlb
row op.StoreHighFront s ls m = if s.a == not_process then Gave (drop s) ls m else Halted HighPriority ls m  -- 18 sthf
row op.Normalise s ls m =  -- 19 norm
    let places = leading_zeros w64 (double s.b s.a) in
    Gave (long (double s.b s.a * 2 ^ places) (record s { c = places })) ls m
row op.LongDivide s ls m =  -- 1A ldiv
    if nat_le s.a s.c
    then error_if true (record s { a = 0; b = 0 }) ls m
    else Gave (record s { a = double s.c s.b / s.a; b = double s.c s.b % s.a }) ls m
row op.LoadPointerToInstruction s ls m = Gave (unary_result (s.instruction ⊕ s.a) s) ls m  -- 1B ldpi
row op.StoreLowFront s ls m = Gave (drop (record s { queue = record s.queue { front = s.a } })) ls m  -- 1C stlf
row op.ExtendToDouble s ls m = Gave (record s { b = sign_of s.a; c = s.b }) ls m  -- 1D xdble
row op.LoadPriority s ls m = Gave (push 1 s) ls m  -- 1E ldpri
row op.Remainder s ls m =  -- 1F rem
    if s.a == 0 then error_if true (binary_result 0 s) ls m
    else (if divides_past s then Gave (binary_result 0 s) ls m
    else Gave (binary_result (cast_unsigned w32 (int_rem (signed s.b) (signed s.a))) s) ls m)
row op.Return s ls m =
    do i ← load ls m s.workspace; Gave (goto i (at_workspace (s.workspace ⊕ 16) s)) ls m  -- 20 ret
row op.LoopEnd s ls m = do  -- 21 lend
  count ← load ls m (s.b ⊕ 4)
  m ← store ls m (s.b ⊕ 4) (count ⊖ 1)
  if int_lt (pos 1) (signed count)
      then (do i ← load ls m s.b; m ← store ls m s.b (i ⊕ 1); slice (goto (s.instruction ⊖ s.a) s) ls m)
      else Gave s ls m
row op.TestError s ls m = Gave (record (push (bit (not s.error)) s) { error = false }) ls m  -- 29 testerr
row op.TestProcessorAnalysing s ls m = Gave (push 0 s) ls m  -- 2A testpranal
row op.Divide s ls m =  -- 2C div
    if s.a == 0 || divides_past s then error_if true (binary_result 0 s) ls m
    else Gave (binary_result (cast_unsigned w32 (int_div (signed s.b) (signed s.a))) s) ls m
row op.DisableSkip s ls m =  -- 30 diss
    if s.b == 0 then Gave (binary_result 0 s) ls m
    else (do
      selected ← load ls m s.workspace
      if selected == none_selected then (do m ← store ls m s.workspace s.a; Gave (binary_result 1 s) ls m)
          else Gave (binary_result 0 s) ls m)
row op.LongMultiply s ls m = Gave (long (s.b * s.a + s.c) s) ls m  -- 31 lmul
row op.Not s ls m = Gave (unary_result (2 ^ 32 - 1 - s.a) s) ls m  -- 32 not
row op.ExclusiveOr s ls m = Gave (binary_result (bit_xor s.b s.a) s) ls m  -- 33 xor
row op.ByteCount s ls m = Gave (unary_result (4 ⊗ s.a) s) ls m  -- 34 bcnt
row op.LongShiftRight s ls m = Gave (long (shifted_right 64 (double s.c s.b) s.a) s) ls m  -- 35 lshr
row op.LongShiftLeft s ls m = Gave (long (shifted_left 64 (double s.c s.b) s.a) s) ls m  -- 36 lshl
row op.LongSum s ls m = Gave (long (s.b + s.a + carry s) s) ls m  -- 37 lsum
row op.LongSubtract s ls m =  -- 38 lsub
    error_if (overflows (signed s.b -ℤ signed s.a -ℤ pos (carry s))) (unary_result (s.b ⊖ s.a ⊖ carry s) s) ls m
row op.RunProcess s ls m = schedule s.a s ls m  -- 39 runp
row op.ExtendToWord s ls m =
    Gave (binary_result (if nat_lt s.b s.a then s.b else s.b ⊖ 2 ⊗ s.a) s) ls m  -- 3A xword
row op.StoreByte s ls m = do m ← store_byte ls m s.a (s.b % 2 ^ 8); Gave (drop2 s) ls m  -- 3B sb
row op.GeneralAdjustWorkspace s ls m = Gave (at_workspace s.a (unary_result s.workspace s)) ls m  -- 3C gajw
row op.SaveLow s ls m =  -- 3D savel
    do m ← store ls m s.a s.queue.front; m ← store ls m (s.a ⊕ 4) s.queue.back; Gave (drop s) ls m
row op.SaveHigh s ls m =  -- 3E saveh
    do m ← store ls m s.a not_process; m ← store ls m (s.a ⊕ 4) not_process; Gave (drop s) ls m
row op.ShiftRight s ls m = Gave (binary_result (shifted_right 32 s.b s.a) s) ls m  -- 40 shr
row op.ShiftLeft s ls m = Gave (binary_result (shifted_left 32 s.b s.a) s) ls m  -- 41 shl
row op.MinimumInteger s ls m = Gave (push 0x80000000 s) ls m  -- 42 mint
row op.AltStart s ls m = do m ← store ls m (s.workspace ⊖ 12) enabling; Gave s ls m  -- 43 alt
row op.AltWait s ls m = do  -- 44 altwt
  m ← store ls m s.workspace none_selected
  state ← load ls m (s.workspace ⊖ 12)
  if state == ready then Gave s ls m else (do m ← store ls m (s.workspace ⊖ 12) waiting; wait s ls m)
row op.AltEnd s ls m = do offset ← load ls m s.workspace; Gave (goto (s.instruction ⊕ offset) s) ls m  -- 45 altend
row op.And s ls m = Gave (binary_result (bit_and s.b s.a) s) ls m  -- 46 and
row op.EnableSkip s ls m =  -- 49 enbs
    if s.a == 0 then Gave s ls m else (do m ← store ls m (s.workspace ⊖ 12) ready; Gave s ls m)
row op.MoveMessage s ls m = do m ← copy ls m s.a s.c s.b; Gave s ls m  -- 4A move: A bytes from C to B
row op.Or s ls m = Gave (binary_result (bit_or s.b s.a) s) ls m  -- 4B or
row op.CheckSingle s ls m = error_if (not (s.b == sign_of s.a)) (record s { b = s.c }) ls m  -- 4C csngl
row op.CheckCountFromOne s ls m = error_if (s.b == 0 || nat_lt s.a s.b) (drop s) ls m  -- 4D ccnt1
row op.LongDifference s ls m =  -- 4F ldiff
    Gave (record s { a = s.b ⊖ s.a ⊖ carry s; b = bit (nat_lt s.b (s.a + carry s)) }) ls m
row op.StoreHighBack s ls m = if s.a == not_process then Gave (drop s) ls m else Halted HighPriority ls m  -- 50 sthb
row op.Sum s ls m = Gave (binary_result (s.b ⊕ s.a) s) ls m  -- 52 sum
row op.Multiply s ls m =
    error_if (product_checked s.b s.a).1 (binary_result (product_checked s.b s.a).0 s) ls m  -- 53 mul
row op.StoreTimer s ls m = Gave (drop s) ls m  -- 54 sttimer; no clock is kept
row op.StopOnError s ls m = if s.error then wait s ls m else Gave s ls m  -- 55 stoperr
row op.CheckWord s ls m =  -- 56 cword
    error_if (int_le (signed s.a) (signed s.b) || int_lt (signed s.b) (neg_ℤ (signed s.a))) (drop s) ls m
row op.ClearHaltOnError s ls m = Gave (record s { halt_on_error = false }) ls m  -- 57 clrhalterr
row op.SetHaltOnError s ls m = Gave (record s { halt_on_error = true }) ls m  -- 58 sethalterr
row op.TestHaltOnError s ls m = Gave (push (bit s.halt_on_error) s) ls m  -- 59 testhalterr

-- opr of an operand that is a code, or of one that is none
abbrev pub operate : Option Operation → ℕ → Cpu → FourLinks → List ℕ → CpuEffect
operate (Some (Plain operation)) k s ls m = row operation s ls m
operate (Some (Channel operation)) k s ls m = channel_row operation s ls m
operate None k s ls m = Halted (UnknownOperation k) ls m

-- a function of an operand, after the byte that asked for it: O is 0 again and Iptr the next instruction
unfoldable pub direct : Function → ℕ → Cpu → FourLinks → List ℕ → CpuEffect
direct Jump k s ls m = slice (goto (s.instruction ⊕ k) s) ls m  -- 0 j
direct LoadLocalPointer k s ls m = Gave (push (s.workspace ⊕ 4 ⊗ k) s) ls m  -- 1 ldlp
direct Prefix k s ls m = Gave (record s { operand = shifted Prefix k }) ls m  -- 2 pfix
direct LoadNonLocal k s ls m = do x ← load ls m (s.a ⊕ 4 ⊗ k); Gave (unary_result x s) ls m  -- 3 ldnl
direct LoadConstant k s ls m = Gave (push k s) ls m  -- 4 ldc
direct LoadNonLocalPointer k s ls m = Gave (unary_result (s.a ⊕ 4 ⊗ k) s) ls m  -- 5 ldnlp
direct NegativePrefix k s ls m = Gave (record s { operand = shifted NegativePrefix k }) ls m  -- 6 nfix
direct LoadLocal k s ls m = do x ← load ls m (s.workspace ⊕ 4 ⊗ k); Gave (push x s) ls m  -- 7 ldl
direct AddConstant k s ls m = error_if (sum_checked s.a k).1 (unary_result (sum_checked s.a k).0 s) ls m  -- 8 adc
direct Call k s ls m = do  -- 9 call
  m ← store ls m (s.workspace ⊖ 4) s.c
  m ← store ls m (s.workspace ⊖ 8) s.b
  m ← store ls m (s.workspace ⊖ 12) s.a
  m ← store ls m (s.workspace ⊖ 16) s.instruction
  Gave (goto (s.instruction ⊕ k) (unary_result s.instruction (at_workspace (s.workspace ⊖ 16) s))) ls m
direct ConditionalJump k s ls m = Gave (if s.a == 0 then goto (s.instruction ⊕ k) s else drop s) ls m  -- A cj
direct AdjustWorkspace k s ls m = Gave (at_workspace (s.workspace ⊕ 4 ⊗ k) s) ls m  -- B ajw
direct EqualsConstant k s ls m = Gave (unary_result (bit (s.a == k)) s) ls m  -- C eqc
direct StoreLocal k s ls m = do m ← store ls m (s.workspace ⊕ 4 ⊗ k) s.a; Gave (drop s) ls m  -- D stl
direct StoreNonLocal k s ls m = do m ← store ls m (s.a ⊕ 4 ⊗ k) s.b; Gave (drop2 s) ls m  -- E stnl
direct Operate k s ls m = operate (operation_of k) k s ls m  -- F opr
