-- Operations on one value and on two do what they are worth.
use Rattle.std.proofs.Common.{◌≡◌, ℕ, ◌+◌, ◌-◌, ◌^◌, List, [], ◌∷◌, length, Option, Some, None, Ok, refl, sym, ap, ◌∙◌, subst, arith, Bool, true, false, not, nat_le, nat_lt}
use Rattle.std.specs.Prelude.{◌==◌, ◌||◌, slice_get, if◌then◌else◌, int_lt, int_div, int_rem, bit_and, bit_or, bit_xor}
use Rattle.std.specs.Int.{w32, cast_unsigned}
use Rattle.std.proofs.lemmas.Bool.Decides.{nat_tests}
use Rattle.node_memory.specs.Effect.{Gave, Halted, tried}
use Rattle.node_memory.specs.Bytes.{byte_at}
use Rattle.node_memory.specs.Words.{◌⊕◌, ◌⊖◌, ◌⊗◌, signed, sum_checked, difference_checked, product_checked, shifted_left, shifted_right}
use Rattle.node_memory.specs.declared.fault.Fault.TheVariants.{ErrorSet}
use Rattle.link_channels.specs.declared.link.FourLinks.{FourLinks}
use Rattle.t414_decode.specs.Codes.{operation_of}
use Rattle.t414_decode.specs.declared.instruction.Function.{Function}
use Rattle.t414_decode.specs.declared.instruction.Function.TheVariants.{LoadConstant, LoadLocalPointer, EqualsConstant, Operate}
use Rattle.t414_decode.specs.declared.instruction.Operation.TheVariants.{Plain}
use Rattle.t414_decode.specs.declared.instruction.PlainOperation.{PlainOperation}
use Rattle.t414_decode.specs.declared.instruction.PlainOperation.TheVariants as op
use Rattle.t414_assembly.specs.declared.statement.Operand.{Operand}
use Rattle.t414_assembly.specs.declared.statement.Operand.TheVariants as operand
use Rattle.t414_assembly.specs.declared.statement.Statement.{Statement}
use Rattle.t414_assembly.specs.declared.statement.Statement.TheVariants.{Instruction}
use Rattle.t414_step.specs.declared.cpu.Cpu.{Cpu}
use Rattle.t414_step.specs.ChannelRows.{CpuEffect}
use Rattle.t414_step.specs.Registers.{bit}
use Rattle.t414_step.specs.Rows.{error_if, row, operate, direct}
use Rattle.occam_core.specs.declared.expression.OneOperation.{OneOperation}
use Rattle.occam_core.specs.declared.expression.OneOperation.TheVariants as one
use Rattle.occam_core.specs.declared.expression.TwoOperation.{TwoOperation}
use Rattle.occam_core.specs.declared.expression.TwoOperation.TheVariants as two
use Rattle.occam_core.specs.Values.{unless, truth, result_of, result_of_one, below, divides_past_an_int}
use Rattle.occam_code.specs.Instructions as asm
use Rattle.occam_code.specs.Expressions.{one_code, two_code, shift_code}
use Rattle.occam_code.specs.Machine.{done_at}
use Rattle.occam_code.specs.Evaluates.{Holds, KeepsOthers, Comes}
use Rattle.occam_code.proofs.Stepping.{HasAt, Goes, goes_on, falls_on, step, fall}
use Rattle.occam_code.proofs.Workspace.{kept_same, kept_then}

-- the registers with other values of Iptr, A, B and C
abbrev pub at : Cpu → ℕ → ℕ → ℕ → ℕ → Cpu
at s i a b c = record s { instruction = i; a = a; b = b; c = c }

-- one place more after another
two_more : (k : ℕ) → k + 1 + 1 ≡ k + 2
two_more k = omega arith

three_more : (k : ℕ) → k + 1 + 1 + 1 ≡ k + 3
three_more k = omega arith

-- a value isn't below a bound
pub not_below : (x bound : ℕ) → nat_le bound x ≡ not (nat_lt x bound)
not_below x bound = grind (arith, nat_tests)

more_than : (x bound : ℕ) → nat_le (bound + 1) x ≡ nat_lt bound x
more_than x bound = grind (arith, nat_tests)

-- A is 0 twice: whether a value isn't 0
pub twice : (b : Bool) → bit (bit b == 0) ≡ truth (not b)
twice true = refl
twice false = refl

inside_if : (b : Bool) (effect : ℕ → CpuEffect) (x v : ℕ)
    → (if b then effect x else effect v) ≡ effect (if b then x else v)
inside_if true effect x v = refl
inside_if false effect x v = refl

module _ (address : ℕ → ℕ) (program : List Statement) (ls : FourLinks) (base size count : ℕ) (store : List ℕ) where
  -- what comes of a code, in the workspace of this module
  abbrev pub Ends : ℕ → ℕ → Cpu → List ℕ → Option ℕ → Type 0
  Ends last first s m outcome = Comes address program ls last first base size count store s m outcome

  -- a run, in the program of this module
  abbrev pub Moves : Cpu → List ℕ → Cpu → List ℕ → Type 0
  Moves s m after u = Goes address program ls s m after u

  -- an end after a run to another place
  pub later : (outcome : Option ℕ) (last first i a b c : ℕ) (s : Cpu) (m u : List ℕ) → Moves s m (at s i a b c) u
      → KeepsOthers s.workspace first size m u → Ends last first (at s i a b c) u outcome → Ends last first s m outcome
  later None last first i a b c s m u moves kept reaches =
      λ halts. falls_on address program ls s (at s i a b c) m u moves (reaches halts)
  later (Some x) last first i a b c s m u moves kept reaches =
      let all =
      goes_on address program ls s (at s i a b c) (at s (address last) x reaches.b reaches.c) m u reaches.memory moves
      (record { number = reaches.number; leads = reaches.leads }) in
      record {
        number = all.number;
        b = reaches.b;
        c = reaches.c;
        memory = reaches.memory;
        leads = all.leads;
        kept = kept_then s.workspace first first size m u reaches.memory (omega arith) kept reaches.kept;
        holds = reaches.holds;
      }

  -- the same if memory hasn't changed
  pub onward : (outcome : Option ℕ) (last first i a b c : ℕ) (s : Cpu) (m : List ℕ) → Moves s m (at s i a b c) m
      → Ends last first (at s i a b c) m outcome → Ends last first s m outcome
  onward outcome last first i a b c s m moves reaches =
      later outcome last first i a b c s m m moves (kept_same s.workspace first size m) reaches

  -- a value at the end of a run
  pub arrives : (last first x b c : ℕ) (s : Cpu) (m : List ℕ) → Holds s.workspace base size count store m
      → Moves s m (at s (address last) x b c) m → Ends last first s m (Some x)
  arrives last first x b c s m holds moves =
      record {
        number = moves.number;
        b = b;
        c = c;
        memory = m;
        leads = moves.leads;
        kept = kept_same s.workspace first size m;
        holds = holds;
      }

  -- an instruction that may be an error
  pub checks : (bad : Bool) (k first x b c : ℕ) (f : Function) (o : Operand) (s : Cpu) (m : List ℕ)
      → slice_get program k ≡ Some (Instruction f o) → s.instruction ≡ address k
      → Holds s.workspace base size count store m
      → done_at address k f o s ls m ≡ error_if bad (at s (address (k + 1)) x b c) ls m
      → Ends (k + 1) first s m (unless bad x)
  checks true k first x b c f o s m is here holds does =
      λ halts. fall address program ls k f o s m is here
      (does ∙ ap (λ q. if q then Halted ErrorSet ls m
      else Gave (record (at s (address (k + 1)) x b c) { error = true }) ls m) halts)
  checks false k first x b c f o s m is here holds does =
      arrives (k + 1) first x b c s m holds
      (step address program ls k f o s (at s (address (k + 1)) x b c) m m is here does)

  -- an operation by its code
  done_plain : (k n : ℕ) (operation : PlainOperation) (s : Cpu) (m : List ℕ) → operation_of n ≡ Some (Plain operation)
      → done_at address k Operate (operand.Number n) s ls m ≡ row operation (record s {
        instruction = address
            (k + 1);
      }) ls m
  unfolding direct
  done_plain k n operation s m named = ap (λ q. operate q n (record s { instruction = address (k + 1) }) ls m) named

  plain : (k n : ℕ) (operation : PlainOperation) (s after : Cpu) (m : List ℕ)
      → slice_get program k ≡ Some (asm.operation n)
      → s.instruction ≡ address k → operation_of n ≡ Some (Plain operation)
      → row operation (record s { instruction = address (k + 1) }) ls m ≡ Gave after ls m → Moves s m after m
  plain k n operation s after m is here named does =
      step address program ls k Operate (operand.Number n) s after m m is here (done_plain k n operation s m named
      ∙ does)

  -- ldc
  pub constant : (k n a b c : ℕ) (s : Cpu) (m : List ℕ) → slice_get program k ≡ Some (asm.ldc n)
      → Moves (at s (address k) a b c) m (at s (address (k + 1)) n a b) m
  unfolding direct
  constant k n a b c s m is =
      step address program ls k LoadConstant (operand.Number n) (at s (address k) a b c)
      (at s (address (k + 1)) n a b) m m is refl refl

  -- eqc
  pub equals : (k n a b c : ℕ) (s : Cpu) (m : List ℕ) → slice_get program k ≡ Some (asm.eqc n)
      → Moves (at s (address k) a b c) m (at s (address (k + 1)) (bit (a == n)) b c) m
  unfolding direct
  equals k n a b c s m is =
      step address program ls k EqualsConstant (operand.Number n) (at s (address k) a b c)
      (at s (address (k + 1)) (bit (a == n)) b c) m m is refl refl

  -- ldlp
  pub points : (k j a b c : ℕ) (s : Cpu) (m : List ℕ) → slice_get program k ≡ Some (asm.ldlp j)
      → Moves (at s (address k) a b c) m (at s (address (k + 1)) (s.workspace ⊕ 4 ⊗ j) a b) m
  unfolding direct
  points k j a b c s m is =
      step address program ls k LoadLocalPointer (operand.Number j) (at s (address k) a b c)
      (at s (address (k + 1)) (s.workspace ⊕ 4 ⊗ j) a b) m m is refl refl

  -- wsub
  pub word_subscript : (k a b c : ℕ) (s : Cpu) (m : List ℕ) → slice_get program k ≡ Some asm.wsub
      → Moves (at s (address k) a b c) m (at s (address (k + 1)) (a ⊕ 4 ⊗ b) c c) m
  unfolding row operation_of
  word_subscript k a b c s m is =
      plain k 0x0A op.WordSubscript (at s (address k) a b c) (at s (address (k + 1)) (a ⊕ 4 ⊗ b) c c) m is refl refl
      refl

  -- bsub
  pub byte_subscript : (k a b c : ℕ) (s : Cpu) (m : List ℕ) → slice_get program k ≡ Some asm.bsub
      → Moves (at s (address k) a b c) m (at s (address (k + 1)) (a ⊕ b) c c) m
  unfolding row operation_of
  byte_subscript k a b c s m is =
      plain k 0x02 op.ByteSubscript (at s (address k) a b c) (at s (address (k + 1)) (a ⊕ b) c c) m is refl refl refl

  -- lb
  pub loads_byte : (k a b c x : ℕ) (s : Cpu) (m : List ℕ) → slice_get program k ≡ Some asm.lb
      → byte_at m a ≡ Ok x → Moves (at s (address k) a b c) m (at s (address (k + 1)) x b c) m
  unfolding row operation_of
  loads_byte k a b c x s m is found =
      plain k 0x01 op.LoadByte (at s (address k) a b c) (at s (address (k + 1)) x b c) m is refl refl
      (ap (λ r. tried r ls m (λ y. Gave (at s (address (k + 1)) y b c) ls m)) found)

  reverses : (k a b c : ℕ) (s : Cpu) (m : List ℕ) → slice_get program k ≡ Some asm.rev
      → Moves (at s (address k) a b c) m (at s (address (k + 1)) b a c) m
  unfolding row operation_of
  reverses k a b c s m is =
      plain k 0x00 op.Reverse (at s (address k) a b c) (at s (address (k + 1)) b a c) m is refl refl refl

  differs : (k a b c : ℕ) (s : Cpu) (m : List ℕ) → slice_get program k ≡ Some asm.diff
      → Moves (at s (address k) a b c) m (at s (address (k + 1)) (b ⊖ a) c c) m
  unfolding row operation_of
  differs k a b c s m is =
      plain k 0x04 op.Difference (at s (address k) a b c) (at s (address (k + 1)) (b ⊖ a) c c) m is refl refl refl

  greater : (k a b c : ℕ) (s : Cpu) (m : List ℕ) → slice_get program k ≡ Some asm.gt
      → Moves (at s (address k) a b c) m (at s (address (k + 1)) (bit (int_lt (signed a) (signed b))) c c) m
  unfolding row operation_of
  greater k a b c s m is =
      plain k 0x09 op.GreaterThan (at s (address k) a b c)
      (at s (address (k + 1)) (bit (int_lt (signed a) (signed b))) c c) m is refl refl refl

  -- an operation that may be an error
  plain_checks : (bad : Bool) (k first n x a b c b' c' : ℕ) (operation : PlainOperation) (s : Cpu) (m : List ℕ)
      → slice_get program k ≡ Some (asm.operation n) → Holds s.workspace base size count store m
      → operation_of n ≡ Some (Plain operation)
      → row operation (at s (address (k + 1)) a b c) ls m ≡ error_if bad (at s (address (k + 1)) x b' c') ls m
      → Ends (k + 1) first (at s (address k) a b c) m (unless bad x)
  plain_checks bad k first n x a b c b' c' operation s m is holds named does =
      checks bad k first x b' c' Operate (operand.Number n) (at s (address k) a b c) m is refl holds
      (done_plain k n operation (at s (address k) a b c) m named ∙ does)

  -- ldc bound; csub0
  pub bounded : (k first bound a b c : ℕ) (s : Cpu) (m : List ℕ)
      → HasAt program k (asm.ldc bound ∷ asm.csub0 ∷ []) → Holds s.workspace base size count store m
      → Ends (k + 2) first (at s (address k) a b c) m (below bound a)
  unfolding row operation_of
  bounded k first bound a b c s m has holds =
      let all =
      onward _ (k + 1 + 1) first (address (k + 1)) bound a b (at s (address k) a b c) m
      (constant k bound a b c s m has.0)
      (plain_checks (nat_le bound a) (k + 1) first 0x13 a bound a b b b op.CheckSubscriptFromZero s m has.1.0 holds refl
      refl) in
      rw (sym (two_more k), sym (not_below a bound)) all

  -- the end of a run at a place under another name
  pub ends_at : (outcome : Option ℕ) (last next first : ℕ) (s : Cpu) (m : List ℕ) → last ≡ next
      → Ends last first s m outcome
      → Ends next first s m outcome
  ends_at outcome last next first s m same reaches = subst (λ k. Ends k first s m outcome) same reaches

  -- an operation without errors
  gives : (k first n x a b c b' c' : ℕ) (operation : PlainOperation) (s : Cpu) (m : List ℕ)
      → slice_get program k ≡ Some (asm.operation n) → Holds s.workspace base size count store m
      → operation_of n ≡ Some (Plain operation)
      → row operation (at s (address (k + 1)) a b c) ls m ≡ Gave (at s (address (k + 1)) x b' c') ls m
      → Ends (k + 1) first (at s (address k) a b c) m (Some x)
  gives k first n x a b c b' c' operation s m is holds named does =
      plain_checks false k first n x a b c b' c' operation s m is holds named does

  -- an error, or a value
  if_checks : (bad : Bool) (k first n x other a b c b' c' : ℕ) (operation : PlainOperation) (s : Cpu) (m : List ℕ)
      → slice_get program k ≡ Some (asm.operation n) → Holds s.workspace base size count store m
      → operation_of n ≡ Some (Plain operation)
      → row operation (at s (address (k + 1)) a b c) ls m
      ≡ (if bad then error_if true (at s (address (k + 1)) other b' c') ls m
      else Gave (at s (address (k + 1)) x b' c') ls m)
      → Ends (k + 1) first (at s (address k) a b c) m (unless bad x)
  if_checks true k first n x other a b c b' c' operation s m is holds named does =
      plain_checks true k first n other a b c b' c' operation s m is holds named does
  if_checks false k first n x other a b c b' c' operation s m is holds named does =
      plain_checks false k first n x a b c b' c' operation s m is holds named does

  -- eqc 0 at the end
  pub last_equals : (k first a b c : ℕ) (s : Cpu) (m : List ℕ) → slice_get program k ≡ Some (asm.eqc 0)
      → Holds s.workspace base size count store m
      → Ends (k + 1) first (at s (address k) a b c) m (Some (bit (a == 0)))
  last_equals k first a b c s m is holds =
      arrives (k + 1) first (bit (a == 0)) b c (at s (address k) a b c) m holds (equals k 0 a b c s m is)

  -- the code of an operation on A
  pub one_run : (operation : OneOperation) (k first x b c : ℕ) (s : Cpu) (m : List ℕ)
      → HasAt program k (one_code operation)
      → Holds s.workspace base size count store m
      → Ends (k + length (one_code operation)) first (at s (address k) x b c) m (result_of_one operation x)
  unfolding row operation_of
  one_run one.Negate k first x b c s m has holds =
      ends_at (result_of_one one.Negate x) (k + 1 + 1 + 1) (k + 3) first (at s (address k) x b c) m (three_more k)
      (onward (result_of_one one.Negate x) (k + 1 + 1 + 1) first (address (k + 1)) 0 x b (at s (address k) x b c) m
      (constant k 0 x b c s m has.0)
      (onward (result_of_one one.Negate x) (k + 1 + 1 + 1) first (address (k + 1 + 1)) x 0 b
      (at s (address (k + 1)) 0 x b) m (reverses (k + 1) 0 x b s m has.1.0)
      (plain_checks (difference_checked 0 x).1 (k + 1 + 1) first 0x0C (difference_checked 0 x).0 x 0 b b b op.Subtract
      s m has.1.1.0 holds refl refl)))
  one_run one.Minus k first x b c s m has holds =
      ends_at (result_of_one one.Minus x) (k + 1 + 1 + 1) (k + 3) first (at s (address k) x b c) m (three_more k)
      (onward (result_of_one one.Minus x) (k + 1 + 1 + 1) first (address (k + 1)) 0 x b (at s (address k) x b c) m
      (constant k 0 x b c s m has.0)
      (onward (result_of_one one.Minus x) (k + 1 + 1 + 1) first (address (k + 1 + 1)) x 0 b
      (at s (address (k + 1)) 0 x b) m (reverses (k + 1) 0 x b s m has.1.0)
      (gives (k + 1 + 1) first 0x04 (0 ⊖ x) x 0 b b b op.Difference s m has.1.1.0 holds refl refl)))
  one_run one.Complement k first x b c s m has holds =
      gives k first 0x32 (2 ^ 32 - 1 - x) x b c b c op.Not s m has.0 holds refl refl
  one_run one.Not k first x b c s m has holds = last_equals k first x b c s m has.0 holds

  -- csub0 of 33, and a shift
  shift_checks : (bad : Bool) (n : ℕ) (operation : PlainOperation) (shifted : ℕ
      → ℕ) (k first y x : ℕ) (s : Cpu) (m : List ℕ)
      → slice_get program k ≡ Some asm.csub0 → slice_get program (k + 1) ≡ Some (asm.operation n)
      → Holds s.workspace base size count store m → operation_of n ≡ Some (Plain operation)
      → ((z i d : ℕ) → row operation (at s i z x d) ls m ≡ Gave (at s i (shifted z) d d) ls m) → nat_le 33 y ≡ bad
      → Ends (k + 1 + 1) first (at s (address k) 33 y x) m (unless bad (shifted y))
  unfolding row operation_of
  shift_checks true n operation shifted k first y x s m check is holds named does same =
      plain_checks true k first 0x13 y 33 y x x x op.CheckSubscriptFromZero s m check holds refl
      (ap (λ b. error_if b (at s (address (k + 1)) y x x) ls m) same)
  shift_checks false n operation shifted k first y x s m check is holds named does same =
      onward (Some (shifted y)) (k + 1 + 1) first (address (k + 1)) y x x (at s (address k) 33 y x) m
      (plain k 0x13 op.CheckSubscriptFromZero (at s (address k) 33 y x) (at s (address (k + 1)) y x x) m check refl refl
      (ap (λ b. error_if b (at s (address (k + 1)) y x x) ls m) same))
      (gives (k + 1) first n (shifted y) y x x x x operation s m is holds named (does y (address (k + 1 + 1)) x))

  -- ldc 33; csub0, and a shift
  shift_run : (n : ℕ) (operation : PlainOperation) (shifted : ℕ → ℕ) (k first y x c : ℕ) (s : Cpu) (m : List ℕ)
      → HasAt program k (shift_code n) → Holds s.workspace base size count store m → operation_of n ≡ Some (Plain
      operation)
      → ((z i d : ℕ) → row operation (at s i z x d) ls m ≡ Gave (at s i (shifted z) d d) ls m)
      → Ends (k + 3) first (at s (address k) y x c) m (unless (nat_lt 32 y) (shifted y))
  shift_run n operation shifted k first y x c s m has holds named does =
      ends_at (unless (nat_lt 32 y) (shifted y)) (k + 1 + 1 + 1) (k + 3) first (at s (address k) y x c) m (three_more k)
      (onward (unless (nat_lt 32 y) (shifted y)) (k + 1 + 1 + 1) first (address (k + 1)) 33 y x
      (at s (address k) y x c) m
      (constant k 33 y x c s m has.0)
      (shift_checks (nat_lt 32 y) n operation shifted (k + 1) first y x s m has.1.0 has.1.1.0 holds named does
      (more_than y 32)))

  -- the code of an operation on B and A
  pub two_run : (operation : TwoOperation) (k first y x c : ℕ) (s : Cpu) (m : List ℕ)
      → HasAt program k (two_code operation)
      → Holds s.workspace base size count store m
      → Ends (k + length (two_code operation)) first (at s (address k) y x c) m (result_of operation x y)
  unfolding row operation_of
  two_run two.Add k first y x c s m has holds =
      plain_checks (sum_checked x y).1 k first 0x05 (sum_checked x y).0 y x c c c op.Add s m has.0 holds refl refl
  two_run two.Subtract k first y x c s m has holds =
      plain_checks (difference_checked x y).1 k first 0x0C
      (difference_checked x y).0 y x c c c op.Subtract s m has.0 holds refl
      refl
  two_run two.Multiply k first y x c s m has holds =
      plain_checks (product_checked x y).1 k first 0x53
      (product_checked x y).0 y x c c c op.Multiply s m has.0 holds refl refl
  two_run two.Divide k first y x c s m has holds =
      if_checks (y == 0 || divides_past_an_int x y) k first 0x2C (cast_unsigned w32 (int_div (signed x)
      (signed y))) 0 y x
      c c c
      op.Divide s m has.0 holds refl refl
  two_run two.Remainder k first y x c s m has holds =
      let past = divides_past_an_int x y in
      let r = cast_unsigned w32 (int_rem (signed x) (signed y)) in
      if_checks (y == 0) k first 0x1F (if past then 0 else r) 0 y x c c c op.Remainder s m has.0 holds refl
      (ap (λ q. if (y == 0) then error_if true (at s (address (k + 1)) 0 c c) ls m else q)
      (inside_if past (λ z. Gave (at s (address (k + 1)) z c c) ls m) 0 r))
  two_run two.Plus k first y x c s m has holds = gives k first 0x52 (x ⊕ y) y x c c c op.Sum s m has.0 holds refl refl
  two_run two.Minus k first y x c s m has holds =
      gives k first 0x04 (x ⊖ y) y x c c c op.Difference s m has.0 holds refl refl
  two_run two.Times k first y x c s m has holds =
      gives k first 0x08 (x ⊗ y) y x c c c op.Product s m has.0 holds refl refl
  two_run two.BitAnd k first y x c s m has holds =
      gives k first 0x46 (bit_and x y) y x c c c op.And s m has.0 holds refl refl
  two_run two.BitOr k first y x c s m has holds =
      gives k first 0x4B (bit_or x y) y x c c c op.Or s m has.0 holds refl refl
  two_run two.BitXor k first y x c s m has holds =
      gives k first 0x33 (bit_xor x y) y x c c c op.ExclusiveOr s m has.0 holds refl refl
  two_run two.ShiftLeft k first y x c s m has holds =
      shift_run asm.shl op.ShiftLeft (shifted_left 32 x) k first y x c s m has holds refl (λ z i d. refl)
  two_run two.ShiftRight k first y x c s m has holds =
      shift_run asm.shr op.ShiftRight (shifted_right 32 x) k first y x c s m has holds refl (λ z i d. refl)
  two_run two.Equal k first y x c s m has holds =
      ends_at (result_of two.Equal x y) (k + 1 + 1) (k + 2) first (at s (address k) y x c) m (two_more k)
      (onward (result_of two.Equal x y) (k + 1 + 1) first (address (k + 1)) (x ⊖ y) c c (at s (address k) y x c) m
      (differs k y x c s m has.0) (last_equals (k + 1) first (x ⊖ y) c c s m has.1.0 holds))
  two_run two.NotEqual k first y x c s m has holds =
      let b = (x ⊖ y) == 0 in
      let r = result_of two.NotEqual x y in
      let last = last_equals (k + 1 + 1) first (bit b) c c s m has.1.1.0 holds in
      ends_at r (k + 1 + 1 + 1) (k + 3) first (at s (address k) y x c) m (three_more k)
      (onward r (k + 1 + 1 + 1) first (address (k + 1)) (x ⊖ y) c c (at s (address k) y x c) m
      (differs k y x c s m has.0)
      (onward r (k + 1 + 1 + 1) first (address (k + 1 + 1)) (bit b) c c (at s (address (k + 1)) (x ⊖ y) c c) m
      (equals (k + 1) 0 (x ⊖ y) c c s m has.1.0)
      (subst (λ z. Ends (k + 1 + 1 + 1) first (at s (address (k + 1 + 1)) (bit b) c c) m (Some z)) (twice b) last)))
  two_run two.Less k first y x c s m has holds =
      let r = result_of two.Less x y in
      ends_at r (k + 1 + 1) (k + 2) first (at s (address k) y x c) m (two_more k)
      (onward r (k + 1 + 1) first (address (k + 1)) x y c (at s (address k) y x c) m (reverses k y x c s m has.0)
      (gives (k + 1) first 0x09 (bit (int_lt (signed x)
      (signed y))) x y c c c op.GreaterThan s m has.1.0 holds refl refl))
  two_run two.Greater k first y x c s m has holds =
      gives k first 0x09 (bit (int_lt (signed y) (signed x))) y x c c c op.GreaterThan s m has.0 holds refl refl
  two_run two.AtMost k first y x c s m has holds =
      let b = int_lt (signed y) (signed x) in
      let r = result_of two.AtMost x y in
      let last = last_equals (k + 1) first (bit b) c c s m has.1.0 holds in
      ends_at r (k + 1 + 1) (k + 2) first (at s (address k) y x c) m (two_more k)
      (onward r (k + 1 + 1) first (address (k + 1)) (bit b) c c (at s (address k) y x c) m (greater k y x c s m has.0)
      (subst (λ z. Ends (k + 1 + 1) first (at s (address (k + 1)) (bit b) c c) m (Some z)) (twice b) last))
  two_run two.AtLeast k first y x c s m has holds =
      let b = int_lt (signed x) (signed y) in
      let r = result_of two.AtLeast x y in
      let last = last_equals (k + 1 + 1) first (bit b) c c s m has.1.1.0 holds in
      ends_at r (k + 1 + 1 + 1) (k + 3) first (at s (address k) y x c) m (three_more k)
      (onward r (k + 1 + 1 + 1) first (address (k + 1)) x y c (at s (address k) y x c) m (reverses k y x c s m has.0)
      (onward r (k + 1 + 1 + 1) first (address (k + 1 + 1)) (bit b) c c (at s (address (k + 1)) x y c) m
      (greater (k + 1) x y c s m has.1.0)
      (subst (λ z. Ends (k + 1 + 1 + 1) first (at s (address (k + 1 + 1)) (bit b) c c) m (Some z)) (twice b) last)))
