-- The code of a sequential process does what the process does: for the law of processes.
use Rattle.std.proofs.Common.{Box, Global, ◌≡◌, ℕ, zero, suc, ◌+◌, ◌-◌, ◌^◌, ◌<◌, ◌≤◌, List, [], ◌∷◌, ◌++◌, length, length-append, length-set, Option, Some, None, refl, sym, ap, ◌∙◌, subst, arith, Bool, true, false}
use Rattle.std.specs.Prelude.{◌==◌, slice_index, slice_set, if◌then◌else◌}
use Rattle.node_memory.specs.Effect.{Gave, Halted, tried}
use Rattle.node_memory.specs.Words.{◌⊕◌}
use Rattle.node_memory.specs.declared.fault.Fault.TheVariants.{ErrorSet}
use Rattle.link_channels.specs.declared.link.FourLinks.{FourLinks}
use Rattle.t414_decode.specs.Codes.{operation_of}
use Rattle.t414_decode.specs.declared.instruction.Function.{Function}
use Rattle.t414_decode.specs.declared.instruction.Function.TheVariants.{Jump, StoreLocal, ConditionalJump, Operate}
use Rattle.t414_assembly.specs.declared.statement.Operand.{Operand}
use Rattle.t414_assembly.specs.declared.statement.Operand.TheVariants as operand
use Rattle.t414_assembly.specs.declared.statement.Statement.{Statement}
use Rattle.t414_assembly.specs.declared.statement.Statement.TheVariants.{Instruction}
use Rattle.t414_assembly.specs.Program.{less, plus, operand_of}
use Rattle.t414_step.specs.declared.cpu.Cpu.{Cpu}
use Rattle.t414_step.specs.Rows.{row, direct, slice}
use Rattle.occam_core.specs.declared.expression.Expression.{Expression}
use Rattle.occam_core.specs.declared.process.CoreProcess.{CoreProcess}
use Rattle.occam_core.specs.declared.process.CoreProcess.TheVariants.{Skip, Stop, Assign, Sequence', If', While'}
use Rattle.occam_core.specs.Values.{value}
use Rattle.occam_core.specs.Processes.{Situation, Course, Ended, Erred, Awaits, Unfinished, then_do, value_then, assigned, turns, does}
use Rattle.occam_code.specs.declared.frame.FrameWords.{FrameWords}
use Rattle.occam_code.specs.Instructions as asm
use Rattle.occam_code.specs.Words.{temporaries_of, process_temporaries}
use Rattle.occam_code.specs.Expressions.{expression_code}
use Rattle.occam_code.specs.Code.{process_code}
use Rattle.occam_code.specs.Machine.{done_at}
use Rattle.occam_code.specs.Evaluates.{Holds, KeepsOthers, Comes}
use Rattle.occam_code.specs.Alone.{LoneSetting, LoneProcess, Running, Stopped, AtInput, after_others, left_after, ByRow, ThenOthers, manner_of}
use Rattle.occam_code.specs.Behaves.{IsWithin, ProcessIsWithin}
use Rattle.occam_code.proofs.Workspace.{with_word_in, word_put, kept_then}
use Rattle.occam_code.proofs.Operations.{at}
use Rattle.occam_code.proofs.Values.{IsWord, value_word}
use Rattle.occam_code.proofs.Running.{landing, is_zero, word_after, stored, runs}
use Rattle.occam_code.proofs.Quiet.{AreByRow, quiet_expression}
use Rattle.occam_code.proofs.Lone.{blanks, has_behind, Lies, lies_front, lies_back, run, Advances, Proceeds, waits, advances_on, some, one_on, staged, lone, leads_lone, stops_on, falls_lone}
use Rattle.occam_code.proofs.Assigning.{holds_assigned, kept_word}

-- the second of two, where a test fails
pub if_false : {A : Type 0} (b : Bool) (x y : A) → b ≡ false → (if b then x else y) ≡ y
if_false b x y is = ap (λ q. if q then x else y) is

-- no slice ends
pub slice_goes_on : (t : Cpu) (ls : FourLinks) (m : List ℕ) → (t.bytes == 1024) ≡ false → slice t ls m ≡ Gave t ls m
slice_goes_on t ls m in_slice = if_false (t.bytes == 1024) _ (Gave t ls m) in_slice

-- a store is as long as before
pub set_long : (store : List ℕ) (v y : ℕ) → length (slice_set store v y) ≡ length store
set_long store v y = simp length-set

-- where a process is run by itself: its program, the registers and the links that stay, where its words are, and memory
-- as it was at the beginning
pub record Ground : Type 0 where
  pub setting : LoneSetting
  pub addresses : (k : ℕ) → setting.address k < 2 ^ 32
  pub program : List Statement
  pub registers : Cpu
  pub links : FourLinks
  pub base : ℕ
  pub size : ℕ
  pub count : ℕ
  pub begun : List ℕ
  pub halts : registers.halt_on_error ≡ true
  pub in_slice : (registers.bytes == 1024) ≡ false
  pub own : 1 ≤ base

module _ (ground : Ground) where
  open ground use {
    setting as g,
    addresses,
    program,
    registers as s,
    links as ls,
    base,
    size,
    count,
    begun,
    halts,
    in_slice,
  }

  -- the words that are free from one on
  abbrev pub from : ℕ → FrameWords
  from temporary = record { base = base; temporary = temporary }

  -- the process is at a place, in a situation
  abbrev pub st : ℕ → ℕ → ℕ → ℕ → List ℕ → Situation → ℕ → LoneProcess
  st k a b c m now breaks = lone g program ls (at s (g.address k) a b c) m now breaks

  -- memory holds the situation's variables, and has kept what isn't the workspace's
  pub record Held (m : List ℕ) (now : Situation) : Type 0 where
    pub holds : Holds s.workspace base size count now.store m
    pub kept : KeepsOthers s.workspace 0 size begun m
    pub long : length now.store ≡ count
    pub bytes : (i : ℕ) → slice_index now.coming i < 2 ^ 8

  -- some statements lead to a place, in a situation
  pub record Arrives (last : ℕ) (p : LoneProcess) (end : Situation) : Type 0 where
    pub a : ℕ
    pub b : ℕ
    pub c : ℕ
    pub memory : List ℕ
    pub breaks : ℕ
    pub goes : Advances g program p (st last a b c memory end breaks)
    pub held : Held memory end

  -- what a run does that is as a course says
  abbrev pub Shows : ℕ → ℕ → LoneProcess → Course → Type 0
  Shows n last p (Ended end) = Arrives last p end
  Shows n last p (Erred talk) = (j : ℕ) × (run g program j p ≡ Stopped ErrorSet talk)
  Shows n last p (Awaits talk) = (j : ℕ) × (run g program j p ≡ AtInput talk)
  Shows n last p (Unfinished talk) =
      (j : ℕ) × (after : LoneProcess) × (n ≤ j) × (run g program j p ≡ Running after) × (after.talk ≡ talk)

  -- the same after some statements
  pub later : (course : Course) (n last : ℕ) (p after : LoneProcess) → Advances g program p after → Shows n last
      after course
      → Shows n last p course
  later (Ended end) n last p after adv shows =
      record {
        a = shows.a;
        b = shows.b;
        c = shows.c;
        memory = shows.memory;
        breaks = shows.breaks;
        goes = advances_on g program p after (st last shows.a shows.b shows.c shows.memory end shows.breaks) adv
            shows.goes;
        held = shows.held;
      }
  later (Erred talk) n last p after adv shows = let a = adv.by shows.0 in (a.0, a.2 ∙ shows.1)
  later (Awaits talk) n last p after adv shows = let a = adv.by shows.0 in (a.0, a.2 ∙ shows.1)
  later (Unfinished talk) n last p after adv shows =
      let a = adv.by shows.0 in (a.0, shows.1, omega (arith, a.1, shows.2), a.2 ∙ shows.3, shows.4)

  -- after one statement or more the run is longer
  pub later_more : (course : Course) (n last : ℕ) (p after : LoneProcess) → Proceeds g program p after → Shows n last
      after course
      → Shows (suc n) last p course
  later_more (Ended end) n last p after adv shows = later (Ended end) n last p after (some g program p after adv) shows
  later_more (Erred talk) n last p after adv shows = later (Erred talk) n last p after (some g program p after adv)
      shows
  later_more (Awaits talk) n last p after adv shows = later (Awaits talk) n last p after (some g program p after adv)
      shows
  later_more (Unfinished talk) n last p after adv shows =
      let a = adv.by shows.0 in (a.0, shows.1, omega (arith, a.1, shows.2), a.2 ∙ shows.3, shows.4)

  -- a run for fewer turns
  pub fewer : (course : Course) (m n last : ℕ) (p : LoneProcess) → m ≤ n → Shows n last p course → Shows m last p course
  fewer (Ended end) m n last p less shows = shows
  fewer (Erred talk) m n last p less shows = shows
  fewer (Awaits talk) m n last p less shows = shows
  fewer (Unfinished talk) m n last p less shows = (shows.0, shows.1, omega (arith, less, shows.2), shows.3, shows.4)

  -- one process after another
  pub then_on : (course : Course) (go : Situation → Course) (n mid last : ℕ) (p : LoneProcess) → Shows n mid p course
      → ((end : Situation) (a b c : ℕ) (u : List ℕ) (breaks : ℕ) → Held u end → Shows n last
      (st mid a b c u end breaks) (go end))
      → Shows n last p (then_do course go)
  then_on (Ended end) go n mid last p shows next =
      later (go end) n last p (st mid shows.a shows.b shows.c shows.memory end shows.breaks) shows.goes
      (next end shows.a shows.b shows.c shows.memory shows.breaks shows.held)
  then_on (Erred talk) go n mid last p shows next = shows
  then_on (Awaits talk) go n mid last p shows next = shows
  then_on (Unfinished talk) go n mid last p shows next = shows

  -- the end of a run under another name
  pub ends_as : (course : Course) (n last next : ℕ) (p : LoneProcess) → last ≡ next → Shows n last p course
      → Shows n next p course
  ends_as course n last next p same shows = subst (λ k. Shows n k p course) same shows

  -- an end
  pub ended : (n last a b c : ℕ) (m : List ℕ) (now : Situation) (breaks : ℕ) (p : LoneProcess)
      → Advances g program p (st last a b c m now breaks) → Held m now → Shows n last p (Ended now)
  ended n last a b c m now breaks p goes held =
      record { a = a; b = b; c = c; memory = m; breaks = breaks; goes = goes; held = held }

  -- an instruction that is done by its row
  pub rows : (k a b c k' a' b' c' : ℕ) (m u : List ℕ) (now : Situation) (breaks : ℕ) (f : Function) (o : Operand)
      (rest : List Statement) → Lies g program k (Instruction f o ∷ rest)
      → manner_of f (operand_of g.address (k + 1) f o) ≡ ByRow
      → done_at g.address k f o (at s (g.address k) a b c) ls m ≡ Gave (at s (g.address k') a' b' c') ls u
      → Proceeds g program (st k a b c m now breaks) (st k' a' b' c' u now breaks)
  rows k a b c k' a' b' c' m u now breaks f o rest lies manner does =
      one_on g program (st k a b c m now breaks) (st k' a' b' c' u now breaks)
      (staged g program k (st k a b c m now breaks) f o ByRow refl lies.0 lies.1 manner
      ∙ ap (λ e. left_after e (st k a b c m now breaks) Running) does)

  -- stl
  pub stores : (k j a b c : ℕ) (m : List ℕ) (now : Situation) (breaks : ℕ) (rest : List Statement)
      → Lies g program k (asm.stl j ∷ rest) → Held m now → j < size
      → Proceeds g program (st k a b c m now breaks) (st (k + 1) b c c (with_word_in s.workspace m j a) now breaks)
  unfolding direct
  stores k j a b c m now breaks rest lies held below =
      rows k a b c (k + 1) b c c m (with_word_in s.workspace m j a) now breaks StoreLocal (operand.Number j) rest
      lies refl
      (ap (λ q. tried q ls m (λ u. Gave (at s (g.address (k + 1)) b c c) ls u))
      (word_put s.workspace base size count j a now.store m held.holds below))

  -- cj at 0
  pub jumps : (k place b c : ℕ) (m : List ℕ) (now : Situation) (breaks : ℕ) (rest : List Statement)
      → Lies g program k (asm.cj place ∷ rest)
      → Proceeds g program (st k 0 b c m now breaks) (st place 0 b c m now breaks)
  unfolding direct
  jumps k place b c m now breaks rest lies =
      rows k 0 b c place 0 b c m m now breaks ConditionalJump (operand.Label place 0) rest lies refl
      (ap (λ i. Gave (at s i 0 b c) ls m)
      (landing (g.address place) (g.address (k + 1)) (addresses place) (addresses (k + 1))))

  -- cj at another value
  pub passes : (k place a b c : ℕ) (m : List ℕ) (now : Situation) (breaks : ℕ) (rest : List Statement)
      → Lies g program k (asm.cj place ∷ rest) → (a == 0) ≡ false
      → Proceeds g program (st k a b c m now breaks) (st (k + 1) b c c m now breaks)
  unfolding direct
  passes k place a b c m now breaks rest lies nonzero =
      rows k a b c (k + 1) b c c m m now breaks ConditionalJump (operand.Label place 0) rest lies refl
      (ap (λ q. Gave (if q then at s (g.address (k + 1) ⊕ less (plus (g.address place) 0) (g.address (k + 1))) a b c
      else at s (g.address (k + 1)) b c c) ls m) nonzero)

  -- j
  pub goes_back : (k place a b c : ℕ) (m : List ℕ) (now : Situation) (breaks : ℕ) (rest : List Statement)
      → Lies g program k (asm.j place ∷ rest)
      → Proceeds g program (st k a b c m now breaks)
      (st place (g.others breaks).0 (g.others breaks).1 (g.others breaks).2 m now (breaks + 1))
  unfolding direct
  goes_back k place a b c m now breaks rest lies =
      let target = g.address (k + 1) ⊕ less (plus (g.address place) 0) (g.address (k + 1)) in
      one_on g program (st k a b c m now breaks)
      (st place (g.others breaks).0 (g.others breaks).1 (g.others breaks).2 m now (breaks + 1))
      (staged g program k (st k a b c m now breaks) Jump (operand.Label place 0) ThenOthers refl lies.0 lies.1 refl
      ∙ ap (λ e. left_after e (st k a b c m now breaks) (λ p. Running (after_others g p)))
      (slice_goes_on (at s target a b c) ls m in_slice)
      ∙ ap (λ i. Running (after_others g (lone g program ls (at s i a b c) m now breaks)))
      (landing (g.address place) (g.address (k + 1)) (addresses place) (addresses (k + 1))))

  -- memory after an expression's code
  pub held_on : (spare : ℕ) (m u : List ℕ) (now : Situation) → Held m now → Holds s.workspace base size count
      now.store u
      → KeepsOthers s.workspace spare size m u → Held u now
  held_on spare m u now held holds kept =
      record {
        holds = holds;
        kept = kept_then s.workspace 0 spare size begun m u (omega arith) held.kept kept;
        long = held.long;
        bytes = held.bytes;
      }

  -- what is done with the value of an expression
  pub evaluated : (outcome : Option ℕ) (go : ℕ → Course) (n last k mid spare a b c : ℕ) (m : List ℕ)
      (now : Situation) (breaks : ℕ)
      (code : List Statement) → AreByRow code → Lies g program k code → Held m now
      → Comes g.address (blanks k ++ code) ls mid spare base size count now.store (at s (g.address k) a b c) m outcome
      → IsWord outcome
      → ((v b' c' : ℕ) (u : List ℕ) → v < 2 ^ 32 → Held u now → KeepsOthers s.workspace spare size m u
      → Shows n last (st mid v b' c' u now breaks) (go v))
      → Shows n last (st k a b c m now breaks) (value_then outcome now.talk go)
  evaluated None go n last k mid spare a b c m now breaks code quiet lies held comes word next =
      falls_lone g program code k ls (at s (g.address k) a b c) m now breaks quiet lies (comes halts)
  evaluated (Some v) go n last k mid spare a b c m now breaks code quiet lies held comes word next =
      later (go v) n last (st k a b c m now breaks) (st mid v comes.b comes.c comes.memory now breaks)
      (leads_lone g program code k ls comes.number (at s (g.address k) a b c)
      (at s (g.address mid) v comes.b comes.c) m comes.memory now breaks quiet lies comes.leads)
      (next v comes.b comes.c comes.memory word (held_on spare m comes.memory now held comes.holds comes.kept)
      comes.kept)

  -- an expression's code, and what is done with its value
  pub evaluates : (e : Expression) (go : ℕ → Course) (n last k spare a b c : ℕ) (m : List ℕ) (now : Situation)
      (breaks : ℕ)
      → IsWithin count e → Lies g program k (expression_code k (from spare) e) → Held m now → count + base ≤ spare
      → spare + temporaries_of e ≤ size
      → ((v b' c' : ℕ) (u : List ℕ) → v < 2 ^ 32 → Held u now → KeepsOthers s.workspace spare size m u
      → Shows n last (st (k + length (expression_code k (from spare) e)) v b' c' u now breaks) (go v))
      → Shows n last (st k a b c m now breaks) (value_then (value e now.store) now.talk go)
  evaluates e go n last k spare a b c m now breaks fit lies held free room next =
      let code = expression_code k (from spare) e in
      let whole = blanks k ++ code in
      let fits = stored g.address addresses whole ls base size count now.store s m held.holds in
      evaluated (value e now.store) go n last k (k + length code) spare a b c m now breaks code
      (quiet_expression e k (from spare)) lies
      held
      (runs g.address addresses whole ls base size count now.store e fit.1 fit.0 fits k spare a b c s m
      (has_behind code k)
      held.holds free room)
      (value_word e count now.store fit.1 fit.0 fits) next

  -- the code of a process, from any registers, does what it does
  abbrev pub Runs : CoreProcess → Type 0
  Runs p =
      (n k spare a b c : ℕ) (m : List ℕ) (now : Situation) (breaks : ℕ) → Lies g program k
      (process_code k (from spare) p) → Held m now
      → count + base ≤ spare → spare + process_temporaries p ≤ size
      → Shows n (k + length (process_code k (from spare) p)) (st k a b c m now breaks) (does n p now)

  -- SKIP
  pub skip_runs : Runs Skip
  skip_runs n k t a b c m x r lies held free room =
      let e : k ≡ k + 0 = omega arith in
      ends_as (Ended x) n k (k + 0) (st k a b c m x r) e
      (ended n k a b c m x r (st k a b c m x r) (waits g program (st k a b c m x r)) held)

  -- STOP
  pub stop_runs : Runs Stop
  unfolding direct row operation_of
  stop_runs n k t a b c m x r lies held free room =
      stops_on g program (st k a b c m x r) (st k a b c m x r) ErrorSet (waits g program (st k a b c m x r))
      (staged g program k (st k a b c m x r) Operate (operand.Number 0x10) ByRow refl lies.0 lies.1 refl
      ∙ ap (λ q. left_after (if q then Halted ErrorSet ls m
      else Gave (record (at s (g.address (k + 1)) a b c) { error = true }) ls m) (st k a b c m x r) Running) halts)

  -- a variable has got a word
  pub held_assigned : (v y : ℕ) (m : List ℕ) (now : Situation) → Held m now → v < count → count + base ≤ size → y < 2
      ^ 32
      → Held (with_word_in s.workspace m (v + base) y) (assigned v y now)
  held_assigned v y m now held within room fits =
      record {
        holds = holds_assigned s.workspace base size count v y now.store m held.holds within room fits held.long;
        kept = kept_word s.workspace size (v + base) y begun m held.kept (omega (arith, within, room));
        long = set_long now.store v y ∙ held.long;
        bytes = held.bytes;
      }

  -- stl at the end of an assignment
  pub assigns : (k v y b c : ℕ) (m : List ℕ) (now : Situation) (breaks : ℕ) (rest : List Statement)
      → Lies g program k (asm.stl (v ⊕ base) ∷ rest) → Held m now → v < count → count + base ≤ size
      → Proceeds g program (st k y b c m now breaks)
      (st (k + 1) b c c (with_word_in s.workspace m (v + base) y) (assigned v y now) breaks)
  assigns k v y b c m now breaks rest lies held within room =
      let next = word_after base v count size (s.workspace - 0x80000000) (length m) within room held.holds.most
      held.holds.memory.most in
      subst (λ j. Proceeds g program (st k y b c m now breaks)
      (st (k + 1) b c c (with_word_in s.workspace m j y) (assigned v y now) breaks)) next
      (stores k (v ⊕ base) y b c m now breaks rest lies held (omega (arith, next, within, room)))

  -- an assignment
  pub assign_runs : (v : ℕ) (e : Expression) → ProcessIsWithin count (Assign v e) → Runs (Assign v e)
  assign_runs v e fit n k t a b c m x r lies held free room =
      let code = expression_code k (from t) e in
      let more = asm.stl (v ⊕ base) ∷ [] in
      let mid = k + length code in
      let within : count + base ≤ size = omega (arith, free, room) in
      ends_as (does n (Assign v e) x) n (mid + 1) (k + length (code ++ more)) (st k a b c m x r)
      (omega (arith, length-append code more))
      (evaluates e (λ y. Ended (assigned v y x)) n (mid + 1) k t a b c m x r fit.1
      (lies_front g program k code more lies) held free room
      (λ y b' c' u fits held' kept. ended n (mid + 1) b' c' c' (with_word_in s.workspace u (v + base) y)
      (assigned v y x)
      r (st mid y b' c' u x r)
      (some g program (st mid y b' c' u x r)
      (st (mid + 1) b' c' c' (with_word_in s.workspace u (v + base) y) (assigned v y x) r)
      (assigns mid v y b' c' u x r [] (lies_back g program k code more lies) held' fit.0 within))
      (held_assigned v y u x held' fit.0 within fits)))

  -- two processes, one after the other
  pub sequence_runs : (box box' : Box (Unit {0}) Global) (p q : CoreProcess) → Runs p → Runs q
      → Runs (Sequence' box p box' q)
  sequence_runs box box' p q run_p run_q n k t a b c m x r lies held free room =
      let first = process_code k (from t) p in
      let mid = k + length first in
      let second = process_code mid (from t) q in
      let end = mid + length second in
      ends_as (does n (Sequence' box p box' q) x) n end (k + length (first ++ second)) (st k a b c m x r)
      (omega (arith, length-append first second))
      (then_on (does n p x) (does n q) n mid end (st k a b c m x r)
      (run_p n k t a b c m x r (lies_front g program k first second lies) held free (omega (arith, room)))
      (λ y a' b' c' u r' held'. run_q n mid t a' b' c' u y r' (lies_back g program k first second lies) held' free
      (omega (arith, room))))

  -- j after a process
  pub then_jump : (course : Course) (n over end : ℕ) (p : LoneProcess) (rest : List Statement)
      → Lies g program over (asm.j end ∷ rest) → Shows n over p course → Shows n end p course
  then_jump (Ended x) n over end p rest lies shows =
      let r = shows.breaks in
      ended n end (g.others r).0 (g.others r).1 (g.others r).2 shows.memory x (r + 1) p
      (advances_on g program p (st over shows.a shows.b shows.c shows.memory x r)
      (st end (g.others r).0 (g.others r).1 (g.others r).2 shows.memory x (r + 1)) shows.goes
      (some g program (st over shows.a shows.b shows.c shows.memory x r)
      (st end (g.others r).0 (g.others r).1 (g.others r).2 shows.memory x (r + 1))
      (goes_back over end shows.a shows.b shows.c shows.memory x r rest lies)))
      shows.held
  then_jump (Erred talk) n over end p rest lies shows = shows
  then_jump (Awaits talk) n over end p rest lies shows = shows
  then_jump (Unfinished talk) n over end p rest lies shows = shows

  -- cj, and one of two processes
  chosen : (zero : Bool) (p q : CoreProcess) (n mid other end spare v b c : ℕ) (m : List ℕ) (now : Situation)
      (breaks : ℕ)
      → (v == 0) ≡ zero → Runs p → Runs q
      → other ≡ mid + 1 + length (process_code (mid + 1) (from spare) p) + 1
      → end ≡ other + length (process_code other (from spare) q)
      → Lies g program mid
      (asm.cj other ∷ (process_code (mid + 1) (from spare) p ++ asm.j end ∷ process_code other (from spare) q))
      → Held m now → count + base ≤ spare → spare + process_temporaries p ≤ size → spare + process_temporaries q ≤ size
      → Shows n end (st mid v b c m now breaks) (if zero then does n q now else does n p now)
  chosen true p q n mid other end spare v b c m now breaks is run_p run_q at_other at_end lies held free room room' =
      let first = process_code (mid + 1) (from spare) p in
      let second = process_code other (from spare) q in
      let start = mid + 1 in
      let tail = lies_back g program start first (asm.j end ∷ second) lies.2 in
      let second_lies = subst (λ i. Lies g program i second) (sym at_other) tail.2 in
      ends_as (does n q now) n (other + length second) end (st mid v b c m now breaks) (sym at_end)
      (subst (λ i. Shows n (other + length second) (st mid i b c m now breaks) (does n q now)) (sym (is_zero v is))
      (later (does n q now) n (other + length second) (st mid 0 b c m now breaks) (st other 0 b c m now breaks)
      (some g program (st mid 0 b c m now breaks) (st other 0 b c m now breaks)
      (jumps mid other b c m now breaks (first ++ asm.j end ∷ second) lies))
      (run_q n other spare 0 b c m now breaks second_lies held free room')))
  chosen false p q n mid other end spare v b c m now breaks is run_p run_q at_other at_end lies held free room room' =
      let first = process_code (mid + 1) (from spare) p in
      let second = process_code other (from spare) q in
      let start = mid + 1 in
      later (does n p now) n end (st mid v b c m now breaks) (st start b c c m now breaks)
      (some g program (st mid v b c m now breaks) (st start b c c m now breaks)
      (passes mid other v b c m now breaks (first ++ asm.j end ∷ second) lies is))
      (then_jump (does n p now) n (start + length first) end (st start b c c m now breaks) second
      (lies_back g program start first (asm.j end ∷ second) lies.2)
      (run_p n start spare b c c m now breaks (lies_front g program start first (asm.j end ∷ second) lies.2) held
      free room))

  -- a choice
  pub if_runs : (e : Expression) (box box' : Box (Unit {0}) Global) (p q : CoreProcess) → IsWithin count e → Runs p →
      Runs q
      → Runs (If' e box p box' q)
  if_runs e box box' p q fit run_p run_q n k t a b c m x r lies held free room =
      let test = expression_code k (from t) e in
      let mid = k + length test in
      let start = mid + 1 in
      let first = process_code start (from t) p in
      let other = start + length first + 1 in
      let second = process_code other (from t) q in
      let end = other + length second in
      let more = asm.cj other ∷ (first ++ asm.j end ∷ second) in
      ends_as (does n (If' e box p box' q) x) n end (k + length (test ++ more)) (st k a b c m x r)
      (omega (arith, length-append test more, length-append first (asm.j end ∷ second)))
      (evaluates e (λ v. if v == 0 then does n q x else does n p x) n end k t a b c m x r fit
      (lies_front g program k test more lies) held free (omega (arith, room))
      (λ v b' c' u fits held' kept. chosen (v == 0) p q n mid other end t v b' c' u x r refl run_p run_q refl refl
      (lies_back g program k test more lies) held' free (omega (arith, room)) (omega (arith, room))))

  -- the rest of a turn of a loop, and the turns after it
  turn : (zero : Bool) (p : CoreProcess) (rounds : Situation → Course) (n most mid over end k spare v b c : ℕ)
      (m : List ℕ)
      (now : Situation) (breaks : ℕ) → (v == 0) ≡ zero → suc n ≤ most → Runs p
      → over ≡ mid + 1 + length (process_code (mid + 1) (from spare) p) → end ≡ over + 1
      → Lies g program mid (asm.cj end ∷ (process_code (mid + 1) (from spare) p ++ asm.j k ∷ []))
      → Held m now → count + base ≤ spare → spare + process_temporaries p ≤ size
      → ((y : Situation) (a' b' c' : ℕ) (u : List ℕ) (r' : ℕ) → Held u y
      → Shows n end (st k a' b' c' u y r') (rounds y))
      → Shows (suc n) end (st mid v b c m now breaks) (if zero then Ended now else then_do (does most p now) rounds)
  turn true p rounds n most mid over end k spare v b c m now breaks is less run_p at_over at_end lies held free room
      next =
      let body = process_code (mid + 1) (from spare) p in
      subst (λ i. Shows (suc n) end (st mid i b c m now breaks) (Ended now)) (sym (is_zero v is))
      (ended (suc n) end 0 b c m now breaks (st mid 0 b c m now breaks)
      (some g program (st mid 0 b c m now breaks) (st end 0 b c m now breaks)
      (jumps mid end b c m now breaks (body ++ asm.j k ∷ []) lies)) held)
  turn false p rounds n most mid over end k spare v b c m now breaks is less run_p at_over at_end lies held free room
      next =
      let body = process_code (mid + 1) (from spare) p in
      let start = mid + 1 in
      let back = lies_back g program start body (asm.j k ∷ []) lies.2 in
      later (then_do (does most p now) rounds) (suc n) end (st mid v b c m now breaks) (st start b c c m now breaks)
      (some g program (st mid v b c m now breaks) (st start b c c m now breaks)
      (passes mid end v b c m now breaks (body ++ asm.j k ∷ []) lies is))
      (then_on (does most p now) rounds (suc n) (start + length body) end (st start b c c m now breaks)
      (fewer (does most p now) (suc n) most (start + length body) (st start b c c m now breaks) less
      (run_p most start spare b c c m now breaks (lies_front g program start body (asm.j k ∷ []) lies.2) held free
      room))
      (λ y a' b' c' u r' held'. later_more (rounds y) n end (st (start + length body) a' b' c' u y r')
      (st k (g.others r').0 (g.others r').1 (g.others r').2 u y (r' + 1))
      (goes_back (start + length body) k a' b' c' u y r' [] back)
      (next y (g.others r').0 (g.others r').1 (g.others r').2 u (r' + 1) held')))

  -- a loop with a condition, for some turns of those that it may make
  pub loops : (e : Expression) (box : Box (Unit {0}) Global) (p : CoreProcess) → IsWithin count e → Runs p
      → (n most k spare a b c : ℕ) (m : List ℕ) (now : Situation) (breaks : ℕ) → n ≤ most
      → Lies g program k (process_code k (from spare) (While' e box p)) → Held m now → count + base ≤ spare
      → spare + process_temporaries (While' e box p) ≤ size
      → Shows n (k + length (process_code k (from spare) (While' e box p))) (st k a b c m now breaks)
      (turns n (λ now. value e now.store) (does most p) now)
  loops e box p fit run_p zero most k spare a b c m now breaks less lies held free room =
      (0, st k a b c m now breaks, omega arith, refl, refl)
  loops e box p fit run_p (suc n) most k spare a b c m now breaks less lies held free room =
      let test = expression_code k (from spare) e in
      let mid = k + length test in
      let start = mid + 1 in
      let body = process_code start (from spare) p in
      let over = start + length body in
      let end = over + 1 in
      let more = asm.cj end ∷ (body ++ asm.j k ∷ []) in
      let all = k + length (test ++ more) in
      let ends : end ≡ all = omega (arith, length-append test more, length-append body (asm.j k ∷ [])) in
      let rounds = turns n (λ now. value e now.store) (does most p) in
      ends_as (value_then (value e now.store) now.talk
      (λ v. if v == 0 then Ended now else then_do (does most p now) rounds))
      (suc n) end all (st k a b c m now breaks) ends
      (evaluates e (λ v. if v == 0 then Ended now else then_do (does most p now) rounds) (suc n) end k spare a b c m
      now breaks fit
      (lies_front g program k test more lies) held free (omega (arith, room))
      (λ v b' c' u fits held' kept. turn (v == 0) p rounds n most mid over end k spare v b' c' u now breaks refl less
      run_p refl refl
      (lies_back g program k test more lies) held' free (omega (arith, room))
      (λ y a'' b'' c'' ground r' held''. ends_as (rounds y) n all end (st k a'' b'' c'' ground y r') (sym ends)
      (loops e box p fit run_p n most k spare a'' b'' c'' ground y r' (omega (arith, less)) lies held'' free room))))
