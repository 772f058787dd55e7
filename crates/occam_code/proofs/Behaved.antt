-- The law of processes: whole runs, and that a run is nothing else than what the process does.
use Rattle.std.proofs.Common.{◌≡◌, ℕ, zero, suc, ◌+◌, ◌^◌, ◌<◌, ◌≤◌, List, [], ◌∷◌, ◌++◌, length, length-take, None, refl, sym, ap, ◌∙◌, subst, arith, ⊎_elim, take, true, false}
use Rattle.std.specs.Prelude.{◌==◌, slice_get}
use Rattle.std.proofs.lemmas.Bool.{cases_lt}
use Rattle.std.proofs.lemmas.Bool.Decides.{nat_tests}
use Rattle.std.proofs.lemmas.Option.{slice_get_past}
use Rattle.node_memory.specs.declared.fault.Fault.TheVariants.{ErrorSet}
use Rattle.t414_assembly.specs.declared.statement.Statement.{Statement}
use Rattle.occam_core.specs.declared.process.CoreProcess.{CoreProcess}
use Rattle.occam_core.specs.Processes.{Situation, Course, Ended, Erred, Awaits, Unfinished, does, IsSequential}
use Rattle.occam_code.specs.declared.frame.FrameWords.{FrameWords}
use Rattle.occam_code.specs.Instructions as asm
use Rattle.occam_code.specs.Words.{as_word, processes_below}
use Rattle.occam_code.specs.Code.{process_code, tables_code, program_start, program_words, program_code}
use Rattle.occam_code.specs.Evaluates.{Holds}
use Rattle.occam_code.specs.Alone.{LoneSetting, LoneProcess, LoneStage, Running, Past, Stopped, AtInput, stage_at, next_stage, while_running, stage_after}
use Rattle.occam_code.specs.Behaves.{IsPastCode, Behaves, ProcessBehaves, CodeBehaves}
use Rattle.occam_code.proofs.Workspace.{kept_same}
use Rattle.occam_code.proofs.Operations.{at}
use Rattle.occam_code.proofs.Lone.{Lies, run, lone}
use Rattle.occam_code.proofs.Behaving.{Ground, Held, Shows}
use Rattle.occam_code.proofs.Sequential.{process_runs}

-- the process doesn't run any more
abbrev IsOver : LoneStage → Type 0
IsOver (Running p) = ⊥
IsOver _ = Unit {0}

-- nothing of nothing
take_none : (n : ℕ) (none : List Statement) → none ≡ [] → take n none ≡ []
take_none zero none is = refl
take_none (suc n) none is = ap (λ l. take (suc n) l) is

-- a program without the statements from a place on
taken : (program : List Statement) (last k : ℕ) → k < last → slice_get (take last program) k ≡ slice_get program k
taken [] last k below = ap (λ l. slice_get l k) (take_none last [] refl)
taken (i ∷ program) zero k below = absurd (omega arith)
taken (i ∷ program) (suc last) zero below = refl
taken (i ∷ program) (suc last) (suc k) below = taken program last k (omega arith)

-- a number that is less
not_at : (n : ℕ) → n < 1024 → (n == 1024) ≡ false
not_at n below = grind (arith, nat_tests)

module _ (g : LoneSetting) (program : List Statement) where
  -- what comes after a statement, if that changes nothing of a run that is over
  longer_next : (m n : ℕ) (next stage : LoneStage) → IsOver stage
      → ((after : LoneProcess) → run g program m after ≡ stage → run g program n after ≡ stage)
      → while_running next (stage_after g program m) ≡ stage → while_running next (stage_after g program n) ≡ stage
  longer_next m n (Running after) stage over rest is = rest after is
  longer_next m n (Past after) stage over rest is = is
  longer_next m n (Stopped fault talk) stage over rest is = is
  longer_next m n (AtInput talk) stage over rest is = is

  -- more statements change nothing of a run that is over
  longer : (m n : ℕ) → m ≤ n → (p : LoneProcess) (stage : LoneStage) → IsOver stage → run g program m p ≡ stage
      → run g program n p ≡ stage
  longer zero n less p stage over is = absurd (subst IsOver (sym is) over)
  longer (suc m) zero less p stage over is = absurd (omega arith)
  longer (suc m) (suc n) less p stage over is =
      longer_next m n (next_stage g program p) stage over (λ q same. longer m n (omega arith) q stage over same) is

  -- so two ends of one run are the same
  one_end : (m n : ℕ) (p : LoneProcess) (stage other : LoneStage) → IsOver stage → IsOver other → run g program m p ≡
      stage
      → run g program n p ≡ other → stage ≡ other
  one_end m n p stage other over over' is is' =
      ⊎_elim
      (λ less. sym (longer m n (omega arith) p stage over is) ∙ is')
      (λ most. sym is ∙ longer n m most p other over' is')
      (cases_lt m n)

  -- a code lies where its statements are
  lies_from : (code : List Statement) (k : ℕ)
      → ((i : ℕ) → i < length code → slice_get program (k + i) ≡ slice_get code i)
      → ((i : ℕ) → i < length code → g.place_at (g.address (k + i)) ≡ k + i) → Lies g program k code
  lies_from [] k same places = tt
  lies_from (i ∷ code) k same places =
      let e : k + 0 ≡ k = omega arith in (
        ap (λ n. slice_get program n) (sym e) ∙ same 0 (omega arith),
        subst (λ n. g.place_at (g.address n) ≡ n) e (places 0 (omega arith)),
        lies_from code (k + 1)
            (λ j below. let n : k + suc j ≡ k + 1 + j = omega arith in
            ap (λ q. slice_get program q) (sym n) ∙ same (suc j) (omega (arith, below)))
            (λ j below. let n : k + suc j ≡ k + 1 + j = omega arith in
            subst (λ q. g.place_at (g.address q) ≡ q) n (places (suc j) (omega (arith, below)))),
      )

-- what a run of a process says of a run of its code
abbrev Follows : CoreProcess → Situation → (ℕ → LoneStage) → (Situation → LoneProcess → Type 0) → ℕ → Course → Type 0
Follows p at run is_end n (Ended end) = (k : ℕ) × (s : LoneProcess) × (run k ≡ Past s) × is_end end s
Follows p at run is_end n (Erred talk) = (k : ℕ) × (run k ≡ Stopped ErrorSet talk)
Follows p at run is_end n (Awaits talk) = (k : ℕ) × (run k ≡ AtInput talk)
Follows p at run is_end n (Unfinished talk) =
    (k : ℕ) × (s : LoneProcess) × (n ≤ k) × (run k ≡ Running s) × (s.talk ≡ talk)

-- the stage of a run that is over is what the process comes to
abbrev Matches : (Situation → LoneProcess → Type 0) → LoneStage → Course → Type 0
Matches is_end (Running p) course = Unit {0}
Matches is_end (Past s) course = (end : Situation) × (course ≡ Ended end) × is_end end s
Matches is_end (Stopped fault talk) course = (course ≡ Erred talk) × (fault ≡ ErrorSet)
Matches is_end (AtInput talk) course = course ≡ Awaits talk

module _ (p : CoreProcess) (now : Situation) (g : LoneSetting) (program : List Statement) (s : LoneProcess)
    (is_end : Situation → LoneProcess → Type 0)
    (follows : (n : ℕ) → Follows p now (λ k. run g program k s) is_end n (does n p now)) where
  abbrev goes : ℕ → LoneStage
  goes k = run g program k s

  -- a run that is over after as many statements as there are turns
  matched : (k : ℕ) (stage : LoneStage) (course : Course) → IsOver stage → goes k ≡ stage → Follows p now goes is_end k
      course
      → Matches is_end stage course
  matched k stage (Ended end) over is follow =
      subst (λ q. Matches is_end q (Ended end))
      (one_end g program follow.0 k s (Past follow.1) stage tt over follow.2 is) (end, refl, follow.3)
  matched k stage (Erred talk) over is follow =
      subst (λ q. Matches is_end q (Erred talk))
      (one_end g program follow.0 k s (Stopped ErrorSet talk) stage tt over follow.1 is) (refl, refl)
  matched k stage (Awaits talk) over is follow =
      subst (λ q. Matches is_end q (Awaits talk))
      (one_end g program follow.0 k s (AtInput talk) stage tt over follow.1 is) refl
  matched k stage (Unfinished talk) over is follow =
      absurd (subst IsOver (sym (longer g program k follow.0 follow.2 s stage over is) ∙ follow.3) over)

  -- a run is what the process does
  run_behaves : Behaves p now goes is_end
  run_behaves =
      record {
        ends = λ n end e. subst (Follows p now goes is_end n) e (follows n);
        errs = λ n talk e. subst (Follows p now goes is_end n) e (follows n);
        waits = λ n talk e. subst (Follows p now goes is_end n) e (follows n);
        goes_on = λ n talk e. subst (Follows p now goes is_end n) e (follows n);
        ends_only = λ k t is.
            let m = matched k (Past t) (does k p now) tt is (follows k) in (k, m.0, m.1, m.2);
        errs_only = λ k fault talk is.
            let m = matched k (Stopped fault talk) (does k p now) tt is (follows k) in (k, m.0, m.1);
        waits_only = λ k talk is. (k, matched k (AtInput talk) (does k p now) tt is (follows k));
      }

-- a process that is at the place of its code
begins : (g : LoneSetting) (program : List Statement) (first : ℕ) (now : Situation) (s : LoneProcess)
    → s.registers.instruction ≡ g.address first → s.coming ≡ now.coming → s.talk ≡ now.talk
    → lone g program s.links (at s.registers (g.address first) s.registers.a s.registers.b s.registers.c) s.memory now
    s.breaks ≡ s
begins g program first now s here coming talk =
    ap (λ i. lone g program s.links (at s.registers i s.registers.a s.registers.b s.registers.c) s.memory now s.breaks)
    (sym here)
    ∙ ap (λ l. record s { coming = l; talk = now.talk }) (sym coming)
    ∙ ap (λ l. record s { talk = l }) (sym talk)

-- a process after its code is past it
ends_past : (g : LoneSetting) (program : List Statement) (last : ℕ) (after : LoneProcess)
    → after.registers.instruction ≡ g.address last → g.place_at (g.address last) ≡ last
    → slice_get program last ≡ None → run g program 1 after ≡ Past after
ends_past g program last after here place none =
    let at_last : g.place_at after.registers.instruction ≡ last = ap g.place_at here ∙ place in
    ap (λ h. while_running h (stage_after g program 0))
    (ap (λ n. stage_at g n (slice_get program n) after) at_last ∙ ap (λ i. stage_at g last i after) none)

module _ (words : FrameWords) (g : LoneSetting) (addresses : (k : ℕ) → g.address k < 2 ^ 32) (program : List Statement)
    (size count last : ℕ) (start : LoneProcess) (halts : start.registers.halt_on_error ≡ true)
    (in_slice : (start.registers.bytes == 1024) ≡ false) (own : 1 ≤ words.base) where
  -- where the process is run
  abbrev ground : Ground
  ground =
      record {
        setting = g;
        addresses = addresses;
        program = program;
        registers = start.registers;
        links = start.links;
        base = words.base;
        size = size;
        count = count;
        begun = start.memory;
        halts = halts;
        in_slice = in_slice;
        own = own;
      }

  -- what a run of a process says of a run of its code, that begins with it
  follows_from : (p : CoreProcess) (n : ℕ) (course : Course) (now : Situation) → g.place_at (g.address last) ≡ last
      → slice_get program last ≡ None → Shows ground n last start course
      → Follows p now (λ k. run g program k start) (IsPastCode g last words size start) n course
  follows_from p n (Ended end) now place none shows =
      let q = lone g program start.links (at start.registers (g.address last) shows.a shows.b shows.c) shows.memory end
      shows.breaks in
      let over = shows.goes.by 1 in (
        over.0,
        q,
        over.2 ∙ ends_past g program last q refl place none,
        record {
          a = shows.a;
          b = shows.b;
          c = shows.c;
          registers = refl;
          links = refl;
          holds =
              subst (λ i. Holds start.registers.workspace words.base size i end.store shows.memory)
              (sym shows.held.long)
              shows.held.holds;
          kept = shows.held.kept;
          coming = refl;
          talk = refl;
        },
      )
  follows_from p n (Erred talk) now place none shows = shows
  follows_from p n (Awaits talk) now place none shows = shows
  follows_from p n (Unfinished talk) now place none shows = shows

-- the law
pub behaves : CodeBehaves
behaves p first words program sequential same g size x s begun =
    let code = process_code first words p in
    let last = first + length code in
    let front = take last program in
    let count = length x.store in
    let registers = s.registers in
    let lies = lies_from g front code first
    (λ i below. taken program last (first + i) (omega (arith, below)) ∙ same i below)
    (λ i below. begun.places (first + i) (omega arith) (omega (arith, below))) in
    let in_slice : (registers.bytes == 1024) ≡ false = not_at registers.bytes begun.slice in
    let w = ground words g begun.addresses front size count last s begun.halts in_slice begun.own in
    let held : Held w s.memory x =
    record {
      holds = begun.holds;
      kept = kept_same registers.workspace 0 size s.memory;
      long = refl;
      bytes = begun.bytes;
    } in
    let start = begins g front first x s begun.here begun.coming begun.talk in
    let none : slice_get front last ≡ None = slice_get_past front last (omega (arith, length-take last program)) in
    run_behaves p x g front s (IsPastCode g last words size s)
    (λ n. follows_from words g begun.addresses front size count last s begun.halts in_slice begun.own p n (does n p x) x
    (begun.places last (omega arith) (omega arith)) none
    (subst (λ q. Shows w n last q (does n p x)) start
    (process_runs w p sequential begun.within n first words.temporary registers.a registers.b registers.c s.memory
    x s.breaks lies held begun.free begun.room)))

-- a code before another
before : (code back : List Statement) (i : ℕ) → i < length code → slice_get (code ++ back) i ≡ slice_get code i
before [] back i below = absurd (omega (arith, below))
before (s ∷ code) back zero below = refl
before (s ∷ code) back (suc i) below = before code back i (omega (arith, below))

-- and after a third
between : (front code back : List Statement) (i : ℕ) → i < length code
    → slice_get (front ++ (code ++ back)) (length front + i) ≡ slice_get code i
between [] code back i below =
    let e : 0 + i ≡ i = omega arith in ap (λ k. slice_get (code ++ back) k) e ∙ before code back i below
between (s ∷ front) code back i below =
    let e : length (s ∷ front) + i ≡ suc (length front + i) = omega arith in
    ap (λ k. slice_get (s ∷ (front ++ (code ++ back))) k) e ∙ between front code back i below

-- the process of a program behaves
pub program_behaves : (variables : ℕ) (tables : List ℕ) (p : CoreProcess) (statements : List Statement)
    → statements ≡ program_code variables tables p → IsSequential p
    → ProcessBehaves p (length (program_start variables (length tables) p)) (program_words variables) statements
program_behaves variables tables p statements is sequential =
    let start = program_start variables (length tables) p in
    let code = process_code (length start) (program_words variables) p in
    let back = asm.stopp ∷ tables_code (as_word (processes_below p)) tables in
    let e : 0 + length start ≡ length start = omega arith in
    let same : statements ≡ start ++ (code ++ back) =
    is ∙ ap (λ k. start ++ (process_code k (program_words variables) p ++ back)) e in
    behaves p (length start) (program_words variables) statements sequential
    (λ i below. ap (λ list. slice_get list (length start + i)) same ∙ between start code back i below)
