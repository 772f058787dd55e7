-- A process by itself, statement by statement; and instructions that are done by their rows: for the law of processes.
use Rattle.std.proofs.Common.{◌≡◌, ℕ, zero, suc, ◌+◌, ◌<◌, ◌≤◌, List, [], ◌∷◌, ◌++◌, length, Some, refl, ap, ◌∙◌, subst, arith}
use Rattle.std.specs.Prelude.{slice_get}
use Rattle.node_memory.specs.Effect.{Gave, Halted}
use Rattle.node_memory.specs.declared.fault.Fault.{Fault}
use Rattle.node_memory.specs.declared.fault.Fault.TheVariants.{ErrorSet}
use Rattle.link_channels.specs.declared.link.FourLinks.{FourLinks}
use Rattle.t414_decode.specs.declared.instruction.Function.{Function}
use Rattle.t414_assembly.specs.declared.statement.Operand.{Operand}
use Rattle.t414_assembly.specs.declared.statement.Statement.{Statement}
use Rattle.t414_assembly.specs.declared.statement.Statement.TheVariants.{Instruction, Space}
use Rattle.t414_assembly.specs.Program.{operand_of}
use Rattle.t414_step.specs.declared.cpu.Cpu.{Cpu}
use Rattle.t414_step.specs.ChannelRows.{CpuEffect}
use Rattle.occam_core.specs.Processes.{Situation}
use Rattle.occam_code.specs.Machine.{done_at, Does, Leads, Falls}
use Rattle.occam_code.specs.Alone.{LoneSetting, LoneProcess, LoneStage, Running, Stopped, left_after, Manner, ByRow, manner_of, stage_by, stage_at, next_stage, while_running, stage_after}
use Rattle.occam_code.proofs.Stepping.{HasAt, has_all}
use Rattle.occam_code.proofs.Quiet.{IsByRow, AreByRow}

-- places with no instruction
pub blanks : ℕ → List Statement
blanks zero = []
blanks (suc n) = Space 0 ∷ blanks n

-- there are as many
pub length-blanks : (n : ℕ) → length (blanks n) ≡ n
unfolding blanks
length-blanks zero = refl
length-blanks (suc n) = let e = length-blanks n in omega (arith, e)

-- a code after them
pub has_behind : (code : List Statement) (k : ℕ) → HasAt (blanks k ++ code) k code
has_behind code k = subst (λ n. HasAt (blanks k ++ code) n code) (length-blanks k) (has_all code (blanks k))

-- an instruction after them is one of the code
behind : (n p : ℕ) (code : List Statement) (f : Function) (o : Operand)
    → slice_get (blanks n ++ code) p ≡ Some (Instruction f o)
    → (q : ℕ) × (n + q ≡ p) × (slice_get code q ≡ Some (Instruction f o))
unfolding blanks
behind zero p code f o is = (p, omega arith, is)
behind (suc n) zero code f o is = absurd (grind arith)
behind (suc n) (suc p) code f o is = let r = behind n p code f o is in (r.0, omega (arith, r.1), r.2)

-- an instruction of a code whose instructions are done by their rows
quiet_at : (code : List Statement) (q : ℕ) (f : Function) (o : Operand) → AreByRow code
    → slice_get code q ≡ Some (Instruction f o) → IsByRow (Instruction f o)
quiet_at [] q f o quiet is = absurd (grind arith)
quiet_at (i ∷ code) zero f o quiet is = let e : i ≡ Instruction f o = cc in subst IsByRow e quiet.0
quiet_at (i ∷ code) (suc q) f o quiet is = quiet_at code q f o quiet.1 is

module _ (g : LoneSetting) (program : List Statement) where
  -- these statements are in the program from a place on, and the addresses of two of them differ
  abbrev pub Lies : ℕ → List Statement → Type 0
  Lies k [] = Unit {0}
  Lies k (i ∷ is) = (slice_get program k ≡ Some i) × (g.place_at (g.address k) ≡ k) × Lies (k + 1) is

  -- the first part of a code
  pub lies_front : (k : ℕ) (front back : List Statement) → Lies k (front ++ back) → Lies k front
  lies_front k [] back lies = tt
  lies_front k (i ∷ front) back lies = (lies.0, lies.1, lies_front (k + 1) front back lies.2)

  -- the second part of a code
  pub lies_back : (k : ℕ) (front back : List Statement) → Lies k (front ++ back) → Lies (k + length front) back
  lies_back k [] back lies = let e : k ≡ k + 0 = omega arith in subst (λ n. Lies n back) e lies
  lies_back k (i ∷ front) back lies =
      let e : k + 1 + length front ≡ k + length (i ∷ front) = omega arith in
      subst (λ n. Lies n back) e (lies_back (k + 1) front back lies.2)

  -- one statement of a code
  lies_at : (code : List Statement) (k q : ℕ) (statement : Statement) → Lies k code → slice_get code q ≡ Some statement
      → (slice_get program (k + q) ≡ Some statement) × (g.place_at (g.address (k + q)) ≡ k + q)
  lies_at [] k q statement lies is = absurd (grind arith)
  lies_at (j ∷ code) k zero statement lies is =
      let e : k ≡ k + 0 = omega arith in
      subst (λ n. (slice_get program n ≡ Some statement) × (g.place_at (g.address n) ≡ n)) e (lies.0 ∙ is, lies.1)
  lies_at (j ∷ code) k (suc q) statement lies is =
      let e : k + 1 + q ≡ k + suc q = omega arith in
      subst (λ n. (slice_get program n ≡ Some statement) × (g.place_at (g.address n) ≡ n)) e
      (lies_at code (k + 1) q statement lies.2 is)

  -- some statements are done
  abbrev pub run : ℕ → LoneProcess → LoneStage
  run n p = stage_after g program n p

  -- by some statements a process becomes another, or by none
  pub record Advances (p after : LoneProcess) : Type 0 where
    pub by : (k : ℕ) → (j : ℕ) × (k ≤ j) × (run j p ≡ run k after)

  -- by one statement or more
  pub record Proceeds (p after : LoneProcess) : Type 0 where
    pub by : (k : ℕ) → (j : ℕ) × (k < j) × (run j p ≡ run k after)

  -- no statement
  pub waits : (p : LoneProcess) → Advances p p
  waits p = record { by = λ k. (k, omega arith, refl) }

  -- some statements after others
  pub advances_on : (p after last : LoneProcess) → Advances p after → Advances after last → Advances p last
  advances_on p after last first second =
      record { by = λ k. let b = second.by k in let a = first.by b.0 in (a.0, omega (arith, a.1, b.1), a.2 ∙ b.2) }

  -- one statement or more are some
  pub some : (p after : LoneProcess) → Proceeds p after → Advances p after
  some p after first = record { by = λ k. let a = first.by k in (a.0, omega (arith, a.1), a.2) }

  -- one statement
  pub one_on : (p after : LoneProcess) → next_stage g program p ≡ Running after → Proceeds p after
  one_on p after is = record { by = λ k. (suc k, omega arith, ap (λ h. while_running h (stage_after g program k)) is) }

  -- the statement at a place
  pub staged : (k : ℕ) (p : LoneProcess) (f : Function) (o : Operand) (how : Manner)
      → p.registers.instruction ≡ g.address k → slice_get program k ≡ Some (Instruction f o)
      → g.place_at (g.address k) ≡ k → manner_of f (operand_of g.address (k + 1) f o) ≡ how
      → next_stage g program p ≡ stage_by g how (done_at g.address k f o p.registers p.links p.memory) p
      (record p { registers = record p.registers { instruction = g.address (k + 1) } })
  staged k p f o how here is placed manner =
      let e : g.place_at p.registers.instruction ≡ k = ap g.place_at here ∙ placed in
      ap (λ n. stage_at g n (slice_get program n) p) e
      ∙ ap (λ i. stage_at g k i p) is
      ∙ ap (λ v. stage_by g v (done_at g.address k f o p.registers p.links p.memory) p
      (record p { registers = record p.registers { instruction = g.address (k + 1) } })) manner

  -- a process with these registers and this memory
  abbrev pub lone : FourLinks → Cpu → List ℕ → Situation → ℕ → LoneProcess
  lone ls s m now breaks = record {
    registers = s;
    links = ls;
    memory = m;
    coming = now.coming;
    talk = now.talk;
    breaks = breaks;
  }

  -- an instruction of a code whose instructions are done by their rows
  by_row : (code : List Statement) (k : ℕ) (ls : FourLinks) (s : Cpu) (m : List ℕ) (now : Situation) (breaks : ℕ)
      (effect : CpuEffect) → AreByRow code → Lies k code → Does g.address (blanks k ++ code) ls s m effect
      → next_stage g program (lone ls s m now breaks) ≡ left_after effect (lone ls s m now breaks) Running
  by_row code k ls s m now breaks effect quiet lies does =
      let b = behind k does.place code does.function does.operand does.is in
      let i = Instruction does.function does.operand in
      let here = lies_at code k b.0 i lies b.2 in
      staged does.place (lone ls s m now breaks) does.function does.operand ByRow does.here
      (subst (λ n. slice_get program n ≡ Some i) b.1 here.0)
      (subst (λ n. g.place_at (g.address n) ≡ n) b.1 here.1)
      (quiet_at code b.0 does.function does.operand quiet b.2 g.address (does.place + 1))
      ∙ ap (λ e. left_after e (lone ls s m now breaks) Running) does.gives

  -- what such a code leads to
  pub leads_lone : (code : List Statement) (k : ℕ) (ls : FourLinks) (n : ℕ) (s t : Cpu) (m u : List ℕ) (now : Situation)
      (breaks : ℕ) → AreByRow code → Lies k code → Leads g.address (blanks k ++ code) ls n s m t u
      → Advances (lone ls s m now breaks) (lone ls t u now breaks)
  leads_lone code k ls zero s t m u now breaks quiet lies leads =
      subst (λ q. Advances (lone ls s m now breaks) (lone ls q u now breaks)) leads.0
      (subst (λ q. Advances (lone ls s m now breaks) (lone ls s q now breaks)) leads.1 (waits (lone ls s m now breaks)))
  leads_lone code k ls (suc n) s t m u now breaks quiet lies leads =
      let first = by_row code k ls s m now breaks (Gave leads.0 ls leads.1) quiet lies leads.2 in
      advances_on (lone ls s m now breaks) (lone ls leads.0 leads.1 now breaks) (lone ls t u now breaks)
      (some (lone ls s m now breaks) (lone ls leads.0 leads.1 now breaks)
      (one_on (lone ls s m now breaks) (lone ls leads.0 leads.1 now breaks) first))
      (leads_lone code k ls n leads.0 t leads.1 u now breaks quiet lies leads.3)

  -- a halt after some statements
  pub stops_on : (p after : LoneProcess) (fault : Fault) → Advances p after
      → next_stage g program after ≡ Stopped fault after.talk → (j : ℕ) × (run j p ≡ Stopped fault after.talk)
  stops_on p after fault adv is =
      let a = adv.by 1 in (a.0, a.2 ∙ ap (λ h. while_running h (stage_after g program 0)) is)

  -- the halt that such a code leads to
  pub falls_lone : (code : List Statement) (k : ℕ) (ls : FourLinks) (s : Cpu) (m : List ℕ) (now : Situation)
      (breaks : ℕ)
      → AreByRow code → Lies k code → Falls g.address (blanks k ++ code) ls s m
      → (j : ℕ) × (run j (lone ls s m now breaks) ≡ Stopped ErrorSet now.talk)
  falls_lone code k ls s m now breaks quiet lies falls =
      stops_on (lone ls s m now breaks) (lone ls falls.registers falls.memory now breaks) ErrorSet
      (leads_lone code k ls falls.count s falls.registers m falls.memory now breaks quiet lies falls.leads)
      (by_row code k ls falls.registers falls.memory now breaks (Halted ErrorSet ls falls.memory) quiet lies
      falls.falls)
