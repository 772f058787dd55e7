-- Where a Step would not be recorded, and what such a Step and a faulty one leave.
use Rattle.std.proofs.Common.{◌≡◌, ℕ, ◌==◌, Bool, true, false, not, ◌&&◌, List}
use Rattle.std.proofs.Common.{Option, Some, None, if◌then◌else◌, refl, ◌∙◌, ap, sym}
use Rattle.node_memory.specs.declared.fault.Fault.{Fault}
use Rattle.node_memory.specs.Effect as effect
use Rattle.node_memory.specs.Marks.{not_process}
use Rattle.process_queue.specs.Queue.{after_take}
use Rattle.link_channels.specs.declared.link.FourLinks.{FourLinks}
use Rattle.link_channels.specs.declared.number.LinkNumber.{LinkNumber}
use Rattle.link_channels.specs.Links.{at, any_has_work}
use Rattle.link_channels.specs.Laws.{ServiceLeavesTheRest}
use Rattle.t414_step.specs.declared.cpu.Cpu.{Cpu}
use Rattle.t414_step.specs.declared.stepping.Stepped.{Stepped}
use Rattle.t414_step.specs.declared.stepping.Stepped.TheVariants as code
use Rattle.t414_step.specs.Answers.{is_idle, tells_idle}
use Rattle.t414_step.specs.Registers.{has_nothing_to_do}
use Rattle.t414_step.specs.Step.{step, StepEffect}
use Rattle.t414_step.specs.Laws.{IdleWhereItRests}
use Rattle.bootstrap.specs.Step.{node_step, step_by_state, ran, fed, controlled, offered}
use Rattle.bootstrap.specs.Step.{answer_continued, has_halted, is_step_recorded, is_quiet}
use Rattle.bootstrap.specs.declared.node.Node.{Node}
use Rattle.bootstrap.specs.declared.state.NodeState.{NodeState}
use Rattle.bootstrap.specs.declared.state.NodeState.TheVariants.{WantsControl, Takes, Answers, Runs, Halted}

-- what isn't not so is so
pub not-not : (b : Bool) → not (not b) ≡ b
not-not true = refl
not-not false = refl

and-left : (flag other_flag : Bool) → (flag && other_flag) ≡ true → flag ≡ true
and-left true other_flag same = refl
and-left false other_flag same = cc

and-right : (flag other_flag : Bool) → (flag && other_flag) ≡ true → other_flag ≡ true
and-right true other_flag same = same
and-right false other_flag same = cc

not-true : (flag : Bool) → not flag ≡ true → flag ≡ false
not-true true same = cc
not-true false same = refl

is_idle-ran : (other_effect : StepEffect) → is_idle (ran other_effect).1 ≡ tells_idle other_effect
is_idle-ran (effect.Gave (true, s) ls m) = refl
is_idle-ran (effect.Gave (false, s) ls m) = refl
is_idle-ran (effect.Halted fault ls m) = refl

-- a node that runs is quiet exactly where nothing waits for it
pub quiet-runs : IdleWhereItRests → (n : Node) (s : Cpu) → n.state ≡ Runs s → is_quiet n ≡ has_nothing_to_do s n.links
unfolding node_step
quiet-runs idle n s same =
    rw same
    (not-not (is_idle (ran (step s n.links n.memory)).1)
    ∙ (is_idle-ran (step s n.links n.memory) ∙ idle s n.links n.memory))

-- a processor with nothing to do stays as it is
idle-step : ServiceLeavesTheRest
    → (s : Cpu) (ls : FourLinks) (m : List ℕ) → s.running ≡ false → (s.queue.front == not_process) ≡ true
    → any_has_work ls ≡ false
    → step s ls m ≡ effect.Gave (false, s) ls m
unfolding step after_take
idle-step rests s ls m same equal agrees = rw (rests ls s.queue m agrees, same, equal) refl

-- a step of a processor that has nothing to do is idle and changes nothing
pub resting-step : ServiceLeavesTheRest → (s : Cpu) (ls : FourLinks) (m : List ℕ) → has_nothing_to_do s ls ≡ true
    → step s ls m ≡ effect.Gave (false, s) ls m
resting-step rests s ls m same =
    let none : (not s.running && (s.queue.front == not_process)) ≡ true =
    and-left (not s.running && (s.queue.front == not_process)) (not (any_has_work ls)) same in
    idle-step rests s ls m
    (not-true s.running (and-left (not s.running) (s.queue.front == not_process) none))
    (and-right (not s.running) (s.queue.front == not_process) none)
    (not-true (any_has_work ls) (and-right (not s.running && (s.queue.front == not_process))
    (not (any_has_work ls)) same))

-- a Step that answers Idle while no processor runs
fed-idle : (byte : Option ℕ) (next : ℕ → Node) (n : Node) → is_idle (fed byte next n).1 ≡ true → (fed byte next n).0 ≡ n
fed-idle None next n same = refl
fed-idle (Some byte) next n same = cc

controlled-idle : (link : Option LinkNumber) (n : Node) → is_idle (controlled link n).1 ≡ true
    → (controlled link n).0 ≡ n
controlled-idle None n same = refl
controlled-idle (Some link) n same = fed-idle (at link n.links).end.input.buffer _ n same

if-idle : (b : Bool) (n : Node) (pair : Node × Stepped)
    → is_idle pair.1 ≡ false → is_idle (if b then (n, code.Idle) else pair).1 ≡ true
    → (if b then (n, code.Idle) else pair).0 ≡ n
if-idle true n pair busy same = refl
if-idle false n pair busy same = cc

if-busy : (b : Bool) (pair other_pair : Node × Stepped) → is_idle pair.1 ≡ false → is_idle other_pair.1 ≡ false
    → is_idle (if b then pair else other_pair).1 ≡ false
if-busy true pair other_pair same equal = same
if-busy false pair other_pair same equal = equal

abbrev node-of : List ℕ → FourLinks → NodeState → Node
node-of m ls st = record { memory = m; links = ls; state = st }

unchanged : IdleWhereItRests
    → ServiceLeavesTheRest → (st : NodeState) (ls : FourLinks) (m : List ℕ) → is_quiet (node-of m ls st) ≡ true
    → (node_step (node-of m ls st)).0 ≡ node-of m ls st
unfolding node_step
unchanged idle rests WantsControl ls m same =
    controlled-idle (offered ls) (node-of m ls WantsControl)
    (sym (not-not (is_idle (controlled (offered ls) (node-of m ls WantsControl)).1)) ∙ same)
unchanged idle rests (Takes link task) ls m same =
    fed-idle (at link ls).end.input.buffer _ (node-of m ls (Takes link task))
    (sym (not-not (is_idle (step_by_state (Takes link task) (node-of m ls (Takes link task))).1)) ∙ same)
unchanged idle rests (Answers link left word) ls m same =
    if-idle (not (at link ls).end.output.acknowledged) (node-of m ls (Answers link left word)) _
    (if-busy (left == 0) _ _ refl refl)
    (sym (not-not (is_idle (answer_continued link left word (node-of m ls (Answers link left word))).1)) ∙ same)
unchanged idle rests (Runs s) ls m same =
    rw (resting-step rests s ls m (sym (quiet-runs idle (node-of m ls (Runs s)) s refl) ∙ same)) refl
unchanged idle rests (Halted fault) ls m same = refl

-- a Step that would not be recorded changes nothing
pub quiet-step : IdleWhereItRests → ServiceLeavesTheRest → (n : Node) → is_quiet n ≡ true → (node_step n).0 ≡ n
quiet-step idle rests n same = unchanged idle rests n.state n.links n.memory same

ran-faults : (other_effect : StepEffect) (fault : Fault) → (ran other_effect).1 ≡ code.Fault fault
    → (ran other_effect).0.state ≡ Halted fault
ran-faults (effect.Gave (true, s) ls m) fault same = cc
ran-faults (effect.Gave (false, s) ls m) fault same = cc
ran-faults (effect.Halted other ls m) fault same = cc

fed-faults : (byte : Option ℕ) (next : ℕ → Node) (n : Node) (fault : Fault) → (fed byte next n).1 ≡ code.Fault fault
    → (fed byte next n).0.state ≡ Halted fault
fed-faults None next n fault same = cc
fed-faults (Some byte) next n fault same = cc

controlled-faults : (link : Option LinkNumber) (n : Node) (fault : Fault) → (controlled link n).1 ≡ code.Fault fault
    → (controlled link n).0.state ≡ Halted fault
controlled-faults None n fault same = cc
controlled-faults (Some link) n fault same = fed-faults (at link n.links).end.input.buffer _ n fault same

if-faults : (b : Bool) (pair other_pair : Node × Stepped) (fault : Fault)
    → (pair.1 ≡ code.Fault fault → pair.0.state ≡ Halted fault)
    → (other_pair.1 ≡ code.Fault fault → other_pair.0.state ≡ Halted fault)
    → (if b then pair else other_pair).1 ≡ code.Fault fault
    → (if b then pair else other_pair).0.state ≡ Halted fault
if-faults true pair other_pair fault given holds same = given same
if-faults false pair other_pair fault given holds same = holds same

halts : (st : NodeState) (n : Node) (fault : Fault) → n.state ≡ st → (step_by_state st n).1 ≡ code.Fault fault
    → (step_by_state st n).0.state ≡ Halted fault
halts WantsControl n fault same equal = controlled-faults (offered n.links) n fault equal
halts (Takes link task) n fault same equal = fed-faults (at link n.links).end.input.buffer _ n fault equal
halts (Answers link left word) n fault same equal =
    if-faults (not (at link n.links).end.output.acknowledged) _ _ fault (λ f. cc)
    (λ f. if-faults (left == 0) _ _ fault (λ g. cc) (λ g. cc) f) equal
halts (Runs s) n fault same equal = ran-faults (step s n.links n.memory) fault equal
halts (Halted other) n fault same equal = cc

-- a fault leaves a node that has halted by it
pub fault-halts : (n : Node) (fault : Fault) → (node_step n).1 ≡ code.Fault fault → (node_step n).0.state ≡ Halted fault
unfolding node_step
fault-halts n fault same = halts n.state n fault refl same

ran-by : (n : Node) (answer : Stepped)
    → (node_step n).1 ≡ answer → is_step_recorded n ≡ true → is_step_recorded (node_step n).0 ≡ true
    → answer ≡ code.Ran
ran-by n code.Ran same equal agrees = refl
ran-by n code.Idle same equal agrees =
    let busy : not (is_idle (node_step n).1) ≡ true =
    and-right (not (has_halted n.state)) (not (is_idle (node_step n).1)) equal in
    let idle : is_idle (node_step n).1 ≡ true = rw same refl in
    let gone : not true ≡ true = ap not (sym idle) ∙ busy in
    cc
ran-by n (code.Fault fault) same equal agrees =
    let halted : has_halted (node_step n).0.state ≡ true = rw (fault-halts n fault same) refl in
    let goes : not (has_halted (node_step n).0.state) ≡ true =
    and-left (not (has_halted (node_step n).0.state)) (not (is_idle (node_step (node_step n).0).1)) agrees in
    let gone : not true ≡ true = ap not (sym halted) ∙ goes in
    cc

-- a recorded Step that leaves a node whose next Step is recorded too answered Ran
pub recorded-ran : (n : Node) → is_step_recorded n ≡ true → is_step_recorded (node_step n).0 ≡ true
    → (node_step n).1 ≡ code.Ran
recorded-ran n same equal = ran-by n (node_step n).1 refl same equal
