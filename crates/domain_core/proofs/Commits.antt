-- A history that is that many Steps of one node longer, for `Domain::commit_in_place` and `Moment::burst`.
use Rattle.std.proofs.Common.{◌≡◌, ◌≢◌, ℕ, zero, suc, ◌+◌, ◌^◌, ◌<◌, ◌≤◌, List, [], ◌∷◌, ◌++◌, length, Bool, true}
use Rattle.std.proofs.Common.{Option, Some, Ok, refl, sym, ap, ◌∙◌, arith, subst, append_assoc, add-zero}
use Rattle.std.proofs.Common.{if◌then◌else◌, set, replicate}
use Rattle.std.specs.Prelude.{slice_get}
use Rattle.std.proofs.lemmas.List.{get_or-set_same, append-nil, length-append, length-replicate}
use Rattle.std.proofs.lemmas.Option.{slice_get_within}
use Rattle.plan_rules.specs.Part.{PartData}
use Rattle.t414_step.specs.declared.stepping.Stepped.{Stepped}
use Rattle.t414_step.specs.declared.stepping.Stepped.TheVariants.{Ran}
use Rattle.bootstrap.specs.declared.node.Node.{Node}
use Rattle.bootstrap.specs.Laws.{RecordedStepRan}
use Rattle.bootstrap.specs.Opening.{opened_node}
use Rattle.bootstrap.specs.Step.{node_step, is_step_recorded}
use Rattle.bootstrap.specs.Steps.{after_steps, last_answer}
use Rattle.domain_core.specs.declared.event.By.TheVariants.{Farm}
use Rattle.domain_core.specs.declared.event.Event.TheVariants.{Step}
use Rattle.domain_core.specs.declared.event.Reply.TheVariants as reply
use Rattle.domain_core.specs.declared.journal.Entry.{Entry}
use Rattle.domain_core.specs.Devices.{node_at, with_node}
use Rattle.domain_core.specs.Domain.{DomainValue, state_of, IsMeant}
use Rattle.domain_core.specs.Journal.{AnsweredCall, answered_step, steps, expanded, IsHistory}
use Rattle.domain_core.specs.Machine.{with_devices, acted}
use Rattle.domain_core.specs.MachineValue.{MachineValue, machine_of}
use Rattle.domain_core.specs.PrivateFarm.{State, Answer, Call, is_there, answered, next}
use Rattle.domain_core.specs.Ticket.{TicketValue, IsTicket, steps_told}
use Rattle.domain_core.proofs.Histories.{longer}
use Rattle.domain_core.proofs.Meant.{next_told, same_history}
use Rattle.domain_core.proofs.Runs.{steps-ran}
use Rattle.domain_core.proofs.Tickets.{no_steps, no_answer}

one_step_more : (k : ℕ) (n : Node) → after_steps (suc k) n ≡ (node_step (after_steps k n)).0
unfolding after_steps
one_step_more k n = refl

one_answer_more : (k : ℕ) (n : Node) → last_answer (suc k) n ≡ Some (node_step (after_steps k n)).1
unfolding last_answer
one_answer_more k n = refl

-- each of that many Steps would be recorded
abbrev AreRecorded : ℕ → Node → Type 0
AreRecorded k start = (j : ℕ) → j < k → is_step_recorded (after_steps j start) ≡ true

-- those that others follow answered Ran
all_ran : RecordedStepRan → (i k : ℕ) (start : Node) → AreRecorded (suc k) start
    → steps_told i k (last_answer k start) ≡ replicate k (answered_step Farm i Ran)
all_ran law i zero start recorded = ap (steps_told i zero) (no_answer start)
all_ran law i (suc k) start recorded =
    let ran : (node_step (after_steps k start)).1 ≡ Ran =
    law (after_steps k start) (recorded k (omega arith))
    (ap is_step_recorded (sym (one_step_more k start)) ∙ recorded (suc k) (omega arith)) in
    ap (steps_told i (suc k)) (one_answer_more k start) ∙ ap (steps Farm i (suc k)) ran ∙ steps-ran Farm i (suc k)

set_set : {A : Type 0} (xs : List A) (i : ℕ) (x y : A) → set (set xs i x) i y ≡ set xs i y
set_set [] i x y = refl
set_set (z ∷ xs) zero x y = refl
set_set (z ∷ xs) (suc i) x y = ap (λ (rest : List _). z ∷ rest) (set_set xs i x y)

set_same : {A : Type 0} (xs : List A) (i : ℕ) (x : A) → slice_get xs i ≡ Some x → set xs i x ≡ xs
set_same [] i x at = refl
set_same (y ∷ xs) zero x at = let e : y ≡ x = cc in ap (λ (z : _). z ∷ xs) (sym e)
set_same (y ∷ xs) (suc i) x at = ap (λ (rest : List _). y ∷ rest) (set_same xs i x at)

abbrev with_nodes : State → List Node → ℕ → State
with_nodes s nodes recorded =
    record {
      machine = with_devices (record { nodes = nodes; hosts = s.machine.devices.hosts }) s.machine;
      recorded = recorded;
    }

-- the state after that many Steps of one node
abbrev pub stepped_on : State → ℕ → Node → ℕ → State
stepped_on s i start k = with_nodes s (set s.machine.devices.nodes i (after_steps k start)) (s.recorded + k)

-- what a Step of this node leaves and answers
abbrev told_at : State → ℕ → Node → State × Answer
told_at on i n = (
  with_nodes on (set on.machine.devices.nodes i (node_step n).0)
      (if is_step_recorded n then on.recorded + 1 else on.recorded),
  Ok (reply.Stepped (node_step n).1),
)

abbrev step_of : ℕ → Call
step_of i = record { by = Farm; event = Step i }

one_step : (part : PartData) (s : State) (i k : ℕ) (start : Node)
    → is_there part (step_of i) ≡ true → i < length s.machine.devices.nodes → s.recorded + k ≢ part.limit
    → is_step_recorded (after_steps k start) ≡ true
    → next part (stepped_on s i start k) (step_of i)
    ≡ (stepped_on s i start (suc k), Ok (reply.Stepped (node_step (after_steps k start)).1))
one_step part s i k start there lt room recorded =
    let n : Node = after_steps k start in
    let on : State = stepped_on s i start k in
    let one : next part on (step_of i) ≡ (answered part on (Step i), Ok (acted part on.machine (Step i)).1) =
    next_told part on (step_of i) there room in
    let here : node_at on.machine.devices i ≡ n = get_or-set_same s.machine.devices.nodes i n (opened_node 0) lt in
    let counted : (if is_step_recorded n then on.recorded + 1 else on.recorded) ≡ s.recorded + suc k =
    ap (λ (b : Bool). if b then on.recorded + 1 else on.recorded) recorded ∙ omega arith in
    let nodes : set (set s.machine.devices.nodes i n) i (node_step n).0
    ≡ set s.machine.devices.nodes i (after_steps (suc k) start) =
    set_set s.machine.devices.nodes i n (node_step n).0
    ∙ ap (set s.machine.devices.nodes i) (sym (one_step_more k start)) in
    one ∙ ap (told_at on i) here
    ∙ ap (λ (xs : List Node).
    let p : State × Answer = (
      with_nodes s xs (if is_step_recorded n then on.recorded + 1 else on.recorded),
      Ok (reply.Stepped (node_step n).1),
    ) in
    p)
    nodes
    ∙ ap (λ (c : ℕ).
    let p : State × Answer =
    (with_nodes s (set s.machine.devices.nodes i (after_steps (suc k) start)) c, Ok (reply.Stepped (node_step n).1)) in
    p)
    counted

fewer : (k : ℕ) (start : Node) → AreRecorded (suc k) start → AreRecorded k start
fewer k start recorded j lt = recorded j (omega arith)

below_limit : (recorded k limit : ℕ) → recorded + suc k ≤ limit → recorded + k ≢ limit
below_limit recorded k limit room e = absurd (omega (arith, e, room))

-- a history with k Steps of a node after it is one, if each would be recorded and there is room, and leads on
pub history_steps : RecordedStepRan → (part : PartData) (calls : List AnsweredCall) (s : State) (i k : ℕ) (start : Node)
    → is_there part (step_of i) ≡ true → slice_get s.machine.devices.nodes i ≡ Some start → IsHistory part calls s
    → s.recorded + k ≤ part.limit
    → AreRecorded k start
    → IsHistory part (calls ++ steps_told i k (last_answer k start)) (stepped_on s i start k)
history_steps law part calls s i zero start there at history room recorded =
    let nodes : set s.machine.devices.nodes i (after_steps zero start) ≡ s.machine.devices.nodes =
    ap (set s.machine.devices.nodes i) (no_steps start) ∙ set_same s.machine.devices.nodes i start at in
    let state : s ≡ stepped_on s i start zero =
    ap (λ (xs : List Node). with_nodes s xs s.recorded) (sym nodes)
    ∙ ap (with_nodes s (set s.machine.devices.nodes i (after_steps zero start))) (sym (add-zero s.recorded)) in
    let told : calls ≡ calls ++ steps_told i zero (last_answer zero start) =
    sym (append-nil calls) ∙ ap (λ (o : Option Stepped). calls ++ steps_told i zero o) (sym (no_answer start)) in
    same_history refl told state history
history_steps law part calls s i (suc k) start there at history room recorded =
    let n : Node = after_steps k start in
    let one : AnsweredCall = answered_step Farm i (node_step n).1 in
    let before = history_steps law part calls s i k start there at history (omega arith) (fewer k start recorded) in
    let step =
    one_step part s i k start there (slice_get_within s.machine.devices.nodes i start at)
    (below_limit s.recorded k part.limit room) (recorded k (omega arith)) in
    let next_history =
    longer part (calls ++ steps_told i k (last_answer k start)) (stepped_on s i start k) (step_of i)
    (reply.Stepped (node_step n).1) before (ap (λ (p : State × Answer). p.1) step) in
    let more : (calls ++ steps_told i k (last_answer k start)) ++ one ∷ []
    ≡ calls ++ steps_told i (suc k) (last_answer (suc k) start) =
    append_assoc calls (steps_told i k (last_answer k start)) (one ∷ [])
    ∙ ap (λ (xs : List AnsweredCall). calls ++ (xs ++ one ∷ [])) (all_ran law i k start recorded)
    ∙ ap (λ (o : Option Stepped). calls ++ steps_told i (suc k) o) (sym (one_answer_more k start)) in
    same_history refl more (ap (λ (p : State × Answer). p.0) step) next_history

length_of_steps : (i k : ℕ) (start : Node) → length (steps_told i k (last_answer k start)) ≡ k
length_of_steps i zero start = ap (λ (o : Option Stepped). length (steps_told i zero o)) (no_answer start)
length_of_steps i (suc k) start =
    ap (λ (o : Option Stepped). length (steps_told i (suc k) o)) (one_answer_more k start)
    ∙ length_of_run i k (node_step (after_steps k start)).1
  where
    length_of_run : (i k : ℕ) (last : Stepped) → length (steps Farm i (suc k) last) ≡ suc k
    length_of_run i k last =
        omega (
          arith,
          length-append (replicate k (answered_step Farm i Ran)) (answered_step Farm i last ∷ []),
          length-replicate k (answered_step Farm i Ran),
        )

-- a ticket's Steps are as many events as it has done
pub length_told : (t : TicketValue) → IsTicket t → length (steps_told t.number t.steps t.last) ≡ t.steps
length_told t ticket =
    ap (λ (o : Option Stepped). length (steps_told t.number t.steps o)) ticket.last
    ∙ length_of_steps t.number t.steps t.start

room_for : (before steps limit : ℕ) → before + steps ≤ limit → (now same : ℕ) → now ≡ before + steps → same ≡ limit
    → now ≤ same
room_for before steps limit room now same long is = omega (arith, room, long, is)

-- a domain to which a ticket was committed is still its journal
pub meant_committed : RecordedStepRan → (d : DomainValue) (t : TicketValue) (other_machine : MachineValue)
    (entries : List Entry) (reserved : ℕ)
    → IsMeant d → IsTicket t → is_there d.machine.part (step_of t.number) ≡ true
    → slice_get d.machine.devices.nodes t.number ≡ Some t.start
    → length (expanded d.journal) + t.steps ≤ d.machine.part.limit
    → other_machine ≡ record d.machine { devices = with_node t.number t.node d.machine.devices }
    → expanded entries ≡ expanded d.journal ++ steps_told t.number t.steps t.last
    → IsMeant (record { machine = other_machine; journal = entries; reserved = reserved })
meant_committed law d t other_machine entries reserved meant ticket there at room machine gains =
    let part : other_machine.part ≡ d.machine.part = ap (λ (v : MachineValue). v.part) machine in
    let long : length (expanded entries) ≡ length (expanded d.journal) + t.steps =
    ap length gains ∙ length-append (expanded d.journal) (steps_told t.number t.steps t.last)
    ∙ ap (λ (n : ℕ). length (expanded d.journal) + n) (length_told t ticket) in
    let history =
    history_steps law d.machine.part (expanded d.journal) (state_of d) t.number t.steps t.start there at meant.history
    room ticket.node.recorded in
    let state : stepped_on (state_of d) t.number t.start t.steps
    ≡ state_of (record { machine = other_machine; journal = entries; reserved = reserved }) =
    ap (λ (n : Node).
    with_nodes (state_of d) (set d.machine.devices.nodes t.number n) (length (expanded d.journal) + t.steps))
    ticket.node.node
    ∙ ap (λ (v : MachineValue).
    let y : State = record { machine = machine_of v; recorded = length (expanded d.journal) + t.steps } in
    y)
    (sym machine)
    ∙ ap (λ (n : ℕ). let y : State = record { machine = machine_of other_machine; recorded = n } in y) (sym long) in
    record {
      history =
          same_history (sym part)
          (ap (λ (o : Option Stepped). expanded d.journal ++ steps_told t.number t.steps o) (sym ticket.last)
          ∙ sym gains)
          state history;
      within_limit =
          room_for (length (expanded d.journal)) t.steps d.machine.part.limit room (length (expanded entries))
          other_machine.part.limit
          long (ap (λ (x : PartData). x.limit) part);
      limit = subst (λ (x : PartData). x.limit ≤ 2 ^ 40) (sym part) meant.limit;
    }
