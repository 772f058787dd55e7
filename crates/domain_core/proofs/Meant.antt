-- A domain that has answered one event more is still its journal, or has refused it, for `Domain::apply`, `move_port`,
-- `commit_in_place` and `Moment::burst`.
use Rattle.std.proofs.Common.{◌≡◌, ◌≢◌, ℕ, ◌+◌, ◌^◌, ◌<◌, ◌≤◌, ◌==◌, List, [], ◌∷◌, ◌++◌, length, Bool, true, false}
use Rattle.std.proofs.Common.{not, Ok, Err, refl, sym, ap, ◌∙◌, arith, subst, if◌then◌else◌}
use Rattle.std.proofs.lemmas.Bool.Decides.{nat_tests}
use Rattle.std.proofs.lemmas.List.{set-get_or, length-append, append-nil}
use Rattle.std.specs.Prelude.{OnErr}
use Rattle.std.specs.List.{AllZip}
use Rattle.crossbar.specs.Laws.{UnchangedCountsNothing}
use Rattle.crossbar.specs.Word.{CountsChange}
use Rattle.plan_rules.specs.Part.{PartData}
use Rattle.bootstrap.specs.declared.node.Node.{Node}
use Rattle.bootstrap.specs.Laws.{QuietStepChangesNothing}
use Rattle.bootstrap.specs.Opening.{opened_node}
use Rattle.bootstrap.specs.Step.{is_step_recorded, node_step}
use Rattle.domain_core.specs.declared.event.By.TheVariants.{Farm}
use Rattle.domain_core.specs.declared.event.Event.{Event}
use Rattle.domain_core.specs.declared.event.Event.TheVariants.{Config, Write, Read, Reset, Look, Step, Move}
use Rattle.domain_core.specs.declared.event.Refusal.{Refusal}
use Rattle.domain_core.specs.declared.event.Refusal.TheVariants.{NoSuch, JournalFull, NoMemory}
use Rattle.domain_core.specs.declared.event.Reply.{Reply}
use Rattle.domain_core.specs.declared.journal.Entry.{Entry}
use Rattle.domain_core.specs.Devices.{DeviceStates, node_at, with_node}
use Rattle.domain_core.specs.Domain.{DomainValue, state_of, IsMeant, IsCalled, UnlessNoMemory, gained}
use Rattle.domain_core.specs.Journal.{AnsweredCall, expanded, IsHistory}
use Rattle.domain_core.specs.Machine.{Machine, with_devices, acted, is_recorded}
use Rattle.domain_core.specs.MachineValue.{MachineValue, machine_of}
use Rattle.domain_core.specs.PrivateFarm.{State, Answer, Call, is_there, answered, next}
use Rattle.domain_core.proofs.Histories.{longer}
use Rattle.domain_core.proofs.Outcomes.{still}

-- ---- what is not recorded changes nothing

quiet_of : (recorded : Bool) → recorded ≡ false → not recorded ≡ true
quiet_of recorded is = rw is refl

idle_step : QuietStepChangesNothing → (d : DeviceStates) (number : ℕ) → is_step_recorded (node_at d number) ≡ false
    → with_node number (node_step (node_at d number)).0 d ≡ d
idle_step law d number quiet =
    let same : (node_step (node_at d number)).0 ≡ node_at d number =
    law (node_at d number) (quiet_of (is_step_recorded (node_at d number)) quiet) in
    ap (λ (n : Node). with_node number n d) same
    ∙ ap (λ (nodes : List Node). let e : DeviceStates = record { nodes = nodes; hosts = d.hosts } in e)
    (set-get_or d.nodes number (opened_node 0))

unrecorded : QuietStepChangesNothing → (part : PartData) (m : Machine) (event : Event)
    → is_recorded part m event ≡ false
    → (acted part m event).0 ≡ m
unrecorded law part m (Config byte) other = absurd cc
unrecorded law part m (Write host byte) other = absurd cc
unrecorded law part m (Read host) other = absurd cc
unrecorded law part m (Reset node) other = absurd cc
unrecorded law part m (Look node) other = refl
unrecorded law part m (Step node) other =
    ap (λ (d : DeviceStates). with_devices d m) (idle_step law m.devices node other)
unrecorded law part m (Move port) other =
    ap (λ (d : DeviceStates). with_devices d m) (still part m.switch m.devices port other)

-- ---- an event that is there, below the limit

differ : (m n : ℕ) → m ≢ n → (m == n) ≡ false
differ m n other = grind (arith, nat_tests)

-- a call that is there for its caller, while the journal has room, is answered as the machine acts on its event
pub next_told : (part : PartData) (s : State) (call : Call) → is_there part call ≡ true → s.recorded ≢ part.limit
    → next part s call ≡ (answered part s call.event, Ok (acted part s.machine call.event).1)
next_told part s call there below = rw (there, differ s.recorded part.limit below) refl

-- a history is one too of an equal part, as an equal list and with an equal state
pub same_history : {P Q : PartData} {h k : List AnsweredCall} {s t : State} → P ≡ Q → h ≡ k → s ≡ t → IsHistory P h s
    → IsHistory Q k t
same_history {P} {Q} {h} {k} {s} {t} parts histories states of =
    subst (λ (x : State). IsHistory Q k x) states
    (subst (λ (x : List AnsweredCall). IsHistory Q x s) histories (subst (λ (x : PartData). IsHistory x h s) parts of))

counted : (recorded : Bool) (n m : ℕ) → recorded ≡ true → m ≡ n + 1 → (if recorded then n + 1 else n) ≡ m
counted recorded n m is more = rw (is, more) refl

-- what the farm that holds the domain alone does with an event that is recorded
record AnsweredCommand (d : DomainValue) (call : Call) (m : MachineValue) (reply : Reply) (entries : List Entry)
    (reserved : ℕ) : Type 0 where
  answer : (next d.machine.part (state_of d) call).1 ≡ Ok reply
  state : (next d.machine.part (state_of d) call).0 ≡ state_of
      (record { machine = m; journal = entries; reserved = reserved })
  long : length (expanded entries) ≡ length (expanded d.journal) + 1

told_recorded : (d : DomainValue) (call : Call) (other_machine : MachineValue) (reply : Reply) (entries : List Entry)
    (reserved : ℕ)
    → is_there d.machine.part call ≡ true → length (expanded d.journal) ≢ d.machine.part.limit
    → machine_of other_machine ≡ (acted d.machine.part (machine_of d.machine) call.event).0
    → reply ≡ (acted d.machine.part (machine_of d.machine) call.event).1
    → is_recorded d.machine.part (machine_of d.machine) call.event ≡ true
    → expanded entries ≡ expanded d.journal ++ record { call = call; reply = reply } ∷ []
    → AnsweredCommand d call other_machine reply entries reserved
told_recorded d call other_machine reply entries reserved there below machine replies recorded gains =
    let s : State = state_of d in
    let P : PartData = d.machine.part in
    let one : AnsweredCall = record { call = call; reply = reply } in
    let told : next P s call ≡ (answered P s call.event, Ok (acted P s.machine call.event).1) =
    next_told P s call there below in
    let long : length (expanded entries) ≡ s.recorded + 1 =
    ap length gains ∙ length-append (expanded d.journal) (one ∷ []) in
    let number : (answered P s call.event).recorded ≡ length (expanded entries) =
    counted (is_recorded P s.machine call.event) s.recorded (length (expanded entries)) recorded long in
    record {
      answer = ap (λ (p : State × Answer). p.1) told ∙ ap (λ (r : Reply). let a : Answer = Ok r in a) (sym replies);
      state =
          ap (λ (p : State × Answer). p.0) told
          ∙ ap (λ (x : Machine).
          let y : State = record { machine = x; recorded = (answered P s call.event).recorded } in
          y)
          (sym machine)
          ∙ ap (λ (n : ℕ). let y : State = record { machine = machine_of other_machine; recorded = n } in y) number;
      long = long;
    }

-- a domain that answered a call and recorded it is what its journal says, if it was before
pub meant_recorded : (d : DomainValue) (call : Call) (other_machine : MachineValue) (reply : Reply)
    (entries : List Entry) (reserved : ℕ)
    → IsMeant d → is_there d.machine.part call ≡ true → length (expanded d.journal) ≢ d.machine.part.limit
    → machine_of other_machine ≡ (acted d.machine.part (machine_of d.machine) call.event).0
    → reply ≡ (acted d.machine.part (machine_of d.machine) call.event).1
    → other_machine.part ≡ d.machine.part
    → is_recorded d.machine.part (machine_of d.machine) call.event ≡ true
    → expanded entries ≡ expanded d.journal ++ record { call = call; reply = reply } ∷ []
    → IsMeant (record { machine = other_machine; journal = entries; reserved = reserved })
meant_recorded d call other_machine reply entries reserved meant there below machine replies part recorded gains =
    let s : State = state_of d in
    let P : PartData = d.machine.part in
    let one : AnsweredCall = record { call = call; reply = reply } in
    let told : AnsweredCommand d call other_machine reply entries reserved =
    told_recorded d call other_machine reply entries reserved there below machine replies recorded gains in
    let history : IsHistory P (expanded d.journal ++ one ∷ []) (next P s call).0 =
    longer P (expanded d.journal) s call reply meant.history told.answer in
    record {
      history = same_history (sym part) (sym gains) told.state history;
      within_limit =
          within (length (expanded d.journal)) (length (expanded entries)) d.machine.part.limit other_machine.part.limit
          meant.within_limit below told.long (ap (λ (x : PartData). x.limit) part);
      limit = subst (λ (x : PartData). x.limit ≤ 2 ^ 40) (sym part) meant.limit;
    }
  where
    within : (before now limit same : ℕ) → before ≤ limit → before ≢ limit → now ≡ before + 1 → same ≡ limit
        → now ≤ same
    within before now limit same few other more is = omega (arith, few, other, more, is)

-- such a domain has answered the call as the private farm does, and become what that becomes
pub called_recorded : (d : DomainValue) (call : Call) (other_machine : MachineValue) (reply : Reply)
    (entries : List Entry) (reserved : ℕ)
    → is_there d.machine.part call ≡ true → length (expanded d.journal) ≢ d.machine.part.limit
    → machine_of other_machine ≡ (acted d.machine.part (machine_of d.machine) call.event).0
    → reply ≡ (acted d.machine.part (machine_of d.machine) call.event).1
    → is_recorded d.machine.part (machine_of d.machine) call.event ≡ true
    → expanded entries ≡ expanded d.journal ++ record { call = call; reply = reply } ∷ []
    → AllZip CountsChange d.machine.switch.words other_machine.switch.words
    → IsCalled call (Ok reply) d (record { machine = other_machine; journal = entries; reserved = reserved })
called_recorded d call other_machine reply entries reserved there below machine replies recorded gains counts =
    let s : State = state_of d in
    let P : PartData = d.machine.part in
    let one : AnsweredCall = record { call = call; reply = reply } in
    let told : AnsweredCommand d call other_machine reply entries reserved =
    told_recorded d call other_machine reply entries reserved there below machine replies recorded gains in
    let said : Answer = Ok reply in
    let gain : gained P s call said ≡ one ∷ [] = rw recorded refl in
    record {
      answer = sym told.answer;
      state = sym told.state;
      refused = subst (λ (a : Answer). OnErr a (said ≡ a)) (sym told.answer) tt;
      journal = gains ∙ ap (λ (more : List AnsweredCall). expanded d.journal ++ more) (sym gain);
      counts = counts;
    }

-- a domain that answered an event and didn't record it is what its journal says, if it was before
pub meant_unrecorded : QuietStepChangesNothing
    → (d : DomainValue) (event : Event) (other_machine : MachineValue) (entries : List Entry) (reserved : ℕ)
    → IsMeant d
    → machine_of other_machine ≡ (acted d.machine.part (machine_of d.machine) event).0
    → other_machine.part ≡ d.machine.part
    → is_recorded d.machine.part (machine_of d.machine) event ≡ false
    → entries ≡ d.journal
    → IsMeant (record { machine = other_machine; journal = entries; reserved = reserved })
meant_unrecorded law d event other_machine entries reserved meant machine part recorded same =
    let still : machine_of other_machine ≡ machine_of d.machine =
    machine ∙ unrecorded law d.machine.part (machine_of d.machine) event recorded in
    let state : state_of (record { machine = other_machine; journal = entries; reserved = reserved }) ≡ state_of d =
    ap (λ (x : Machine). let y : State = record { machine = x; recorded = length (expanded entries) } in y) still
    ∙ ap (λ (l : List Entry).
    let y : State = record { machine = machine_of d.machine; recorded = length (expanded l) } in
    y)
    same in
    record {
      history = same_history (sym part) (ap expanded (sym same)) (sym state) meant.history;
      within_limit =
          within_part (length (expanded entries)) (length (expanded d.journal)) d.machine.part.limit
          other_machine.part.limit
          (ap (λ (l : List Entry). length (expanded l)) same) meant.within_limit (ap (λ (x : PartData). x.limit) part);
      limit = subst (λ (x : PartData). x.limit ≤ 2 ^ 40) (sym part) meant.limit;
    }
  where
    within_part : (now before limit same : ℕ) → now ≡ before → before ≤ limit → same ≡ limit → now ≤ same
    within_part now before limit same still few is = omega (arith, still, few, is)

-- ---- a call that is refused, or that isn't recorded

unless_refused_so : (P : Type 0) (told : Answer) → P → UnlessNoMemory told P
unless_refused_so P (Ok reply) it = it
unless_refused_so P (Err NoSuch) it = it
unless_refused_so P (Err JournalFull) it = it
unless_refused_so P (Err NoMemory) it = tt

-- a domain that refuses a call as the private farm does, and stays, has answered it
pub called_refused : UnchangedCountsNothing → (d : DomainValue) (call : Call) (refusal : Refusal)
    → next d.machine.part (state_of d) call ≡ (state_of d, Err refusal)
    → IsCalled call (Err refusal) d d
called_refused law d call refusal told =
    let said : Answer = Err refusal in
    let answer : (next d.machine.part (state_of d) call).1 ≡ said = ap (λ (p : State × Answer). p.1) told in
    record {
      answer = unless_refused_so _ said (sym answer);
      state = unless_refused_so _ said (sym (ap (λ (p : State × Answer). p.0) told));
      refused = subst (λ (a : Answer). OnErr a (said ≡ a)) (sym answer) refl;
      journal = sym (append-nil (expanded d.journal));
      counts = law d.machine.switch.words;
    }

-- a call that isn't there for its caller is refused so
pub called_no_such : UnchangedCountsNothing → (d : DomainValue) (call : Call) → is_there d.machine.part call ≡ false
    → IsCalled call (Err NoSuch) d d
called_no_such law d call not_there = called_refused law d call NoSuch (told d.machine.part (state_of d) call not_there)
  where
    told : (part : PartData) (s : State) (call : Call) → is_there part call ≡ false → next part s call ≡ (s, Err NoSuch)
    told part s call not_there = rw not_there refl

-- and one that is there, while the journal is full
pub called_full : UnchangedCountsNothing → (d : DomainValue) (call : Call) → is_there d.machine.part call ≡ true
    → length (expanded d.journal) ≡ d.machine.part.limit
    → IsCalled call (Err JournalFull) d d
called_full law d call there full =
    called_refused law d call JournalFull (told d.machine.part (state_of d) call there (same _ _ full))
  where
    same : (m n : ℕ) → m ≡ n → (m == n) ≡ true
    same m n is = grind (arith, nat_tests)

    told : (part : PartData) (s : State) (call : Call) → is_there part call ≡ true → (s.recorded == part.limit) ≡ true
        → next part s call ≡ (s, Err JournalFull)
    told part s call there full = rw (there, full) refl

-- a domain that stays as there is no memory has answered a call that the private farm doesn't refuse
pub called_no_memory : UnchangedCountsNothing → (d : DomainValue) (call : Call) → is_there d.machine.part call ≡ true
    → length (expanded d.journal) ≢ d.machine.part.limit
    → IsCalled call (Err NoMemory) d d
called_no_memory law d call there below =
    let said : Answer = Err NoMemory in
    let told = next_told d.machine.part (state_of d) call there below in
    record {
      answer = tt;
      state = tt;
      refused =
          subst (λ (a : Answer). OnErr a (said ≡ a)) (sym (ap (λ (p : State × Answer). p.1) told)) tt;
      journal = sym (append-nil (expanded d.journal));
      counts = law d.machine.switch.words;
    }

uncounted : (recorded : Bool) (n : ℕ) → recorded ≡ false → (if recorded then n + 1 else n) ≡ n
uncounted recorded n is = rw is refl

-- a domain that answered an event and didn't record it has answered the call, if its journal stays
pub called_unrecorded : (d : DomainValue) (call : Call) (other_machine : MachineValue) (reply : Reply)
    (entries : List Entry) (reserved : ℕ)
    → is_there d.machine.part call ≡ true → length (expanded d.journal) ≢ d.machine.part.limit
    → machine_of other_machine ≡ (acted d.machine.part (machine_of d.machine) call.event).0
    → reply ≡ (acted d.machine.part (machine_of d.machine) call.event).1
    → is_recorded d.machine.part (machine_of d.machine) call.event ≡ false
    → entries ≡ d.journal
    → AllZip CountsChange d.machine.switch.words other_machine.switch.words
    → IsCalled call (Ok reply) d (record { machine = other_machine; journal = entries; reserved = reserved })
called_unrecorded d call other_machine reply entries reserved there below machine replies recorded same counts =
    let s : State = state_of d in
    let P : PartData = d.machine.part in
    let said : Answer = Ok reply in
    let told : next P s call ≡ (answered P s call.event, Ok (acted P s.machine call.event).1) =
    next_told P s call there below in
    let answer : (next P s call).1 ≡ said =
    ap (λ (p : State × Answer). p.1) told ∙ ap (λ (r : Reply). let a : Answer = Ok r in a) (sym replies) in
    let none : gained P s call said ≡ [] = rw recorded refl in
    record {
      answer = sym answer;
      state =
          ap (λ (l : List Entry).
          let y : State = record { machine = machine_of other_machine; recorded = length (expanded l) } in
          y)
          same
          ∙ ap (λ (x : Machine). let y : State = record { machine = x; recorded = s.recorded } in y) machine
          ∙ ap (λ (n : ℕ).
          let y : State = record { machine = (acted P s.machine call.event).0; recorded = n } in
          y)
          (sym (uncounted (is_recorded P s.machine call.event) s.recorded recorded))
          ∙ sym (ap (λ (p : State × Answer). p.0) told);
      refused = subst (λ (a : Answer). OnErr a (said ≡ a)) (sym answer) tt;
      journal =
          ap expanded same ∙ sym (append-nil (expanded d.journal))
          ∙ ap (λ (more : List AnsweredCall). expanded d.journal ++ more) (sym none);
      counts = counts;
    }

-- a Move of a port of the part is there for the farm
pub move_there : (part : PartData) (port : ℕ) → port < part.count
    → is_there part (record { by = Farm; event = Move port }) ≡ true
move_there part port here = grind (arith, nat_tests)

-- a Step of a node of the part is there for the farm
pub step_there : (part : PartData) (node : ℕ) → node < length part.nodes
    → is_there part (record { by = Farm; event = Step node }) ≡ true
step_there part node here = grind (arith, nat_tests)
