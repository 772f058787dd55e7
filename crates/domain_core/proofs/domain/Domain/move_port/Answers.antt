use Rattle.std.proofs.Common.{subst, refl, Ok, ◌<◌, ◌≡◌, ◌≢◌, ap, sym, ◌∙◌, length, ◌++◌, ◌∷◌, [], ◌+◌, true}
use Rattle.std.proofs.lemmas.Bool.{false≢true}
use Rattle.std.proofs.lemmas.List.{length-append}
use Rattle.std.specs.List.{AllZip}
use Rattle.crossbar.specs.Word.{CountsChange}
use Rattle.virtual_switch.specs.SwitchValue.{private_of}
use Rattle.domain_core.specs.declared.event.By.TheVariants.{Farm}
use Rattle.domain_core.specs.declared.event.Event.TheVariants.{Move}
use Rattle.domain_core.specs.declared.event.Moved.{Moved}
use Rattle.domain_core.specs.declared.event.Reply.{Reply}
use Rattle.domain_core.specs.declared.event.Reply.TheVariants as reply_of
use Rattle.domain_core.specs.Devices.{DeviceStates}
use Rattle.domain_core.specs.Domain.{DomainValue, domain_of, IsMeant, IsCalled}
use Rattle.domain_core.specs.Entries.{journal_of}
use Rattle.domain_core.specs.Journal.{AnsweredCall, JournalValue, expanded}
use Rattle.domain_core.specs.Machine.{with_devices, has_moved}
use Rattle.domain_core.specs.MachineValue.{MachineValue, machine_of}
use Rattle.domain_core.specs.PrivateFarm.{Call, is_there}
use Rattle.domain_core.specs.Routes.{HasItsDevice, route_leaves}
use Rattle.domain_core.proofs.Meant.{meant_recorded, called_recorded, called_unrecorded, called_full, move_there}
use Rattle.domain_core.proofs.Outcomes.{still}
use Rattle.domain_core.proofs.domain.Domain.move_port.Goals as goal

-- ---- the journal is full

pub returns-then-is_full-clause-called : goal.returns-then-is_full-clause-called
returns-then-is_full-clause-called g c =
    called_full c.unchanged_words_count_nothing.ensures.unchanged c.args.self.now
    (record { by = Farm; event = Move c.args.port }) (move_there c.args.self.now.machine.part c.args.port c.requires)
    (c.is_full.ensures.0 c.if-is_full.true)

-- ---- the packet is lost or passed on

pub invariant_of-self : goal.invariant_of-self
invariant_of-self g c =
    subst (λ (m : MachineValue).
    IsMeant (domain_of m (journal_of c.reserve.new.self))
    × (c.self.inside.recorded ≡ length (expanded c.reserve.new.self.entries)))
    (sym c.route-route.ensures.unchanged)
    (subst (λ (l : JournalValue).
    IsMeant (domain_of c.self.inside.machine l)
    × (c.self.inside.recorded ≡ length (expanded l.entries)))
    (sym (c.reserve.ensures.unchanged ∙ c.journal.view_is)) c.self.invariant)

pub follow-requires : goal.follow-requires
follow-requires g c =
    subst (λ (m : MachineValue). HasItsDevice m.devices c.route-route.result) (sym c.route-route.ensures.unchanged)
    c.route-route.ensures.device

pub invariant_of-self-then-has_moved : goal.invariant_of-self-then-has_moved
invariant_of-self-then-has_moved g c =
    let d : DomainValue = domain_of c.self.inside.machine c.self.inside.journal in
    let call : Call = record { by = Farm; event = Move c.args.port } in
    let reply : Reply = reply_of.Moved c.answer-moved.result in
    let one : AnsweredCall = record { call = call; reply = reply } in
    let there : is_there d.machine.part call ≡ true =
    move_there d.machine.part c.args.port
    (subst (λ (o : DomainValue). c.args.port < o.machine.part.count) (sym c.self.view_is) c.requires) in
    let below : length (expanded d.journal) ≢ d.machine.part.limit =
    subst (λ (o : DomainValue). length (expanded o.journal) ≢ o.machine.part.limit) (sym c.self.view_is)
    (λ full. false≢true (sym c.if-is_full.false ∙ c.is_full.ensures.1 full)) in
    let answer = c.answer-moved.ensures ∙ c.route-route.ensures.answer in
    let left : c.follow.new.self ≡ record d.machine {
      devices = route_leaves d.machine.part c.route-route.result d.machine.devices;
    } =
    c.follow.ensures
    ∙ ap (λ (m : MachineValue).
    let n : MachineValue = record m { devices = route_leaves m.part c.route-route.result m.devices } in
    n)
    c.route-route.ensures.unchanged in
    let gains : expanded c.push_answer.new.self.entries ≡ expanded c.self.inside.journal.entries ++ one ∷ [] =
    c.push_answer.ensures.entries ∙ ap (λ (l : JournalValue). expanded l.entries ++ one ∷ [])
    (c.reserve.ensures.unchanged ∙ c.journal.view_is) in
    let counted : length (expanded c.push_answer.new.self.entries) ≡ length (expanded
    c.self.inside.journal.entries) + 1 =
    ap length gains ∙ length-append (expanded c.self.inside.journal.entries) (one ∷ []) in (
      meant_recorded d call c.follow.new.self reply c.push_answer.new.self.entries c.push_answer.new.self.reserved
          c.self.invariant.0 there below
          (ap machine_of left
          ∙ ap (λ (x : DeviceStates). with_devices x (machine_of d.machine)) c.route-route.ensures.leaves)
          (ap reply_of.Moved answer) (ap (λ (m : MachineValue). m.part) left)
          (ap (λ (m : Moved). has_moved m) (sym answer) ∙ sym c.has_moved.ensures ∙ c.if-has_moved.true) gains,
      ap (λ n. n + 1) c.self.invariant.1 ∙ sym counted,
    )

pub returns-in_ok-reserve-clause-called : goal.returns-in_ok-reserve-clause-called
returns-in_ok-reserve-clause-called g c =
    let d : DomainValue = domain_of c.self.inside.machine c.self.inside.journal in
    let call : Call = record { by = Farm; event = Move c.args.port } in
    let reply : Reply = reply_of.Moved c.answer-moved.result in
    let one : AnsweredCall = record { call = call; reply = reply } in
    let there : is_there d.machine.part call ≡ true =
    move_there d.machine.part c.args.port
    (subst (λ (o : DomainValue). c.args.port < o.machine.part.count) (sym c.self.view_is) c.requires) in
    let below : length (expanded d.journal) ≢ d.machine.part.limit =
    subst (λ (o : DomainValue). length (expanded o.journal) ≢ o.machine.part.limit) (sym c.self.view_is)
    (λ full. false≢true (sym c.if-is_full.false ∙ c.is_full.ensures.1 full)) in
    let answer = c.answer-moved.ensures ∙ c.route-route.ensures.answer in
    let left : c.follow.new.self ≡ record d.machine {
      devices = route_leaves d.machine.part c.route-route.result d.machine.devices;
    } =
    c.follow.ensures
    ∙ ap (λ (m : MachineValue).
    let n : MachineValue = record m { devices = route_leaves m.part c.route-route.result m.devices } in
    n)
    c.route-route.ensures.unchanged in
    let gains : expanded c.push_answer.new.self.entries ≡ expanded c.self.inside.journal.entries ++ one ∷ [] =
    c.push_answer.ensures.entries ∙ ap (λ (l : JournalValue). expanded l.entries ++ one ∷ [])
    (c.reserve.ensures.unchanged ∙ c.journal.view_is) in
    subst (λ (o : DomainValue).
    IsCalled call (Ok reply) o (domain_of c.follow.new.self (journal_of c.push_answer.new.self)))
    c.self.view_is
    (called_recorded d call c.follow.new.self reply c.push_answer.new.self.entries c.push_answer.new.self.reserved
    there below
    (ap machine_of left
    ∙ ap (λ (x : DeviceStates). with_devices x (machine_of d.machine)) c.route-route.ensures.leaves)
    (ap reply_of.Moved answer)
    (ap (λ (m : Moved). has_moved m) (sym answer) ∙ sym c.has_moved.ensures ∙ c.if-has_moved.true) gains
    (subst (λ (m : MachineValue). AllZip CountsChange d.machine.switch.words m.switch.words) (sym left)
    (c.unchanged_words_count_nothing.ensures.unchanged d.machine.switch.words)))

-- ---- nothing is moved

pub invariant_of-self-else-has_moved : goal.invariant_of-self-else-has_moved
invariant_of-self-else-has_moved g c =
    subst (λ (m : MachineValue).
    IsMeant (domain_of m c.self.inside.journal)
    × (c.self.inside.recorded ≡ length (expanded c.self.inside.journal.entries)))
    (sym c.route-route.ensures.unchanged) c.self.invariant

pub returns-else-has_moved-clause-called : goal.returns-else-has_moved-clause-called
returns-else-has_moved-clause-called g c =
    let d : DomainValue = domain_of c.self.inside.machine c.self.inside.journal in
    let call : Call = record { by = Farm; event = Move c.args.port } in
    let reply : Reply = reply_of.Moved c.answer-moved.result in
    let there : is_there d.machine.part call ≡ true =
    move_there d.machine.part c.args.port
    (subst (λ (o : DomainValue). c.args.port < o.machine.part.count) (sym c.self.view_is) c.requires) in
    let below : length (expanded d.journal) ≢ d.machine.part.limit =
    subst (λ (o : DomainValue). length (expanded o.journal) ≢ o.machine.part.limit) (sym c.self.view_is)
    (λ full. false≢true (sym c.if-is_full.false ∙ c.is_full.ensures.1 full)) in
    let answer = c.answer-moved.ensures ∙ c.route-route.ensures.answer in
    let no_move = ap (λ (m : Moved). has_moved m) (sym answer) ∙ sym c.has_moved.ensures ∙ c.if-has_moved.false in
    subst (λ (o : DomainValue).
    IsCalled call (Ok reply) o (domain_of c.route-route.new.self c.self.inside.journal))
    c.self.view_is
    (called_unrecorded d call c.route-route.new.self reply c.self.inside.journal.entries
    c.self.inside.journal.reserved there below
    (ap machine_of c.route-route.ensures.unchanged
    ∙ ap (λ (x : DeviceStates). with_devices x (machine_of d.machine))
    (sym (still d.machine.part (private_of d.machine.switch) d.machine.devices c.args.port no_move)))
    (ap reply_of.Moved answer) no_move refl
    (subst (λ (m : MachineValue). AllZip CountsChange d.machine.switch.words m.switch.words)
    (sym c.route-route.ensures.unchanged) (c.unchanged_words_count_nothing.ensures.unchanged d.machine.switch.words)))
