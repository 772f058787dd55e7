use Rattle.std.proofs.Common.{◌≡◌, ◌≢◌, ◌+◌, ap, sym, ◌∙◌, subst, [], ◌∷◌, ◌++◌, length, Ok, Err, true}
use Rattle.std.proofs.lemmas.List.{length-append}
use Rattle.plan_rules.specs.Part.{PartData}
use Rattle.domain_core.specs.declared.event.Event.{Event}
use Rattle.domain_core.specs.declared.event.Event.TheVariants.{Look}
use Rattle.domain_core.specs.declared.event.Refusal.TheVariants.{NoSuch, JournalFull, NoMemory}
use Rattle.domain_core.specs.declared.event.Reply.{Reply}
use Rattle.domain_core.specs.declared.event.Reply.TheVariants as reply
use Rattle.domain_core.specs.Domain.{DomainValue, domain_of, IsMeant, IsCalled}
use Rattle.domain_core.specs.Entries.{reply_of, journal_of}
use Rattle.domain_core.specs.Journal.{AnsweredCall, JournalValue, expanded}
use Rattle.domain_core.specs.PrivateFarm.{Call, is_there}
use Rattle.domain_core.proofs.Meant.{meant_recorded, meant_unrecorded, called_recorded, called_unrecorded}
use Rattle.domain_core.proofs.Meant.{called_no_such, called_full, called_no_memory}
use Rattle.domain_core.proofs.domain.Domain.answer.Goals as goal
use Rattle.domain_core.proofs.domain.Domain.answer.Goals.{then-recorded, else-recorded}

pub invariant_of-self-then-recorded : goal.invariant_of-self-then-recorded
invariant_of-self-then-recorded g c =
    let d : DomainValue = domain_of c.self.inside.machine c.self.inside.journal in
    let call : Call = record { by = c.args.by; event = c.args.event } in
    let one : AnsweredCall = record { call = call; reply = reply_of c.act-reply.result.reply } in
    let gains : expanded c.push_answer.new.self.entries ≡ expanded c.self.inside.journal.entries ++ one ∷ [] =
    c.push_answer.ensures.entries ∙ ap (λ (l : JournalValue). expanded l.entries ++ one ∷ [])
    (c.reserve.ensures.unchanged ∙ c.journal.view_is) in
    let counted : length (expanded c.push_answer.new.self.entries) ≡ length (expanded
    c.self.inside.journal.entries) + 1 =
    ap length gains ∙ length-append (expanded c.self.inside.journal.entries) (one ∷ []) in (
      meant_recorded d call c.act-reply.new.self (reply_of c.act-reply.result.reply) c.push_answer.new.self.entries
          c.push_answer.new.self.reserved c.self.invariant.0 (sym c.has_target.ensures.there ∙
          c.if-not-has_target.false)
          (λ full. c.if-self-limit.false
          (c.self.invariant.1 ∙ full ∙ ap (λ (p : PartData). p.limit) (sym c.part.ensures)
          ∙ sym c.limit.ensures.limit))
          c.act-reply.ensures.state c.act-reply.ensures.reply
          c.act-reply.ensures.part (sym c.act-reply.ensures.recorded ∙ c.if-recorded.true) gains,
      ap (λ n. n + 1) c.self.invariant.1 ∙ sym counted,
    )

pub invariant_of-self-else-recorded : goal.invariant_of-self-else-recorded
invariant_of-self-else-recorded g c =
    let d : DomainValue = domain_of c.self.inside.machine c.self.inside.journal in (
      meant_unrecorded c.quiet_step_changes_nothing.ensures.law d c.args.event c.act-reply.new.self
          c.reserve.new.self.entries c.reserve.new.self.reserved c.self.invariant.0 c.act-reply.ensures.state
          c.act-reply.ensures.part (sym c.act-reply.ensures.recorded ∙ c.if-recorded.false)
          (ap (λ (l : JournalValue). l.entries) (c.reserve.ensures.unchanged ∙ c.journal.view_is)),
      c.self.invariant.1
          ∙ sym (ap (λ (l : JournalValue). length (expanded l.entries)) (c.reserve.ensures.unchanged ∙
          c.journal.view_is)),
    )

-- ---- a refusal

pub returns-then-not-has_target-clause-called : goal.returns-then-not-has_target-clause-called
returns-then-not-has_target-clause-called g c =
    let d : DomainValue = domain_of c.self.inside.machine c.self.inside.journal in
    let call : Call = record { by = c.args.by; event = c.args.event } in
    subst (λ (o : DomainValue). IsCalled call (Err NoSuch) o o) c.self.view_is
    (called_no_such c.unchanged_words_count_nothing.ensures.unchanged d call
    (sym c.has_target.ensures.there ∙ c.if-not-has_target.true))

pub returns-then-self-limit-clause-called : goal.returns-then-self-limit-clause-called
returns-then-self-limit-clause-called g c =
    let d : DomainValue = domain_of c.self.inside.machine c.self.inside.journal in
    let call : Call = record { by = c.args.by; event = c.args.event } in
    subst (λ (o : DomainValue). IsCalled call (Err JournalFull) o o) c.self.view_is
    (called_full c.unchanged_words_count_nothing.ensures.unchanged d call
    (sym c.has_target.ensures.there ∙ c.if-not-has_target.false)
    (sym c.self.invariant.1 ∙ c.if-self-limit.true ∙ c.limit.ensures.limit
    ∙ ap (λ (p : PartData). p.limit) c.part.ensures))

pub invariant_of-self : goal.invariant_of-self
invariant_of-self g c =
    subst (λ (l : JournalValue).
    IsMeant (domain_of c.self.inside.machine l)
    × (c.self.inside.recorded ≡ length (expanded l.entries)))
    (sym (c.reserve.ensures.unchanged ∙ c.journal.view_is)) c.self.invariant

pub returns-then-is_err-clause-called : goal.returns-then-is_err-clause-called
returns-then-is_err-clause-called g c =
    let d : DomainValue = domain_of c.self.inside.machine c.self.inside.journal in
    let call : Call = record { by = c.args.by; event = c.args.event } in
    let same : domain_of c.self.inside.machine (journal_of c.reserve.new.self) ≡ c.args.self.now =
    ap (domain_of c.self.inside.machine)
    (c.reserve.ensures.unchanged ∙ c.journal.view_is)
    ∙ c.self.view_is in
    subst (λ (o : DomainValue). IsCalled call (Err NoMemory) c.args.self.now o) (sym same)
    (subst (λ (o : DomainValue). IsCalled call (Err NoMemory) o o) c.self.view_is
    (called_no_memory c.unchanged_words_count_nothing.ensures.unchanged d call
    (sym c.has_target.ensures.there ∙ c.if-not-has_target.false)
    (λ full. c.if-self-limit.false
    (c.self.invariant.1 ∙ full ∙ ap (λ (p : PartData). p.limit) (sym c.part.ensures)
    ∙ sym c.limit.ensures.limit))))

-- ---- a look

pub answer_look-requires-clause-there : goal.answer_look-requires-clause-there
answer_look-requires-clause-there g c =
    ap (λ (o : DomainValue). is_there o.machine.part (record { by = c.args.by; event = Look c.in-Look.node }))
    (sym c.self.view_is)
    ∙ ap (λ (e : Event). is_there c.self.inside.machine.part (record { by = c.args.by; event = e })) (sym c.in-Look.is)
    ∙ sym c.has_target.ensures.there ∙ c.if-not-has_target.false

pub answer_look-requires-clause-room : goal.answer_look-requires-clause-room
answer_look-requires-clause-room g c =
    subst (λ (o : DomainValue). length (expanded o.journal) ≢ o.machine.part.limit) c.self.view_is
    (λ full. c.if-self-limit.false
    (c.self.invariant.1 ∙ full ∙ ap (λ (p : PartData). p.limit) (sym c.part.ensures) ∙ sym c.limit.ensures.limit))

pub returns-in-Look-clause-called : goal.returns-in-Look-clause-called
returns-in-Look-clause-called g c =
    let shown : Reply = reply.Look c.in_ok-answer_look.field-0 in
    subst (λ (e : Event).
    IsCalled (record { by = c.args.by; event = e }) (Ok shown) c.args.self.now c.answer_look.new.self)
    (sym c.in-Look.is) c.in_ok-answer_look.ensures.called

-- ---- any other event

pub returns-clause-called : goal.returns-clause-called
returns-clause-called g c =
    let d : DomainValue = domain_of c.self.inside.machine c.self.inside.journal in
    let call : Call = record { by = c.args.by; event = c.args.event } in
    let law = c.unchanged_words_count_nothing.ensures.unchanged in
    let told : Reply = reply_of c.act-reply.result.reply in
    let there : is_there d.machine.part call ≡ true = sym c.has_target.ensures.there ∙ c.if-not-has_target.false in
    let below : length (expanded d.journal) ≢ d.machine.part.limit =
    (λ full. c.if-self-limit.false
    (c.self.invariant.1 ∙ full ∙ ap (λ (p : PartData). p.limit) (sym c.part.ensures) ∙ sym c.limit.ensures.limit)) in
    let one : AnsweredCall = record { call = call; reply = told } in
    let called : IsCalled call (Ok told) d c.if-recorded.self =
    elim c.if-recorded.branch [
      | then-recorded w ↦
          subst (λ (o : DomainValue). IsCalled call (Ok told) d o) (sym w.self-is)
          (called_recorded d call c.act-reply.new.self told w.push_answer.new.self.entries
          w.push_answer.new.self.reserved there below
          c.act-reply.ensures.state c.act-reply.ensures.reply
          (sym c.act-reply.ensures.recorded ∙ w.if-recorded.true)
          (w.push_answer.ensures.entries ∙ ap (λ (l : JournalValue). expanded l.entries ++ one ∷ [])
          (c.reserve.ensures.unchanged ∙ c.journal.view_is))
          c.act-reply.ensures.kept.counts)
      | else-recorded w ↦
          subst (λ (o : DomainValue). IsCalled call (Ok told) d o) (sym w.self-is)
          (called_unrecorded d call c.act-reply.new.self told c.reserve.new.self.entries c.reserve.new.self.reserved
          there below
          c.act-reply.ensures.state c.act-reply.ensures.reply
          (sym c.act-reply.ensures.recorded ∙ w.if-recorded.false)
          (ap (λ (l : JournalValue). l.entries) (c.reserve.ensures.unchanged ∙ c.journal.view_is))
          c.act-reply.ensures.kept.counts)
    ] in
    subst (λ (r : Reply). IsCalled call (Ok r) c.args.self.now c.if-recorded.self) (sym c.reply.ensures)
    (subst (λ (o : DomainValue). IsCalled call (Ok told) o c.if-recorded.self) c.self.view_is called)
