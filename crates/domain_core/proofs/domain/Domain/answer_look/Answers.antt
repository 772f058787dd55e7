use Rattle.std.proofs.Common.{refl, subst, ◌≡◌, ◌≢◌, ap, sym, ◌∙◌, length, ◌++◌, ◌∷◌, [], ◌+◌, Ok, Err, true}
use Rattle.std.proofs.lemmas.List.{length-append}
use Rattle.domain_core.specs.declared.event.Event.TheVariants.{Look}
use Rattle.domain_core.specs.declared.event.Refusal.TheVariants.{NoMemory}
use Rattle.domain_core.specs.declared.event.Reply.{Reply}
use Rattle.domain_core.specs.declared.event.Reply.TheVariants as reply
use Rattle.domain_core.specs.Domain.{DomainValue, domain_of, IsMeant, IsCalled}
use Rattle.domain_core.specs.Entries.{journal_of}
use Rattle.domain_core.specs.Journal.{AnsweredCall, JournalValue, expanded}
use Rattle.domain_core.specs.PrivateFarm.{Call, is_there}
use Rattle.domain_core.proofs.Meant.{meant_recorded, called_recorded, called_no_memory}
use Rattle.domain_core.proofs.domain.Domain.answer_look.Goals as goal

-- ---- the journal can't grow

pub invariant_of-self : goal.invariant_of-self
invariant_of-self g c =
    subst (λ (l : JournalValue).
    IsMeant (domain_of c.self.inside.machine l)
    × (c.self.inside.recorded ≡ length (expanded l.entries)))
    (sym (c.reserve_look.ensures.unchanged ∙ c.journal.view_is)) c.self.invariant

pub returns-then-is_err-clause-refused : goal.returns-then-is_err-clause-refused
returns-then-is_err-clause-refused g c =
    let call : Call = record { by = c.args.by; event = Look c.args.node } in
    let same : domain_of c.self.inside.machine (journal_of c.reserve_look.new.self) ≡ c.args.self.now =
    ap (domain_of c.self.inside.machine)
    (c.reserve_look.ensures.unchanged ∙ c.journal.view_is)
    ∙ c.self.view_is in
    subst (λ (o : DomainValue). IsCalled call (Err NoMemory) c.args.self.now o) (sym same)
    (called_no_memory c.unchanged_words_count_nothing.ensures.unchanged c.args.self.now call c.requires.there
    c.requires.room)

-- ---- the look is recorded

pub invariant_of-self-2 : goal.invariant_of-self-2
invariant_of-self-2 g c =
    let d : DomainValue = domain_of c.self.inside.machine c.self.inside.journal in
    let call : Call = record { by = c.args.by; event = Look c.args.node } in
    let shown : Reply = reply.Look c.look-seen.result in
    let one : AnsweredCall = record { call = call; reply = shown } in
    let there : is_there d.machine.part call ≡ true =
    subst (λ (o : DomainValue). is_there o.machine.part call ≡ true) (sym c.self.view_is) c.requires.there in
    let below : length (expanded d.journal) ≢ d.machine.part.limit =
    subst (λ (o : DomainValue). length (expanded o.journal) ≢ o.machine.part.limit) (sym c.self.view_is)
    c.requires.room in
    let gains : expanded c.push_seen.new.self.entries ≡ expanded c.self.inside.journal.entries ++ one ∷ [] =
    c.push_seen.ensures.entries ∙ ap (λ (l : JournalValue). expanded l.entries ++ one ∷ [])
    (c.reserve_look.ensures.unchanged ∙ c.journal.view_is) in
    let counted : length (expanded c.push_seen.new.self.entries) ≡ length (expanded c.self.inside.journal.entries) + 1 =
    ap length gains ∙ length-append (expanded c.self.inside.journal.entries) (one ∷ []) in (
      meant_recorded d call c.self.inside.machine shown c.push_seen.new.self.entries c.push_seen.new.self.reserved
          c.self.invariant.0 there below refl
          (ap reply.Look c.look-seen.ensures) refl refl gains,
      ap (λ n. n + 1) c.self.invariant.1 ∙ sym counted,
    )

pub returns-clause-called : goal.returns-clause-called
returns-clause-called g c =
    let d : DomainValue = domain_of c.self.inside.machine c.self.inside.journal in
    let call : Call = record { by = c.args.by; event = Look c.args.node } in
    let shown : Reply = reply.Look c.look-seen.result in
    let one : AnsweredCall = record { call = call; reply = shown } in
    let there : is_there d.machine.part call ≡ true =
    subst (λ (o : DomainValue). is_there o.machine.part call ≡ true) (sym c.self.view_is) c.requires.there in
    let below : length (expanded d.journal) ≢ d.machine.part.limit =
    subst (λ (o : DomainValue). length (expanded o.journal) ≢ o.machine.part.limit) (sym c.self.view_is)
    c.requires.room in
    let gains : expanded c.push_seen.new.self.entries ≡ expanded c.self.inside.journal.entries ++ one ∷ [] =
    c.push_seen.ensures.entries ∙ ap (λ (l : JournalValue). expanded l.entries ++ one ∷ [])
    (c.reserve_look.ensures.unchanged ∙ c.journal.view_is) in
    subst (λ (o : DomainValue).
    IsCalled call (Ok shown) o (domain_of c.self.inside.machine (journal_of c.push_seen.new.self)))
    c.self.view_is
    (called_recorded d call c.self.inside.machine shown c.push_seen.new.self.entries c.push_seen.new.self.reserved
    there below refl
    (ap reply.Look c.look-seen.ensures) refl gains
    (c.unchanged_words_count_nothing.ensures.unchanged d.machine.switch.words))
