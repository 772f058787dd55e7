use Rattle.std.proofs.Common.{arith, refl, Result, Ok, Err, ◌≢◌, ◌≡◌, ◌++◌, ◌+◌, ◌-◌, ◌^◌, ◌<◌, ◌≤◌, length}
use Rattle.std.proofs.Common.{ap, sym, ◌∙◌, subst, ℕ, List, Option, Some}
use Rattle.std.proofs.lemmas.Bool.{false≢true}
use Rattle.std.proofs.lemmas.List.{length-append}
use Rattle.std.proofs.lemmas.Option.{slice_get-get_or, slice_get_within}
use Rattle.std.specs.Prelude.{slice_get}
use Rattle.bootstrap.specs.declared.node.Node.{Node}
use Rattle.bootstrap.specs.Opening.{opened_node}
use Rattle.plan_rules.specs.Part.{PartData}
use Rattle.domain_core.specs.declared.domain.Committed.{Committed}
use Rattle.domain_core.specs.declared.domain.Committed.TheVariants.{Done, Stale}
use Rattle.domain_core.specs.declared.event.Refusal.{Refusal}
use Rattle.domain_core.specs.declared.event.Refusal.TheVariants.{JournalFull, NoMemory}
use Rattle.domain_core.specs.Domain.{DomainValue, domain_of, IsMeant, IsPastLimit}
use Rattle.domain_core.specs.Entries.{journal_of}
use Rattle.domain_core.specs.Journal.{JournalValue, expanded}
use Rattle.domain_core.specs.MachineValue.{MachineValue}
use Rattle.domain_core.specs.Ticket.{IsCurrent, Commits, steps_told}
use Rattle.domain_core.proofs.Commits.{meant_committed, length_told}
use Rattle.domain_core.proofs.Meant.{step_there}
use Rattle.domain_core.proofs.domain.Domain.commit_in_place.Goals as goal

-- what becomes of a ticket, or why it is refused
abbrev CommitOutcome : Type 0
CommitOutcome = Result Committed Refusal

-- a refusal isn't what a committed or a stale ticket is answered
refused : (told : CommitOutcome) (refusal : Refusal) (committed : Committed) → told ≡ Err refusal → told ≢ Ok committed
refused told refusal committed is other = absurd cc

-- a committed ticket isn't stale
was_done : (told : CommitOutcome) → told ≡ Ok Done → told ≢ Ok Stale
was_done told is other = absurd cc

-- that many more events pass the limit, if more than it has left were asked for
past_limit : (recorded limit steps long same count : ℕ) → limit - recorded < steps → recorded ≡ long → limit ≡ same
    → steps ≡ count
    → same < long + count
past_limit recorded limit steps long same count more is limits counts = omega (arith, more, is, limits, counts)

-- and else they don't
in_limit : (recorded limit steps long same count : ℕ) → steps ≤ limit - recorded → recorded ≡ long → limit ≡ same
    → steps ≡ count → long ≤ same
    → long + count ≤ same
in_limit recorded limit steps long same count few is limits counts below =
    omega (arith, few, is, limits, counts, below)

-- what fits isn't past the limit
not_past : (a b : ℕ) → b ≤ a → ¬ (a < b)
not_past a b most less = absurd (omega (arith, most, less))

-- a journal below the limit is short enough for the entries
short_enough : (now before steps count limit : ℕ) → now ≡ before → steps ≡ count → before + count ≤ limit
    → limit ≤ 2 ^ 40
    → now + steps ≤ 2 ^ 40
short_enough now before steps count limit same counts below few = omega (arith, same, counts, below, few)

-- what is recorded is at most the limit
left_over : (recorded long limit same : ℕ) → recorded ≡ long → long ≤ same → limit ≡ same → recorded ≤ limit
left_over recorded long limit same is below limits = omega (arith, is, below, limits)

-- what is found at a place is one node
same_node : (found : Option Node) (n node : Node) → found ≡ Some n → found ≡ Some node → n ≡ node
same_node found n node one other = cc

pub overflow_sub-limit : goal.overflow_sub-limit
overflow_sub-limit g c =
    left_over _ _ _ _ c.self.invariant.1 c.self.invariant.0.within_limit
    (c.limit.ensures.limit ∙ ap (λ (p : PartData). p.limit) c.part.ensures)

-- ---- the ticket is stale

pub returns-then-not-is_current-clause-stale : goal.returns-then-not-is_current-clause-stale
returns-then-not-is_current-clause-stale g c = (
  λ _ current. false≢true (sym c.if-not-is_current.true ∙ c.is_current.ensures.home.1
      (subst (λ (o : DomainValue). IsCurrent o c.args.ticket.now) (sym c.self.view_is) current)),
  λ _. refl,
)

pub returns-then-not-is_current-clause-full : goal.returns-then-not-is_current-clause-full
returns-then-not-is_current-clause-full g c = (
  λ is. absurd (refused _ JournalFull Stale is refl),
  λ both. absurd (false≢true (sym c.if-not-is_current.true ∙ c.is_current.ensures.home.1
      (subst (λ (o : DomainValue). IsCurrent o c.args.ticket.now) (sym c.self.view_is) both.0))),
)

-- ---- its Steps pass the limit

pub returns-then-limit-self-clause-stale : goal.returns-then-limit-self-clause-stale
returns-then-limit-self-clause-stale g c =
    let current : IsCurrent c.args.self.now c.args.ticket.now =
    subst (λ (o : DomainValue). IsCurrent o c.args.ticket.now) c.self.view_is
    (c.is_current.ensures.home.0 c.if-not-is_current.false) in
    (λ is. absurd (refused _ JournalFull Stale refl is), λ other. absurd (other current))

pub returns-then-limit-self-clause-full : goal.returns-then-limit-self-clause-full
returns-then-limit-self-clause-full g c =
    let current : IsCurrent c.args.self.now c.args.ticket.now =
    subst (λ (o : DomainValue). IsCurrent o c.args.ticket.now) c.self.view_is
    (c.is_current.ensures.home.0 c.if-not-is_current.false) in
    let past : IsPastLimit (domain_of c.self.inside.machine c.self.inside.journal)
    c.args.ticket.now.steps =
    past_limit _ _ _ _ _ _ c.if-limit-self.true c.self.invariant.1
    (c.limit.ensures.limit ∙ ap (λ (p : PartData). p.limit) c.part.ensures) c.steps.ensures in (
      λ _. (current, subst (λ (o : DomainValue). IsPastLimit o c.args.ticket.now.steps) c.self.view_is past),
      λ _. refl,
    )

-- ---- the journal can't grow

pub invariant_of-self : goal.invariant_of-self
invariant_of-self g c =
    subst (λ (l : JournalValue).
    IsMeant (domain_of c.self.inside.machine l)
    × (c.self.inside.recorded ≡ length (expanded l.entries)))
    (sym (c.reserve.ensures.unchanged ∙ c.journal.view_is)) c.self.invariant

pub returns-then-is_err-clause-stale : goal.returns-then-is_err-clause-stale
returns-then-is_err-clause-stale g c =
    let current : IsCurrent c.args.self.now c.args.ticket.now =
    subst (λ (o : DomainValue). IsCurrent o c.args.ticket.now) c.self.view_is
    (c.is_current.ensures.home.0 c.if-not-is_current.false) in
    (λ is. absurd (refused _ NoMemory Stale refl is), λ other. absurd (other current))

pub returns-then-is_err-clause-full : goal.returns-then-is_err-clause-full
returns-then-is_err-clause-full g c = (
  λ is. absurd cc,
  λ both.
      let past : IsPastLimit (domain_of c.self.inside.machine c.self.inside.journal)
      c.args.ticket.now.steps =
      subst (λ (o : DomainValue). IsPastLimit o c.args.ticket.now.steps) (sym c.self.view_is) both.1 in
      absurd (not_past _ _ (in_limit _ _ _ _ _ _ c.if-limit-self.false c.self.invariant.1
      (c.limit.ensures.limit ∙ ap (λ (p : PartData). p.limit) c.part.ensures) c.steps.ensures
      c.self.invariant.0.within_limit) past),
)

pub returns-then-is_err-clause-unchanged : goal.returns-then-is_err-clause-unchanged
returns-then-is_err-clause-unchanged g c = λ _. (
  ap (domain_of c.self.inside.machine)
      (c.reserve.ensures.unchanged ∙ c.journal.view_is) ∙ c.self.view_is,
  refl,
)

-- ---- the ticket is committed

pub commit_node-requires-clause-there : goal.commit_node-requires-clause-there
commit_node-requires-clause-there g c =
    slice_get_within c.self.inside.machine.devices.nodes c.args.ticket.now.number c.args.ticket.now.start
    (c.is_current.ensures.home.0 c.if-not-is_current.false)

pub commit_node-requires-clause-start : goal.commit_node-requires-clause-start
commit_node-requires-clause-start g c =
    let nodes : List Node = c.self.inside.machine.devices.nodes in
    let at : slice_get nodes c.args.ticket.now.number ≡ Some c.args.ticket.now.start =
    c.is_current.ensures.home.0 c.if-not-is_current.false in
    same_node _ _ _
    (slice_get-get_or nodes c.args.ticket.now.number (opened_node 0)
    (slice_get_within nodes c.args.ticket.now.number c.args.ticket.now.start at))
    at

pub commit_node-requires-clause-size : goal.commit_node-requires-clause-size
commit_node-requires-clause-size g c =
    ap (λ (n : Node). length n.memory) (sym c.stepped_law.ensures.node.node)
    ∙ c.steps_keep_the_size.ensures.several c.args.ticket.now.steps c.args.ticket.now.start

pub push_ticket-requires-clause-few : goal.push_ticket-requires-clause-few
push_ticket-requires-clause-few g c =
    short_enough _ _ _ _ _
    (ap (λ (l : JournalValue). length (expanded l.entries)) (c.reserve.ensures.unchanged ∙ c.journal.view_is))
    c.steps-steps.ensures
    (in_limit _ _ _ _ _ _ c.if-limit-self.false c.self.invariant.1
    (c.limit.ensures.limit ∙ ap (λ (p : PartData). p.limit) c.part.ensures) c.steps.ensures
    c.self.invariant.0.within_limit) c.self.invariant.0.limit

pub invariant_of-self-2 : goal.invariant_of-self-2
invariant_of-self-2 g c =
    let d : DomainValue = domain_of c.self.inside.machine c.self.inside.journal in
    let same : c.reserve.new.self.entries ≡ c.self.inside.journal.entries =
    ap (λ (l : JournalValue). l.entries) (c.reserve.ensures.unchanged ∙ c.journal.view_is) in
    let gains : expanded c.push_ticket.new.self.entries
    ≡ expanded c.self.inside.journal.entries
    ++ steps_told c.args.ticket.now.number c.args.ticket.now.steps c.args.ticket.now.last =
    c.push_ticket.ensures.entries
    ∙ (λ i. expanded (same i)
    ++ steps_told (c.number-number.ensures i) (c.steps-steps.ensures i) (c.last-last.ensures i)) in
    let long : length (expanded c.push_ticket.new.self.entries)
    ≡ length (expanded c.self.inside.journal.entries) + c.args.ticket.now.steps =
    ap length gains
    ∙ length-append (expanded c.self.inside.journal.entries)
    (steps_told c.args.ticket.now.number c.args.ticket.now.steps c.args.ticket.now.last)
    ∙ ap (λ (n : ℕ). length (expanded c.self.inside.journal.entries) + n)
    (length_told c.args.ticket.now c.stepped_law.ensures) in (
      meant_committed c.recorded_step_ran.ensures.ran d c.args.ticket.now c.commit_node.new.self
          c.push_ticket.new.self.entries c.push_ticket.new.self.reserved c.self.invariant.0 c.stepped_law.ensures
          (step_there d.machine.part c.args.ticket.now.number (c.is_current.ensures.there c.if-not-is_current.false))
          (c.is_current.ensures.home.0 c.if-not-is_current.false)
          (in_limit _ _ _ _ _ _ c.if-limit-self.false c.self.invariant.1
          (c.limit.ensures.limit ∙ ap (λ (p : PartData). p.limit) c.part.ensures) c.steps.ensures
          c.self.invariant.0.within_limit)
          c.commit_node.ensures.home gains,
      ap (λ (n : ℕ). c.self.inside.recorded + n) c.steps-steps.ensures
          ∙ ap (λ (n : ℕ). n + c.args.ticket.now.steps) c.self.invariant.1 ∙ sym long,
    )

pub returns-clause-stale : goal.returns-clause-stale
returns-clause-stale g c =
    let current : IsCurrent c.args.self.now c.args.ticket.now =
    subst (λ (o : DomainValue). IsCurrent o c.args.ticket.now) c.self.view_is
    (c.is_current.ensures.home.0 c.if-not-is_current.false) in
    (λ is. absurd (was_done _ refl is), λ other. absurd (other current))

pub returns-clause-full : goal.returns-clause-full
returns-clause-full g c = (
  λ is. absurd (refused _ JournalFull Done is refl),
  λ both.
      let past : IsPastLimit (domain_of c.self.inside.machine c.self.inside.journal)
      c.args.ticket.now.steps =
      subst (λ (o : DomainValue). IsPastLimit o c.args.ticket.now.steps) (sym c.self.view_is) both.1 in
      absurd (not_past _ _ (in_limit _ _ _ _ _ _ c.if-limit-self.false c.self.invariant.1
      (c.limit.ensures.limit ∙ ap (λ (p : PartData). p.limit) c.part.ensures) c.steps.ensures
      c.self.invariant.0.within_limit) past),
)

pub returns-clause-done : goal.returns-clause-done
returns-clause-done g c =
    let home = c.commit_node.ensures.home in
    let same : c.reserve.new.self.entries ≡ c.self.inside.journal.entries =
    ap (λ (l : JournalValue). l.entries) (c.reserve.ensures.unchanged ∙ c.journal.view_is) in
    let gains : expanded c.push_ticket.new.self.entries
    ≡ expanded c.self.inside.journal.entries
    ++ steps_told c.args.ticket.now.number c.args.ticket.now.steps c.args.ticket.now.last =
    c.push_ticket.ensures.entries
    ∙ (λ i. expanded (same i)
    ++ steps_told (c.number-number.ensures i) (c.steps-steps.ensures i) (c.last-last.ensures i)) in
    λ _. subst (λ (o : DomainValue).
    Commits o c.args.ticket.now (domain_of c.commit_node.new.self (journal_of c.push_ticket.new.self)))
    c.self.view_is
    (record {
      devices = ap (λ (m : MachineValue). m.devices) home;
      journal = gains;
      switch = ap (λ (m : MachineValue). m.switch) home;
      part = ap (λ (m : MachineValue). m.part) home;
      reserved =
          c.push_ticket.ensures.reserved
          ∙ ap (λ (l : JournalValue). l.reserved) (c.reserve.ensures.unchanged ∙ c.journal.view_is);
    })

pub returns-clause-spent : goal.returns-clause-spent
returns-clause-spent g c = λ _. c.commit_node.ensures.spent

pub returns-clause-unchanged : goal.returns-clause-unchanged
returns-clause-unchanged g c = λ other. absurd (other refl)
