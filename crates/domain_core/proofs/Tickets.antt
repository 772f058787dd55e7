-- A ticket that goes on, for `Ticket::burst`, `renew` and `commit_to`.
use Rattle.std.proofs.Common.{◌≡◌, ℕ, zero, ◌+◌, ◌-◌, ◌<◌, ◌≤◌, true, min, Option, None, ◌⊎◌, inl, inr, refl, sym, ap}
use Rattle.std.proofs.Common.{◌∙◌, arith}
use Rattle.std.proofs.lemmas.Bool.{cases_lt}
use Rattle.t414_step.specs.declared.stepping.Stepped.{Stepped}
use Rattle.bootstrap.specs.declared.burst.Burst.{Burst}
use Rattle.bootstrap.specs.declared.node.Node.{Node}
use Rattle.bootstrap.specs.Laws.{later_or, StepsAddUp, LastAnswersAddUp}
use Rattle.bootstrap.specs.Step.{is_quiet}
use Rattle.bootstrap.specs.Steps.{after_steps, last_answer, IsBurst}
use Rattle.domain_core.specs.Ticket.{TicketValue, IsTicket, Bursts, most_steps}

-- after 0 Steps a node is as it was
pub no_steps : (n : Node) → after_steps zero n ≡ n
unfolding after_steps
no_steps n = refl

-- 0 Steps have no last answer
pub no_answer : (n : Node) → last_answer zero n ≡ None
unfolding last_answer
no_answer n = refl

-- a ticket whose copy is the home node is one with no Step done
pub fresh_is_ticket : (domain number : ℕ) (home start node : Node) → start ≡ home → node ≡ home
    → IsTicket (record { domain = domain; number = number; start = start; node = node; steps = 0; last = None })
fresh_is_ticket domain number home start node one two = record {
  node = record { node = no_steps start ∙ one ∙ sym two; recorded = λ i lt. absurd (omega arith) };
  last = sym (no_answer start);
  most = omega arith;
}

-- a ticket with this copy after that many Steps more, and this is the last answer
abbrev pub gone_on : TicketValue → Node → ℕ → Option Stepped → TicketValue
gone_on t node more last =
    record { domain = t.domain; number = t.number; start = t.start; node = node; steps = t.steps + more; last = last }

later : (t : TicketValue) (node : Node) (burst : Burst) (most : ℕ) (last : Option Stepped)
    → IsBurst most t.node burst node → last ≡ later_or burst.last t.last
    → last ≡ later_or (last_answer burst.steps t.node) t.last
later t node burst most last did is = is ∙ ap (λ (o : Option Stepped). later_or o t.last) did.last

room_of : (n most before top : ℕ) → most ≡ min n (top - before) → before ≤ top → before + most ≤ top
room_of n most before top is few = omega (arith, is, few)

fewer_than : (steps most before top : ℕ) → steps ≤ most → before + most ≤ top → before + steps ≤ top
fewer_than steps most before top few room = omega (arith, few, room)

-- a ticket is still one after a burst
pub ticket_goes_on : StepsAddUp → LastAnswersAddUp
    → (t : TicketValue) (node : Node) (burst : Burst) (n most : ℕ) (last : Option Stepped)
    → IsTicket t → IsBurst most t.node burst node → most ≡ min n (most_steps - t.steps)
    → last ≡ later_or burst.last t.last
    → IsTicket (gone_on t node burst.steps last)
ticket_goes_on add answers t node burst n most last before did room is = record {
  node = add t.start t.node node t.steps burst.steps before.node did.steps;
  last =
      later t node burst most last did is
      ∙ ap (λ (o : Option Stepped). later_or (last_answer burst.steps t.node) o) before.last
      ∙ sym (answers t.start t.node t.steps burst.steps before.node);
  most = fewer_than burst.steps most t.steps most_steps did.most (room_of n most t.steps most_steps room before.most);
}

ends : (n most steps before top : ℕ) (quiet : Type 0)
    → (steps < most → quiet) → most ≡ min n (top - before) → before ≤ top → steps ≤ most → steps < n
    → quiet ⊎ (before + steps ≡ top)
ends n most steps before top quiet ended is few at_most below =
    elim (cases_lt steps most) [
      | inl less ↦ inl (ended less)
      | inr all ↦ inr (omega (arith, is, few, at_most, below, all))
    ]

under : (n most steps before top : ℕ) → most ≡ min n (top - before) → steps ≤ most → steps ≤ n
under n most steps before top is few = omega (arith, is, few)

-- a burst does exactly the Steps up to the nth, to the first that wouldn't be recorded, or to the most of a ticket
pub ticket_bursts : (t : TicketValue) (node : Node) (burst : Burst) (n most : ℕ) (last : Option Stepped)
    → IsTicket t → IsBurst most t.node burst node → most ≡ min n (most_steps - t.steps)
    → last ≡ later_or burst.last t.last
    → Bursts n t (gone_on t node burst.steps last)
ticket_bursts t node burst n most last before did is was = record {
  more = burst.steps;
  node = did.steps;
  steps = refl;
  last = later t node burst most last did was;
  at_most = under n most burst.steps t.steps most_steps is did.most;
  ends = ends n most burst.steps t.steps most_steps (is_quiet node ≡ true) did.ends is before.most did.most;
  domain = refl;
  number = refl;
  start = refl;
}
