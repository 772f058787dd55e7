-- Steps of a ticket that are done in pieces, and a ticket without Steps: the contracts of `run_ticket` and `try_burst`.
use Rattle.std.specs.Prelude.{◌≡◌, ◌+◌, ◌<◌, ◌≤◌, ◌⊎◌, ℕ, zero, suc, true, Option, Some, None}
use Rattle.std.proofs.Common.{refl, ap, sym, subst, ◌∙◌, arith, inl, inr, IfSome}
use Rattle.std.proofs.lemmas.Option.{none-some}
use Rattle.t414_step.specs.declared.stepping.Stepped.{Stepped}
use Rattle.bootstrap.specs.declared.node.Node.{Node}
use Rattle.bootstrap.specs.Laws.{later_or, StepsAddUp, LastAnswersAddUp}
use Rattle.bootstrap.specs.Step.{is_quiet}
use Rattle.bootstrap.specs.Steps.{after_steps, last_answer, IsAfter}
use Rattle.domain_core.specs.Domain.{DomainValue}
use Rattle.domain_core.specs.Ticket.{TicketValue, Bursts, fresh_ticket, most_steps}
use Rattle.farm_core.specs.PlainFarm.{node_there}
use Rattle.farm_replay.specs.Answering.{IsAtRest}

-- exactly that many Steps more were done of a ticket
pub record HasDone (k : ℕ) (t u : TicketValue) : Type 0 where
  pub node : IsAfter t.node k u.node
  pub steps : u.steps ≡ t.steps + k
  pub last : u.last ≡ later_or (last_answer k t.node) t.last
  pub domain : u.domain ≡ t.domain
  pub number : u.number ≡ t.number
  pub start : u.start ≡ t.start

-- the latest of three answers, however they are put together
latest : (stepped other_stepped third_stepped : Option Stepped)
    → later_or stepped (later_or other_stepped third_stepped) ≡ later_or (later_or stepped other_stepped) third_stepped
latest None other_stepped third_stepped = refl
latest (Some answer) other_stepped third_stepped = refl

-- after 0 Steps a node is as it was
no_steps : (n : Node) → IsAfter n 0 n
unfolding after_steps
no_steps n = record { node = refl; recorded = λ i lt. absurd (omega (arith, lt)) }

-- 0 Steps have no last answer
no_answer : (n : Node) → last_answer 0 n ≡ None
unfolding last_answer
no_answer n = refl

-- a node is as it was if it comes after 0 Steps
unstepped : (n node : Node) (k : ℕ) → k ≡ 0 → IsAfter n k node → n ≡ node
unfolding after_steps
unstepped n other_node zero none after = after.node
unstepped n node (suc k) none after = absurd (omega (arith, none))

-- none of a ticket's Steps was done yet
pub none_done : (k : ℕ) (t : TicketValue) → k ≡ 0 → HasDone k t t
none_done k t none = subst (λ (n : ℕ). HasDone n t t) (sym none) (record {
  node = no_steps t.node;
  steps = omega arith;
  last = ap (λ (o : Option Stepped). later_or o t.last) (sym (no_answer t.node));
  domain = refl;
  number = refl;
  start = refl;
})

-- some Steps of a ticket were done, and then those of a burst
pub more_done : StepsAddUp → LastAnswersAddUp
    → (a b k : ℕ) (t u ticket : TicketValue) → HasDone a t u → (more : Bursts b u ticket) → k ≡ a + more.more
    → HasDone k t ticket
more_done add answers a b k t u ticket some more is = subst (λ (n : ℕ). HasDone n t ticket) (sym is) (record {
  node = add t.node u.node ticket.node a more.more some.node more.node;
  steps = omega (arith, some.steps, more.steps);
  last =
      more.last
      ∙ (ap (λ (o : Option Stepped). later_or (last_answer more.more u.node) o) some.last
      ∙ (latest (last_answer more.more u.node) (last_answer a t.node) t.last
      ∙ ap (λ (o : Option Stepped). later_or o t.last) (sym (answers t.node u.node a more.more some.node))));
  domain = more.domain ∙ some.domain;
  number = more.number ∙ some.number;
  start = more.start ∙ some.start;
})

-- the burst that did exactly these Steps, if they are all that it may do, or if nothing is left to be done
pub as_burst : (k n : ℕ) (t u : TicketValue) → HasDone k t u → k ≤ n
    → (k < n → (is_quiet u.node ≡ true) ⊎ (u.steps ≡ most_steps)) → Bursts n t u
as_burst k n t u done within ends = record {
  more = k;
  node = done.node;
  steps = done.steps;
  last = done.last;
  at_most = within;
  ends = ends;
  domain = done.domain;
  number = done.number;
  start = done.start;
}

-- if there is no later answer and no earlier one, there is no later one
no_later : (stepped other_stepped : Option Stepped) → later_or stepped other_stepped ≡ None → stepped ≡ None
no_later None other_stepped none = refl
no_later (Some answer) other_stepped none = absurd (none-some answer (sym none))

-- Steps without a last answer are none
unanswered : (k : ℕ) (n : Node) → last_answer k n ≡ None → k ≡ 0
unfolding last_answer
unanswered zero n none = refl
unanswered (suc k) n none = absurd (none-some _ (sym none))

-- a ticket without a last answer has no Steps, if it had none before the burst
pub without_last : (n : ℕ) (t u : TicketValue) → Bursts n t u → t.steps ≡ 0 → u.last ≡ None → u.steps ≡ 0
without_last n t u did fresh none =
    let more : did.more ≡ 0 =
    unanswered did.more t.node (no_later (last_answer did.more t.node) t.last (sym did.last ∙ none)) in
    omega (arith, did.steps, fresh, more)

-- if some Steps were asked of a fresh ticket, and none was done, its node has none that would be recorded
pub rests : (n domain node : ℕ) (found : Option DomainValue) (t u : TicketValue)
    → node_there found node ≡ Some t.start → t ≡ fresh_ticket domain node t.start → Bursts n t u → u.steps ≡ 0 → 0 < n
    → IsAtRest found node
rests n domain node found t u there fresh did none some =
    let begun : t.steps ≡ 0 = ap (λ (it : TicketValue). it.steps) fresh in
    let more : did.more ≡ 0 = omega (arith, did.steps, begun, none) in
    let same : t.start ≡ u.node =
    sym (ap (λ (it : TicketValue). it.node) fresh) ∙ unstepped t.node u.node did.more more did.node in
    let quiet : is_quiet t.start ≡ true =
    elim (did.ends (omega (arith, some, more))) [
      | inl quiet ↦ ap is_quiet same ∙ quiet
      | inr full ↦ absurd (omega (arith, none, full))
    ] in
    subst (λ (it : Option Node). IfSome it (λ n. is_quiet n ≡ true)) (sym there) quiet
