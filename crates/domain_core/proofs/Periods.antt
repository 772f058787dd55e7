-- Bursts after bursts, and whole periods that are counted, for `Ticket::burst_to_start`, `skip_periods` and
-- `burst_by_periods`.
use Rattle.std.proofs.Common.{◌≡◌, ℕ, zero, suc, ◌+◌, ◌-◌, ◌*◌, ◌/◌, ◌<◌, ◌≤◌, true, false, not, min, ◌⊎◌, inl, inr}
use Rattle.std.proofs.Common.{Option, Some, None, refl, sym, ap, subst, ◌∙◌, arith}
use Rattle.std.proofs.Math.Nat.{zero-mul, suc-mul, div-mul-le_self}
use Rattle.std.proofs.lemmas.Bool.{cases_lt}
use Rattle.t414_step.specs.declared.stepping.Stepped.{Stepped}
use Rattle.bootstrap.specs.declared.node.Node.{Node}
use Rattle.bootstrap.specs.Laws.{later_or, StepsAddUp, LastAnswersAddUp}
use Rattle.bootstrap.specs.Step.{is_quiet, is_step_recorded}
use Rattle.bootstrap.specs.Steps.{after_steps, last_answer, IsAfter}
use Rattle.domain_core.specs.Ticket.{TicketValue, IsTicket, Bursts, most_steps}
use Rattle.domain_core.proofs.Tickets.{no_steps, no_answer}

-- a node is itself after no Steps
itself_after : (x : Node) → IsAfter x 0 x
itself_after x = record { node = no_steps x; recorded = λ i lt. absurd (omega arith) }

-- a burst of no Steps changes no ticket
pub none_done : (t : TicketValue) → Bursts 0 t t
none_done t = record {
  more = 0;
  node = itself_after t.node;
  steps = omega arith;
  last = sym (ap (λ (o : Option Stepped). later_or o t.last) (no_answer t.node));
  at_most = omega arith;
  ends = λ lt. absurd (omega arith);
  domain = refl;
  number = refl;
  start = refl;
}

-- a quiet node does no recorded Step
quiet_does_none : (x y : Node) (k : ℕ) → is_quiet x ≡ true → IsAfter x k y → k ≡ 0
quiet_does_none x y zero quiet after = refl
quiet_does_none x y (suc k) quiet after =
    let recorded : is_step_recorded x ≡ true =
    ap is_step_recorded (sym (no_steps x)) ∙ after.recorded 0 (omega arith) in
    let both : false ≡ true = ap not (sym recorded) ∙ quiet in
    absurd cc

-- so it is the same afterwards
quiet_stays : (x y : Node) (k : ℕ) → is_quiet x ≡ true → IsAfter x k y → is_quiet y ≡ true
quiet_stays x y k quiet after =
    let none : k ≡ 0 = quiet_does_none x y k quiet after in
    let same : x ≡ y =
    sym (no_steps x) ∙ (ap (λ (i : ℕ). after_steps i x) (sym none) ∙ after.node) in
    sym (ap is_quiet same) ∙ quiet

fewer_before : (one two j k : ℕ) → one + two < j + k → k ≤ two → one < j
fewer_before one two j k fewer all = omega (arith, fewer, all)

still_full : (before after more top : ℕ) → after ≡ before + more → before ≡ top → after ≤ top → after ≡ top
still_full before after more top is full most = omega (arith, is, full, most)

ends_both : (j k : ℕ) (t u ended : TicketValue) (one : Bursts j t u) (two : Bursts k u ended) → IsTicket ended
    → one.more + two.more < j + k → (is_quiet ended.node ≡ true) ⊎ (ended.steps ≡ most_steps)
ends_both j k t u ended one two ticket fewer =
    elim (cases_lt two.more k) [
      | inl less ↦ two.ends less
      | inr all ↦ elim (one.ends (fewer_before one.more two.more j k fewer all)) [
        | inl quiet ↦ inl (quiet_stays u.node ended.node two.more quiet two.node)
        | inr full ↦ inr (still_full u.steps ended.steps two.more most_steps two.steps full ticket.most)
      ]
    ]

later_or_later : (answer before first : Option Stepped)
    → later_or answer (later_or before first) ≡ later_or (later_or answer before) first
later_or_later None before first = refl
later_or_later (Some it) before first = refl

all_steps : (before between after one two : ℕ) → between ≡ before + one → after ≡ between + two
    → after ≡ before + (one + two)
all_steps before between after one two first second = omega (arith, first, second)

both_most : (one two j k : ℕ) → one ≤ j → two ≤ k → one + two ≤ j + k
both_most one two j k first second = omega (arith, first, second)

-- a burst and then another are a burst of both
pub bursts_add : StepsAddUp → LastAnswersAddUp
    → (j k : ℕ) (t u ended : TicketValue) → Bursts j t u → Bursts k u ended → IsTicket ended → Bursts (j + k) t ended
bursts_add add answers j k t u ended one two ticket = record {
  more = one.more + two.more;
  node = add t.node u.node ended.node one.more two.more one.node two.node;
  steps = all_steps t.steps u.steps ended.steps one.more two.more one.steps two.steps;
  last =
      two.last ∙ (ap (λ (o : Option Stepped). later_or (last_answer two.more u.node) o) one.last
      ∙ (later_or_later (last_answer two.more u.node) (last_answer one.more t.node) t.last
      ∙ sym (ap (λ (o : Option Stepped). later_or o t.last) (answers t.node u.node one.more two.more one.node))));
  at_most = both_most one.more two.more j k one.at_most two.at_most;
  ends = ends_both j k t u ended one two ticket;
  domain = two.domain ∙ one.domain;
  number = two.number ∙ one.number;
  start = two.start ∙ one.start;
}

-- a node that comes to be itself again is itself after each number of periods
periods_after : StepsAddUp → (q p : ℕ) (x : Node) → IsAfter x p x → IsAfter x (q * p) x
periods_after add zero p x once = subst (λ (i : ℕ). IsAfter x i x) (sym (zero-mul p)) (itself_after x)
periods_after add (suc q) p x once =
    subst (λ (i : ℕ). IsAfter x i x) (sym (suc-mul q p)) (add x x x (q * p) p (periods_after add q p x once) once)

later_twice : (answer before : Option Stepped) → later_or before answer ≡ answer
    → later_or (later_or answer before) answer ≡ answer
later_twice None before same = same
later_twice (Some it) before same = refl

-- the last answer of several periods is that of one
periods_last : StepsAddUp → LastAnswersAddUp
    → (q p : ℕ) (x : Node) → IsAfter x p x
    → later_or (last_answer (q * p) x) (last_answer p x) ≡ last_answer p x
periods_last add answers zero p x once =
    ap (λ (i : ℕ). later_or (last_answer i x) (last_answer p x)) (zero-mul p)
    ∙ ap (λ (o : Option Stepped). later_or o (last_answer p x)) (no_answer x)
periods_last add answers (suc q) p x once =
    ap (λ (i : ℕ). later_or (last_answer i x) (last_answer p x)) (suc-mul q p)
    ∙ (ap (λ (o : Option Stepped). later_or o (last_answer p x))
    (answers x x (q * p) p (periods_after add q p x once))
    ∙ later_twice (last_answer p x) (last_answer (q * p) x) (periods_last add answers q p x once))

-- a ticket that counts that many Steps more, with the same copy
abbrev pub counted : TicketValue → ℕ → TicketValue
counted t more =
    record {
      domain = t.domain;
      number = t.number;
      start = t.start;
      node = t.node;
      steps = t.steps + more;
      last = t.last;
    }

once_again : (t : TicketValue) → IsTicket t → t.node ≡ t.start → IsAfter t.start t.steps t.start
once_again t ticket same = subst (λ (n : Node). IsAfter t.start t.steps n) same ticket.node

-- a ticket whose copy is its start again is still one when it counts whole periods
pub counted_is_ticket : StepsAddUp → LastAnswersAddUp
    → (t : TicketValue) (q : ℕ) → IsTicket t → t.node ≡ t.start → t.steps + q * t.steps ≤ most_steps
    → IsTicket (counted t (q * t.steps))
counted_is_ticket add answers t q ticket same few =
    let once : IsAfter t.start t.steps t.start = once_again t ticket same in
    record {
      node =
          add t.start t.start t.node t.steps (q * t.steps) once
          (subst (λ (n : Node). IsAfter t.start (q * t.steps) n) (sym same)
          (periods_after add q t.steps t.start once));
      last =
          ticket.last ∙ sym (answers t.start t.start t.steps (q * t.steps) once
          ∙ periods_last add answers q t.steps t.start once);
      most = few;
    }

-- and has done a burst of them
pub counted_bursts : StepsAddUp → LastAnswersAddUp
    → (t : TicketValue) (q : ℕ) → IsTicket t → t.node ≡ t.start
    → Bursts (q * t.steps) t (counted t (q * t.steps))
counted_bursts add answers t q ticket same =
    let once : IsAfter t.start t.steps t.start = once_again t ticket same in
    record {
      more = q * t.steps;
      node =
          subst (λ (n : Node). IsAfter n (q * t.steps) n) (sym same) (periods_after add q t.steps t.start once);
      steps = refl;
      last =
          sym (ap (λ (n : Node). later_or (last_answer (q * t.steps) n) t.last) same
          ∙ (ap (λ (o : Option Stepped). later_or (last_answer (q * t.steps) t.start) o) ticket.last
          ∙ (periods_last add answers q t.steps t.start once ∙ sym ticket.last)));
      at_most = omega arith;
      ends = λ lt. absurd (omega (arith, lt));
      domain = refl;
      number = refl;
      start = refl;
    }

fits_below : (more most room steps top : ℕ) → more ≤ room → room ≡ min most (top - steps) → steps ≤ top
    → steps + more ≤ top
fits_below more most room steps top fits is few = omega (arith, fits, is, few)

-- as many whole periods as fit pass no bound
pub periods_fit : (most room steps top : ℕ) → room ≡ min most (top - steps) → steps ≤ top
    → steps + room / steps * steps ≤ top
periods_fit most room steps top is few =
    fits_below (room / steps * steps) most room steps top (div-mul-le_self room steps) is few

-- what was tried and skipped, and the rest, are all
pub rest_of : (n tried skipped : ℕ) → tried ≤ n → skipped ≤ n - tried → tried + skipped + (n - tried - skipped) ≡ n
rest_of n tried skipped first second = omega (arith, first, second)
