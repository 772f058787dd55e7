-- Steps that were done in one burst or in several, and all ran: the contracts of `redo_burst` and `redo_steps`.
use Rattle.std.specs.Prelude.{◌≡◌, ◌++◌, ◌+◌, ℕ, zero, suc, List, replicate, Some}
use Rattle.std.proofs.Common.{refl, ap, ◌∙◌, subst, arith}
use Rattle.std.proofs.lemmas.List.{replicate_more, replicate-append-replicate}
use Rattle.t414_step.specs.declared.stepping.Stepped.TheVariants.{Ran}
use Rattle.domain_core.specs.declared.event.By.TheVariants.{Farm}
use Rattle.domain_core.specs.Domain.{DomainValue}
use Rattle.domain_core.specs.Journal.{AnsweredCall, answered_step, expanded}
use Rattle.domain_core.specs.Ticket.{TicketValue, Commits, steps_told}
use Rattle.farm_records.specs.Records.{GainsHistory}
use Rattle.farm_records.proofs.Consuming.{gains_more}

-- one more
one_more : (more : ℕ) → more + 1 ≡ suc more
one_more more = omega arith

-- Steps whose last ran all ran
ran_told : (node count : ℕ) → steps_told node count (Some Ran) ≡ replicate count (answered_step Farm node Ran)
ran_told node zero = refl
ran_told node (suc more) =
    replicate_more more (answered_step Farm node Ran)
    ∙ ap (λ n. replicate n (answered_step Farm node Ran)) (one_more more)

-- a domain that commits a ticket with that many Steps, whose last ran, gains as many that ran
pub committed_steps : (d e : DomainValue) (t : TicketValue) (node count : ℕ)
    → Commits d t e → t.number ≡ node → t.steps ≡ count → t.last ≡ Some Ran
    → GainsHistory (replicate count (answered_step Farm node Ran)) d e
committed_steps d e t node count commits number steps last = record {
  history = commits.journal ∙ ap (λ h. expanded d.journal ++ h)
      (ap (λ n. steps_told n t.steps t.last) number
      ∙ (ap (λ n. steps_told node n t.last) steps ∙ (ap (λ l. steps_told node count l) last ∙ ran_told node count)));
  part = commits.part;
  ports = ap (λ s. s.ports) commits.switch;
}

-- Steps that all ran, and then others, are all of them
pub more_steps : (d e domain : DomainValue) (node done more : ℕ)
    → GainsHistory (replicate done (answered_step Farm node Ran)) d e
    → GainsHistory (replicate more (answered_step Farm node Ran)) e domain
    → GainsHistory (replicate (done + more) (answered_step Farm node Ran)) d domain
more_steps d e domain node done more first next =
    subst (λ (h : List AnsweredCall). GainsHistory h d domain)
    (replicate-append-replicate done more (answered_step Farm node Ran))
    (gains_more (replicate done (answered_step Farm node Ran)) (replicate more (answered_step Farm node Ran)) d e domain
    first next)
