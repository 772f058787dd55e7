-- What becomes of a ticket that is lent and committed: the contract of `commit_slot`.
use Rattle.std.proofs.Common.{◌≡◌, ◌≢◌, ◌↔◌, Some, Result, Ok, Err, refl, ap}
use Rattle.domain_core.specs.declared.domain.Committed.{Committed}
use Rattle.domain_core.specs.declared.domain.Committed.TheVariants as committed
use Rattle.domain_core.specs.declared.event.Refusal.{Refusal}
use Rattle.domain_core.specs.declared.event.Refusal.TheVariants.{NoSuch, JournalFull}
use Rattle.domain_core.specs.Domain.{DomainValue, IsPastLimit}
use Rattle.domain_core.specs.Ticket.{TicketValue, IsCurrent, Commits, fresh_ticket}
use Rattle.farm_service.specs.declared.halves.Turned.TheVariants.{BurstRecorded}
use Rattle.farm_service.specs.Turns.{CommitsLent}

-- if the commit was done, the domain took the ticket's Steps, and the ticket is as fresh as after a checkout
pub committed_lent : (d e : DomainValue) (t u : TicketValue) (told : Result Committed Refusal)
    → told ≡ Ok committed.Done → ((told ≡ Ok committed.Stale) ↔ ¬ IsCurrent d t)
    → ((told ≡ Err JournalFull) ↔ (IsCurrent d t × IsPastLimit d t.steps)) → (told ≡ Ok committed.Done → Commits d t e)
    → (told ≡ Ok committed.Done → u ≡ fresh_ticket t.domain t.number t.start)
    → CommitsLent d t (Ok BurstRecorded) e (Some u)
committed_lent d e t u told is stale full done spent = record {
  stale = (λ k. absurd cc, λ away. absurd (let k : told ≡ Ok committed.Stale = stale.1 away in cc));
  full = (λ k. absurd cc, λ past. absurd (let k : told ≡ Err JournalFull = full.1 past in cc));
  no_such = λ k. absurd cc;
  copied = λ k. absurd cc;
  home = λ k. (done is, ap Some (spent is));
  same = λ other. absurd (other refl);
}

-- if the commit was refused, the domain and the ticket are as they were
pub refused : (d e : DomainValue) (t u : TicketValue) (told : Result Committed Refusal) (refusal : Refusal)
    → told ≡ Err refusal → ((told ≡ Ok committed.Stale) ↔ ¬ IsCurrent d t)
    → ((told ≡ Err JournalFull) ↔ (IsCurrent d t × IsPastLimit d t.steps)) → told ≢ Err NoSuch
    → (told ≢ Ok committed.Done → (e ≡ d) × (u ≡ t))
    → CommitsLent d t (Err refusal) e (Some u)
refused d e t u told refusal is stale full other same = record {
  stale = (λ k. absurd cc, λ away. absurd (let k : told ≡ Ok committed.Stale = stale.1 away in cc));
  full = (
    λ k. full.0 (let j : told ≡ Err JournalFull = cc in j),
    λ past. let j : told ≡ Err JournalFull = full.1 past in cc,
  );
  no_such = λ k. other (let j : told ≡ Err NoSuch = cc in j);
  copied = λ k. absurd cc;
  home = λ k. absurd cc;
  same =
      λ k. let stays : (e ≡ d) × (u ≡ t) =
      same (λ (j : told ≡ Ok committed.Done). let i : told ≡ Err refusal = is in absurd cc) in
      (stays.0, ap Some stays.1);
}
