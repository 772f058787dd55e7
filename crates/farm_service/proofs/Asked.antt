-- What a domain of a plan answers to a call: the contract of `ask`.
use Rattle.std.proofs.Common.{◌≡◌, ℕ, List, Ok, Err, sym, subst, Option, MatchOption}
use Rattle.plan_rules.specs.Data.{DomainData}
use Rattle.plan_rules.specs.Part.{PartData, part_of}
use Rattle.domain_core.specs.declared.event.Refusal.TheVariants.{NoSuch, JournalFull, NoMemory}
use Rattle.domain_core.specs.PrivateFarm.{Answer, Call, next}
use Rattle.domain_core.specs.Domain.{DomainValue, state_of, IsMeant, Fits, UnlessNoMemory}
use Rattle.domain_core.specs.Journal.{expanded}
use Rattle.domain_core.specs.Answers.{IsAnswer}
use Rattle.domain_core.specs.Laws.{NextIsAnAnswer}
use Rattle.farm_service.specs.Answers.{IsAnswerIn}

unless : (answer : Answer) {P Q : Type 0} → (P → Q) → UnlessNoMemory answer P → UnlessNoMemory answer Q
unless (Ok reply) f given = f given
unless (Err NoSuch) f given = f given
unless (Err JournalFull) f given = f given
unless (Err NoMemory) f given = tt

-- the domain's journal has the calls before
after_journal : NextIsAnAnswer
    → (d : DomainValue) (call : Call) (answer : Answer) → IsMeant d → answer ≡ (next d.machine.part (state_of d) call).1
    → IsAnswer d.machine.part call answer
after_journal law d call answer meant is =
    subst (IsAnswer d.machine.part call) (sym is)
    (law d.machine.part (expanded d.journal) (state_of d) call meant.history)

-- a domain that is at its number in a plan answers as the plan's domain does, unless there is no memory
pub asked : NextIsAnAnswer
    → (d : DomainValue) (plan : List DomainData) (number : ℕ) (call : Call) (answer : Answer) → Fits plan number d
    → IsMeant d → UnlessNoMemory answer (answer ≡ (next d.machine.part (state_of d) call).1)
    → UnlessNoMemory answer (IsAnswerIn plan number call answer)
asked law d plan number call answer fits meant told =
    unless answer
    (λ (is : answer ≡ (next d.machine.part (state_of d) call).1).
    subst (λ (found : Option DomainData). MatchOption found (answer ≡ Err NoSuch)
    (λ (x : DomainData). IsAnswer (part_of x) call answer))
    (sym fits.there)
    (subst (λ (p : PartData). IsAnswer p call answer) (sym fits.part) (after_journal law d call answer meant is)))
    told
