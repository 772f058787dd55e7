-- What a command is answered.
use Rattle.std.specs.Prelude.{ℕ, List, ◌≡◌, ◌≤◌, ◌⊎◌, Err, MatchOption, length, slice_get}
use Rattle.plan_rules.specs.Data.{DomainData}
use Rattle.plan_rules.specs.Part.{part_of}
use Rattle.domain_core.specs.declared.event.Event.{Event}
use Rattle.domain_core.specs.declared.event.Refusal.TheVariants.{NoSuch}
use Rattle.domain_core.specs.PrivateFarm.{Answer, Call}
use Rattle.domain_core.specs.Answers.{IsAnswer}
use Rattle.domain_core.specs.Domain.{DomainValue, UnlessNoMemory, IsOutOfRoom}
use Rattle.farm_service.specs.Domains.{IsFound}
use Rattle.farm_service.specs.Passes.{SessionValue, call_of}

-- a farm that holds the plan's domain alone gives this answer last to some list of calls that ends with this one; a
-- call of a domain that isn't in the plan is answered that there is none
abbrev pub IsAnswerIn : List DomainData → ℕ → Call → Answer → Type 0
IsAnswerIn plan domain call answer =
    MatchOption (slice_get plan domain) (answer ≡ Err NoSuch) (λ d. IsAnswer (part_of d) call answer)

-- the same of a session's command, unless memory ran out
abbrev pub IsTold : SessionValue → Event → Answer → Type 0
IsTold s event answer = UnlessNoMemory answer (IsAnswerIn s.plan s.pass.domain (call_of s.pass event) answer)

-- the journal of the domain of this number has as many entries as memory is reserved for, and that is for no fewer than
-- this
abbrev pub IsJournalOutOfRoom : List DomainData → ℕ → ℕ → Type 0
IsJournalOutOfRoom plan domain reserved =
    (d : DomainValue) × IsFound plan domain d × (reserved ≤ d.reserved) × IsOutOfRoom d

-- a user's list, or the journal of the user's domain, has as many entries as memory is reserved for
abbrev pub HasNoRoomLeft : SessionValue → Type 0
HasNoRoomLeft s = (s.pass.reserved ≤ length s.pass.told) ⊎ IsJournalOutOfRoom s.plan s.pass.domain s.pass.reserved
