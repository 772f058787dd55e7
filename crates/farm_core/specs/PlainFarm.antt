-- What contracts see of a farm on one thread: its domains in the order of the plan, each with its journal.
use Rattle.std.specs.Prelude.{◌≡◌, ◌≢◌, ◌↔◌, ◌<◌, ◌+◌, ℕ, List, [], length, map, Option, Some, None, Result, Ok, Err, slice_get, All}
use Rattle.std.specs.List.{AllZip}
use Rattle.std.specs.Option.{option_map, option_and_then}
use Rattle.crossbar.specs.declared.word.Word.{Word}
use Rattle.crossbar.specs.Word.{CountsChange}
use Rattle.plan_rules.specs.Data.{DomainData}
use Rattle.bootstrap.specs.declared.node.Node.{Node}
use Rattle.domain_core.specs.declared.domain.Committed.{Committed}
use Rattle.domain_core.specs.declared.domain.Committed.TheVariants.{Done, Stale}
use Rattle.domain_core.specs.declared.event.Refusal.{Refusal}
use Rattle.domain_core.specs.declared.event.Refusal.TheVariants.{NoSuch, JournalFull}
use Rattle.domain_core.specs.declared.journal.Entry.{Entry}
use Rattle.domain_core.specs.PrivateFarm.{State, Answer, Call, opening}
use Rattle.domain_core.specs.Domain.{DomainValue, state_of, Fits, IsCalled}
use Rattle.domain_core.specs.Journal.{AnsweredCall, expanded}
use Rattle.domain_core.specs.Ticket.{TicketValue, IsCurrent, Commits}
use Rattle.whole_farm.specs.Places.{Place}
use Rattle.whole_farm.specs.Whole.{Farm, whole_next}
use Rattle.whole_farm.specs.Projection.{lowered_for}
use Rattle.whole_farm.specs.Domains.{output_of}
use Rattle.whole_farm.specs.Merges.{own_journal, IsMerge, IsRun}
use Rattle.whole_farm.specs.Values.{all_places, all_states, IsMadeOfDomains, output_told}

-- the state of each place as it is opened
abbrev pub openings : List Place → List State
openings plan = map (λ place. opening place.part) plan

-- all other domains are as they were
abbrev pub OthersStay : ℕ → List DomainValue → List DomainValue → Type 0
OthersStay domain old new = (other : ℕ) → other ≢ domain → slice_get new other ≡ slice_get old other

-- ---- a call

-- the same of a domain that may not be there
abbrev pub IsCalledAt : Call → Answer → Option DomainValue → Option DomainValue → Type 0
IsCalledAt call told None new = told ≡ Err NoSuch
IsCalledAt call told (Some old) None = ⊥
IsCalledAt call told (Some old) (Some new) = IsCalled call told old new

-- the whole farm answers a call of a domain so, and is then made of these domains
pub record IsWholeCall (farm : Farm) (domain : ℕ) (call : Call) (told : Answer) (old new : List DomainValue)
    : Type 0 where
  pub answer : told
      ≡ lowered_for (slice_get (all_places old) domain) (whole_next (all_places old) farm (domain, call)).1
  pub made : IsMadeOfDomains (whole_next (all_places old) farm (domain, call)).0 new

-- the same of every whole farm that is made of the domains before
abbrev pub IsCallOfEachWhole : ℕ → Call → Answer → List DomainValue → List DomainValue → Type 0
IsCallOfEachWhole domain call told old new =
    (farm : Farm) → IsMadeOfDomains farm old → IsWholeCall farm domain call told old new

-- ---- a ticket

-- the node of this number in the domain that is there
abbrev pub node_there : Option DomainValue → ℕ → Option Node
node_there found number = option_and_then (λ d. slice_get d.machine.devices.nodes number) found

-- the copy is put in the node's place if the home node is still the ticket's start and the Steps are within the limit;
-- else nothing changes
pub record IsCommitted (t : TicketValue) (told : Result Committed Refusal) (old new : DomainValue) : Type 0 where
  pub stale : (told ≡ Ok Stale) ↔ ¬ IsCurrent old t
  pub full : (told ≡ Err JournalFull)
      ↔ (IsCurrent old t × (old.machine.part.limit < length (expanded old.journal) + t.steps))
  pub no_such : told ≢ Err NoSuch
  pub done : told ≡ Ok Done → Commits old t new
  pub same : told ≢ Ok Done → new ≡ old

-- the same of a domain that may not be there
abbrev pub IsCommittedAt : TicketValue → Result Committed Refusal → Option DomainValue → Option DomainValue
    → Type 0
IsCommittedAt t told None new = told ≡ Err NoSuch
IsCommittedAt t told (Some old) None = ⊥
IsCommittedAt t told (Some old) (Some new) = IsCommitted t told old new

-- ---- what is read of a domain that may not be there

-- the word of a virtual output
abbrev pub word_there : Option DomainValue → ℕ → Option Word
word_there found output = option_and_then (λ d. slice_get d.machine.switch.words output) found

-- its journal
abbrev pub journal_there : Option DomainValue → Option (List Entry)
journal_there found = option_map (λ d. d.journal) found

-- how many events are recorded
abbrev pub recorded_there : Option DomainValue → Option ℕ
recorded_there found = option_map (λ d. length (expanded d.journal)) found

-- ---- a word

-- the output has this number in the domain that is there
abbrev pub HasOutput : Option DomainValue → ℕ → ℕ → Type 0
HasOutput None number output = ⊥
HasOutput (Some d) number output = slice_get d.machine.switch.ports number ≡ Some output

-- it is the word of the domain whose output this is
abbrev pub IsWordOfOwner : List DomainValue → ℕ → Word → Type 0
IsWordOfOwner domains output word =
    (domain number : ℕ) (d : DomainValue) → slice_get domains domain ≡ Some d
    → slice_get d.machine.switch.ports number ≡ Some output
    → slice_get d.machine.switch.words number ≡ Some word

-- in every whole farm that is made of the domains the output is what the word says
abbrev pub SaysEachWhole : List DomainValue → ℕ → Word → Type 0
SaysEachWhole domains output word =
    (farm : Farm) → IsMadeOfDomains farm domains → output_of farm.switch output ≡ output_told word

-- ---- the whole

-- some merge of the domains' journals leads the whole farm from its opening, by the stored replies, to one that is made
-- of the domains
pub record HaveAWhole (domains : List DomainValue) : Type 0 where
  pub merge : List (ℕ × AnsweredCall)
  pub merges : IsMerge (map own_journal domains) merge
  pub run : IsRun (all_places domains) merge (all_states domains)

-- ---- an opening

-- the domain's words are all 0: disconnected, and never changed
abbrev pub IsUnused : DomainValue → Type 0
IsUnused d = All (λ word. word ≡ record { bits = 0 }) d.machine.switch.words

-- the domain is as it was opened, but that change counts went on
pub record IsRestarted (old new : DomainValue) : Type 0 where
  pub state : state_of new ≡ opening old.machine.part
  pub journal : new.journal ≡ []
  pub counts : AllZip CountsChange old.machine.switch.words new.machine.switch.words

-- the domain that is there is restarted
abbrev pub IsRestartedAt : Option DomainValue → Option DomainValue → Type 0
IsRestartedAt (Some old) (Some new) = IsRestarted old new
IsRestartedAt _ _ = ⊥

-- the domain that is there has the part and the ports of this domain of a plan
abbrev pub FitsAt : List DomainData → ℕ → Option DomainValue → Type 0
FitsAt plan number None = ⊥
FitsAt plan number (Some d) = Fits plan number d
