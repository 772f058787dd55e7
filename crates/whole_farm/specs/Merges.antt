-- Journals of several domains in one order.
use Rattle.std.specs.Prelude.{◌≡◌, ℕ, List, [], Option, Some, None, Ok, slice_get, map, length, All}
use Rattle.domain_core.specs.PrivateFarm.{State, Answer, Call}
use Rattle.domain_core.specs.Domain.{DomainValue, state_of, IsMeant}
use Rattle.domain_core.specs.Journal.{AnsweredCall, expanded, IsHistory}
use Rattle.whole_farm.specs.Places.{Place, AreSeparatePlaces}
use Rattle.whole_farm.specs.Whole.{whole_after, whole_opening}
use Rattle.whole_farm.specs.Projection.{own}
use Rattle.whole_farm.specs.Domains.{IsMadeOf}
use Rattle.whole_farm.specs.Laws.{caller_answers}

-- the journal of a domain, empty if there is none
abbrev pub journal_at : Option (List AnsweredCall) → List AnsweredCall
journal_at None = []
journal_at (Some journal) = journal

-- the merge has of each domain exactly its journal, in its order, and nothing of a domain without one
abbrev pub IsMerge : List (List AnsweredCall) → List (ℕ × AnsweredCall) → Type 0
IsMerge journals merge = (domain : ℕ) → own domain merge ≡ journal_at (slice_get journals domain)

-- the calls of a merge, each with its domain
abbrev pub merged_calls : List (ℕ × AnsweredCall) → List (ℕ × Call)
merged_calls merge = map (λ x. (x.0, x.1.call)) merge

-- the answers of a merge: its replies
abbrev pub merged_answers : List (ℕ × AnsweredCall) → List Answer
merged_answers merge = map (λ x. Ok x.1.reply) merge

-- there is a journal for each domain, and it leads the domain to its state
pub record AreHistories (plan : List Place) (journals : List (List AnsweredCall)) (states : List State) : Type 0 where
  pub journal_each : length journals ≡ length plan
  pub state_each : length states ≡ length plan
  pub each : (domain : ℕ) (place : Place) (journal : List AnsweredCall) (s : State)
      → slice_get plan domain ≡ Some place → slice_get journals domain ≡ Some journal
      → slice_get states domain ≡ Some s → IsHistory place.part journal s

-- the whole farm, from its opening, answers the calls of a merge by the stored replies, and ends made of these states
pub record IsRun (plan : List Place) (merge : List (ℕ × AnsweredCall)) (states : List State) : Type 0 where
  pub replies : caller_answers plan (merged_calls merge) ≡ merged_answers merge
  pub ends : IsMadeOf plan (whole_after plan (whole_opening plan) (merged_calls merge)) states

-- every merge of histories of separate places is a run of the whole farm
abbrev pub EachMergeIsARun : Type 0
EachMergeIsARun =
    (plan : List Place) (journals : List (List AnsweredCall)) (states : List State) (merge : List (ℕ × AnsweredCall))
    → AreSeparatePlaces plan → AreHistories plan journals states
    → IsMerge journals merge → IsRun plan merge states

-- ---- of domains, each with its journal

-- the place that a domain has
abbrev pub own_place : DomainValue → Place
own_place d = record { part = d.machine.part; ports = d.machine.switch.ports }

-- the history that a domain's journal stands for
abbrev pub own_journal : DomainValue → List AnsweredCall
own_journal d = expanded d.journal

-- every merge of the journals of separate domains is a run of the whole farm, which ends made of what the domains are
abbrev pub EachMergeOfDomainsIsARun : Type 0
EachMergeOfDomainsIsARun =
    (domains : List DomainValue) (merge : List (ℕ × AnsweredCall)) → AreSeparatePlaces (map own_place domains)
    → All IsMeant domains → IsMerge (map own_journal domains) merge
    → IsRun (map own_place domains) merge (map state_of domains)
