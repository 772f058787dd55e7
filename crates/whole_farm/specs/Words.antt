-- What the switch words of domains say of the whole farm that is made of them.
use Rattle.std.specs.Prelude.{◌≡◌, ℕ, List, length, map, Some, slice_get, All}
use Rattle.crossbar.specs.declared.word.Word.{Word}
use Rattle.crossbar.specs.Row.{IsRow}
use Rattle.crossbar.specs.Switch.{Switch}
use Rattle.virtual_switch.specs.SwitchValue.{row_of}
use Rattle.plan_rules.specs.Data.{DomainData}
use Rattle.domain_core.specs.Domain.{DomainValue, IsMeant, Fits}
use Rattle.domain_core.specs.Journal.{AnsweredCall}
use Rattle.whole_farm.specs.Places.{places_of, AreSeparatePlaces}
use Rattle.whole_farm.specs.Whole.{Farm, whole_after, whole_opening}
use Rattle.whole_farm.specs.Domains.{output_of}
use Rattle.whole_farm.specs.Merges.{own_journal, IsMerge, merged_calls}
use Rattle.whole_farm.specs.Values.{all_places, IsMadeOfDomains, output_told}

-- its words are a row of its ports
abbrev pub HasRow : DomainValue → Type 0
HasRow d = IsRow (row_of d.machine.switch)

-- if a domain has a row of words, each of them says what its output is in every whole farm that is made of the domains
abbrev pub EachWordSaysItsOutput : Type 0
EachWordSaysItsOutput =
    (domains : List DomainValue) (farm : Farm) (domain number output : ℕ) (d : DomainValue) (word : Word)
    → AreSeparatePlaces (all_places domains) → IsMadeOfDomains farm domains
    → slice_get domains domain ≡ Some d → HasRow d → slice_get d.machine.switch.ports number ≡ Some output
    → slice_get d.machine.switch.words number ≡ Some word
    → output_of farm.switch output ≡ output_told word

-- each output of these domains is driven and ready as its word says
abbrev pub IsAsWordsSay : List DomainValue → Switch → Type 0
IsAsWordsSay domains s =
    (domain number output : ℕ) (d : DomainValue) (word : Word) → slice_get domains domain ≡ Some d
    → slice_get d.machine.switch.ports number ≡ Some output
    → slice_get d.machine.switch.words number ≡ Some word → output_of s output ≡ output_told word

-- so it is in every whole farm that is made of them
abbrev pub EachWholeIsAsWordsSay : Type 0
EachWholeIsAsWordsSay =
    (domains : List DomainValue) (farm : Farm) → AreSeparatePlaces (all_places domains) → All HasRow domains
    → IsMadeOfDomains farm domains → IsAsWordsSay domains farm.switch

-- and at the end of every merge of their journals
abbrev pub EachMergeEndsAsWordsSay : Type 0
EachMergeEndsAsWordsSay =
    (domains : List DomainValue) (merge : List (ℕ × AnsweredCall)) → AreSeparatePlaces (all_places domains)
    → All IsMeant domains → All HasRow domains
    → IsMerge (map own_journal domains) merge
    → IsAsWordsSay domains
    (whole_after (all_places domains) (whole_opening (all_places domains)) (merged_calls merge)).switch

-- domains that fit a plan, each at its number, have its places
abbrev pub FittingDomainsHaveItsPlaces : Type 0
FittingDomainsHaveItsPlaces =
    (plan : List DomainData) (domains : List DomainValue) → length domains ≡ length plan
    → ((number : ℕ) (d : DomainValue) → slice_get domains number ≡ Some d → Fits plan number d)
    → all_places domains ≡ places_of plan
