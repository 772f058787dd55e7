-- What the words of domains say of the whole farms that are made of them, and domains that fit a plan: the laws
-- `each_word_is_of_its_output` and `fitting_domains_have_its_places`.
use Rattle.std.proofs.Common.{◌≡◌, ℕ, ◌<◌, List, [], Option, Some, None, length, Contains, slice_get, option_map}
use Rattle.std.proofs.Common.{All, sym, ap, ◌∙◌, arith, subst}
use Rattle.std.proofs.lemmas.List.{ext_get_or, length-map}
use Rattle.std.proofs.lemmas.Option.{slice_get_within, get_or_from_slice_get, slice_get-map, same_Some, none-some}
use Rattle.std.specs.FinMap as fin
use Rattle.crossbar.specs.declared.word.Word.{Word}
use Rattle.crossbar.specs.declared.word.Connection.{Connection}
use Rattle.crossbar.specs.Word.{connection_of}
use Rattle.crossbar.specs.Row.{Row, IsRow, IsWordOf, InputIsIn, private_switch, input_of}
use Rattle.crossbar.specs.Laws.{SwitchLaws}
use Rattle.virtual_switch.specs.SwitchValue.{row_of}
use Rattle.plan_rules.specs.Data.{DomainData}
use Rattle.plan_rules.specs.Part.{part_with}
use Rattle.domain_core.specs.Domain.{DomainValue, state_of, Fits}
use Rattle.whole_farm.specs.Places.{Place, place_of, places_of}
use Rattle.whole_farm.specs.Messages.{raised}
use Rattle.whole_farm.specs.Merges.{own_place}
use Rattle.whole_farm.specs.Values.{all_places, all_states}
use Rattle.whole_farm.specs.Words.{HasRow, EachWordSaysItsOutput}
use Rattle.whole_farm.specs.Words.{EachWholeIsAsWordsSay, EachMergeEndsAsWordsSay, FittingDomainsHaveItsPlaces}
use Rattle.whole_farm.proofs.MadeOfDomains.{each_output_is_of_its_domain, raised-number}
use Rattle.whole_farm.proofs.Merging.{there_is, each_merge_of_domains_is_a_run}

-- the place at a domain's number is its own
place_at : (domains : List DomainValue) (domain : ℕ) (d : DomainValue) → slice_get domains domain ≡ Some d
    → slice_get (all_places domains) domain ≡ Some (own_place d)
place_at domains domain d at = slice_get-map own_place domains domain ∙ ap (option_map own_place) at

-- the state at a domain's number is its own
state_at : (domains : List DomainValue) (domain : ℕ) (d : DomainValue) → slice_get domains domain ≡ Some d
    → slice_get (all_states domains) domain ≡ Some (state_of d)
state_at domains domain d at = slice_get-map state_of domains domain ∙ ap (option_map state_of) at

-- ---- what the words say

-- a word of a row is proper, and its input is one of the ports
word_within : (row : Row) (output : ℕ) (word : Word) → IsRow row → slice_get row.words output ≡ Some word
    → IsWordOf row.ports word
word_within row output word is_row is =
    subst (IsWordOf row.ports) (get_or_from_slice_get row.words output word word is)
    (is_row.each output word (slice_get_within row.words output word is))

driver_is : SwitchLaws → (row : Row) (number : ℕ) (word : Word) → IsRow row → number < length row.ports
    → slice_get row.words number ≡ Some word
    → option_map (raised row.ports) (fin.get (private_switch row).pairs number) ≡ input_of (connection_of word)
driver_is laws row number word is_row within has =
    ap (option_map (raised row.ports)) (laws.driver row number word within has)
    ∙ sym (raised-number laws row.ports (input_of (connection_of word)) is_row.one_to_one
    (inside (connection_of word) (word_within row number word is_row has).within))
  where
    inside : (found : Option Connection) → InputIsIn row.ports found → (input : ℕ) → input_of found ≡ Some input
        → Contains row.ports input
    inside None in' input is = absurd (none-some input is)
    inside (Some connection) in' input is = subst (Contains row.ports) (same_Some _ _ is) in'

-- if a domain has a row of words, each of them says what its output is in every whole farm made of the domains
pub each_word_says_its_output : SwitchLaws → EachWordSaysItsOutput
each_word_says_its_output laws domains farm domain number output d word separate made at row port has =
    let own = row_of d.machine.switch in
    let within = slice_get_within own.ports number output port in
    each_output_is_of_its_domain laws (all_places domains) farm (all_states domains) domain (own_place d) (state_of d)
    number output separate made (place_at domains domain d at) (state_at domains domain d at) port
    ∙ (λ i.
    record {
      driver = driver_is laws own number word row within has i;
      ready = laws.readiness own number word within has i;
    })

all_at : (P : DomainValue → Type 0) (domains : List DomainValue) (number : ℕ) (d : DomainValue)
    → All P domains → slice_get domains number ≡ Some d
    → P d
all_at P domains number d all at =
    subst P (get_or_from_slice_get domains number d d at) (all number d (slice_get_within domains number d at))

-- in every whole farm made of domains, an output is as the word of its owner says
pub each_whole_is_as_words_say : SwitchLaws → EachWholeIsAsWordsSay
each_whole_is_as_words_say laws domains farm separate rows made domain number output d word at =
    each_word_says_its_output laws domains farm domain number output d word separate made at
    (all_at HasRow domains domain d rows at)

-- the same at the end of every merge of the domains' journals
pub each_merge_ends_as_words_say : SwitchLaws → EachMergeEndsAsWordsSay
each_merge_ends_as_words_say laws domains merge separate meant rows is =
    each_whole_is_as_words_say laws domains _ separate rows
    (each_merge_of_domains_is_a_run laws domains merge separate meant is).ends

-- ---- domains that fit a plan

no_place : Place
no_place = record { part = part_with 0 0 0 [] []; ports = [] }

fitting_place : (plan : List DomainData) (number : ℕ) (d : DomainValue) → Fits plan number d
    → slice_get (places_of plan) number ≡ Some (own_place d)
fitting_place plan number d fits =
    slice_get-map place_of plan number ∙ ap (option_map place_of) fits.there
    ∙ (λ i. Some (record { part = fits.part i; ports = fits.ports i }))

-- domains that fit a plan, each at its number, have its places
pub fitting_domains_have_its_places : FittingDomainsHaveItsPlaces
fitting_domains_have_its_places plan domains count fits =
    ext_get_or no_place (all_places domains) (places_of plan)
    (length-map domains own_place ∙ count ∙ sym (length-map plan place_of)) (λ number below.
    let d = there_is domains number (omega (arith, below, length-map domains own_place)) in
    get_or_from_slice_get (all_places domains) number (own_place d.0) no_place (place_at domains number d.0 d.1)
    ∙ sym (get_or_from_slice_get (places_of plan) number (own_place d.0) no_place
    (fitting_place plan number d.0 (fits number d.0 d.1))))
