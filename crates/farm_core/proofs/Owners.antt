-- Whose an output is, and what the word of its owner says of it,
-- for `PlainFarm::owner` and the clauses of `PlainFarm::word`.
use Rattle.std.proofs.Common.{◌≡◌, inl, inr, ℕ, ◌+◌, ◌<◌, ◌≤◌, Option, Some, None, List, length, get_or, slice_get}
use Rattle.std.proofs.Common.{is_some, refl, sym, ap, ◌∙◌, subst, arith}
use Rattle.std.proofs.lemmas.Bool.{true≢false, cases_eq}
use Rattle.std.proofs.lemmas.Option.{same_Some, slice_get_within, get_or_from_slice_get}
use Rattle.crossbar.specs.declared.word.Word.{Word}
use Rattle.crossbar.specs.Row.{Row, IsRow, IsWordOf, number_among}
use Rattle.crossbar.specs.Laws.{SwitchLaws}
use Rattle.virtual_switch.specs.SwitchValue.{row_of}
use Rattle.domain_core.specs.Domain.{DomainValue}
use Rattle.whole_farm.specs.Places.{Place, AreSeparatePlaces}
use Rattle.whole_farm.specs.Domains.{IsFree}
use Rattle.whole_farm.specs.Merges.{own_place}
use Rattle.whole_farm.specs.Values.{all_places, output_told}
use Rattle.whole_farm.specs.Words.{EachWordSaysItsOutput}
use Rattle.farm_core.specs.PlainFarm.{HasOutput, IsWordOfOwner, SaysEachWhole}
use Rattle.farm_core.proofs.Lists.{at_contained, contains_at, domain_of}
use Rattle.farm_core.proofs.Plain.{place_at, read_there}

-- none of the first domains has the output
abbrev pub AreNotOwners : List DomainValue → ℕ → ℕ → Type 0
AreNotOwners domains count output =
    (k : ℕ) (d : DomainValue) → k < count → slice_get domains k ≡ Some d
    → number_among d.machine.switch.ports output ≡ None

-- if the first domains don't have an output, and the next doesn't, one more doesn't
pub one_not_owner_more : (domains : List DomainValue) (count output : ℕ) (d : DomainValue)
    → AreNotOwners domains count output
    → slice_get domains count ≡ Some d
    → number_among d.machine.switch.ports output ≡ None → AreNotOwners domains (count + 1) output
one_not_owner_more domains count output d before at none k e below there =
    elim (cases_eq k count) [
      | inl same ↦
          let is : d ≡ e = same_Some _ _ (sym at ∙ ap (slice_get domains) (sym same) ∙ there) in
          subst (λ (x : DomainValue). number_among x.machine.switch.ports output ≡ None) is none
      | inr ne ↦ before k e (omega arith) there
    ]

-- an output that no domain has is free
pub free_of_all : SwitchLaws → (domains : List DomainValue) (count output : ℕ) → length domains ≤ count
    → AreNotOwners domains count output
    → IsFree (all_places domains) output
free_of_all laws domains count output all none domain place at has =
    let d = domain_of domains domain place at in
    let inside = at_contained place.ports output has in
    let port : slice_get d.0.machine.switch.ports inside.0 ≡ Some output =
    ap (λ (p : Place). slice_get p.ports inside.0) d.2 ∙ inside.1 in
    let within : domain < length domains = slice_get_within domains domain d.0 d.1 in
    let found = laws.numbered d.0.machine.switch.ports output inside.0 port in
    let missing : number_among d.0.machine.switch.ports output ≡ None = none domain d.0 (omega arith) d.1 in
    true≢false (sym found ∙ ap is_some missing)

-- the domain that has a number for an output has that output at the number
pub has_output : SwitchLaws → (domains : List DomainValue) (index : ℕ) (d : DomainValue) (number output : ℕ)
    → slice_get domains index ≡ Some d
    → number_among d.machine.switch.ports output ≡ Some number
    → HasOutput (slice_get domains index) number output
has_output laws domains index d number output at is =
    subst (λ found. HasOutput found number output) (sym at) (laws.found d.machine.switch.ports output number is)

-- if an output is found at a number, there is a domain with this output at the number
pub owner_of : (found : Option DomainValue) (number output : ℕ) → HasOutput found number output
    → (d : DomainValue) × (found ≡ Some d) × (slice_get d.machine.switch.ports number ≡ Some output)
owner_of None number output has = absurd has
owner_of (Some d) number output has = (d, refl, has)

-- a domain that has an output is in the farm
pub within_farm : (domains : List DomainValue) (index number output : ℕ)
    → HasOutput (slice_get domains index) number output
    → index < length domains
within_farm domains index number output has =
    let d = owner_of (slice_get domains index) number output has in slice_get_within domains index d.0 d.1

-- the number of a domain's output is below the count of its ports
pub within_count : (domains : List DomainValue) (index : ℕ) (d : DomainValue) (number output : ℕ)
    → AreSeparatePlaces (all_places domains)
    → slice_get domains index ≡ Some d
    → slice_get d.machine.switch.ports number ≡ Some output → number < d.machine.part.count
within_count domains index d number output separate at is =
    let count = (separate.each index (own_place d) (place_at domains index d at)).count in
    let within = slice_get_within d.machine.switch.ports number output is in
    omega (arith, count, within)

-- no domain has an output that is free
pub nobody_has : (domains : List DomainValue) (index : ℕ) (d : DomainValue) (number output : ℕ)
    → IsFree (all_places domains) output
    → slice_get domains index ≡ Some d
    → slice_get d.machine.switch.ports number ≡ Some output → ⊥
nobody_has domains index d number output free at is =
    free index (own_place d) (place_at domains index d at) (contains_at d.machine.switch.ports number output is)

-- any word says what an owner's would of an output that has none
pub word_of_nobody : (domains : List DomainValue) (output : ℕ) (word : Word) → IsFree (all_places domains) output
    → IsWordOfOwner domains output word
word_of_nobody domains output word free index number d at is =
    absurd (nobody_has domains index d number output free at is)

-- ---- one owner alone

-- the word at an output's number in its domain is the owner's
pub word_of_owner : (domains : List DomainValue) (index : ℕ) (d : DomainValue) (number output : ℕ) (word : Word)
    → AreSeparatePlaces (all_places domains)
    → slice_get domains index ≡ Some d
    → slice_get d.machine.switch.ports number ≡ Some output → slice_get d.machine.switch.words number ≡ Some word
    → IsWordOfOwner domains output word
word_of_owner domains index d number output word separate at is has other v e there port =
    elim (cases_eq other index) [
      | inl same ↦
          let mine : d ≡ e = same_Some _ _ (sym at ∙ ap (slice_get domains) (sym same) ∙ there) in
          let one = (separate.each index (own_place d) (place_at domains index d at)).ports.one_to_one in
          let number_is : v ≡ number =
          one v number output (ap (λ (x : DomainValue). slice_get x.machine.switch.ports v) mine ∙ port) is in
          (λ i. slice_get (sym mine i).machine.switch.words (number_is i)) ∙ has
      | inr ne ↦
          absurd
          (separate.apart other index (own_place e) (own_place d) ne (place_at domains other e there)
          (place_at domains index d at) output (contains_at e.machine.switch.ports v output port)
          (contains_at d.machine.switch.ports number output is))
    ]

-- ---- what a word says

-- a word of a row is proper, and its input is one of the ports
pub word_within : (row : Row) (output : ℕ) (word : Word) → IsRow row → slice_get row.words output ≡ Some word
    → IsWordOf row.ports word
word_within row output word is_row is =
    subst (IsWordOf row.ports) (get_or_from_slice_get row.words output word word is)
    (is_row.each output word (slice_get_within row.words output word is))

-- the word of its owner says of an output what every whole farm has there
pub word_says : EachWordSaysItsOutput
    → (domains : List DomainValue) (index : ℕ) (d : DomainValue) (number output : ℕ) (word : Word)
    → AreSeparatePlaces (all_places domains)
    → slice_get domains index ≡ Some d
    → slice_get d.machine.switch.ports number ≡ Some output → slice_get d.machine.switch.words number ≡ Some word
    → IsRow (row_of d.machine.switch)
    → SaysEachWhole domains output word
word_says law domains index d number output word separate at is has row farm made =
    law domains farm index number output d word separate made at row is has

-- a word 0 says of a free output what every whole farm has there
pub nothing_says : (domains : List DomainValue) (output : ℕ) (word : Word)
    → IsFree (all_places domains) output → word ≡ record { bits = 0 }
    → SaysEachWhole domains output word
nothing_says domains output word free is farm made = made.free output free ∙ ap output_told (sym is)

-- ---- the owner as it is read

-- the domain at this index has the output
pub record IsOwner (domains : List DomainValue) (index : ℕ) (d : DomainValue) (number output : ℕ) : Type 0 where
  pub there : slice_get domains index ≡ Some d
  pub port : slice_get d.machine.switch.ports number ≡ Some output

-- the domain that was found to have an output is its owner
pub owner_read : (items domains : List DomainValue) (index : ℕ) (d : DomainValue) (number output : ℕ)
    → items ≡ domains → HasOutput (slice_get domains index) number output
    → d ≡ get_or items index d
    → IsOwner domains index d number output
owner_read items domains index d number output same has is =
    let at = read_there items domains index index d same refl (within_farm domains index number output has) is in
    record { there = at; port = subst (λ found. HasOutput found number output) at has }
