-- The domains of a plan as they are opened, one after another, for `PlainFarm::open`, `open_domains` and `open_domain`.
use Rattle.std.proofs.Common.{◌≡◌, ℕ, zero, suc, ◌+◌, ◌<◌, Option, Some, None, refl, arith, replicate, List, [], ◌∷◌}
use Rattle.std.proofs.Common.{◌++◌, length, get_or, take, slice_get, IfSome, Result, Ok, Err, IfOk, All, sym}
use Rattle.std.proofs.Common.{ap, ◌∙◌, subst}
use Rattle.std.proofs.lemmas.Option.{slice_get-get_or, slice_get_past, same_Some, none-some}
use Rattle.std.specs.List.{cons_option}
use Rattle.crossbar.specs.declared.word.Word.{Word}
use Rattle.crossbar.specs.Plain.{outputs_of, words_at}
use Rattle.crossbar.specs.Row.{Row}
use Rattle.crossbar.specs.Ranges.{ranged_ports}
use Rattle.crossbar.specs.declared.range.PortRange.{PortRange}
use Rattle.virtual_switch.specs.SwitchValue.{row_of}
use Rattle.std.proofs.lemmas.List.{take_more, map-append}
use Rattle.std.proofs.lemmas.List.Elements.{All-push, All-cons, All-nil}
use Rattle.plan_rules.specs.Data.{DomainData}
use Rattle.plan_rules.specs.Part.{part_of}
use Rattle.domain_core.specs.PrivateFarm.{opening}
use Rattle.domain_core.specs.Domain.{DomainValue, state_of}
use Rattle.whole_farm.specs.Places.{Place, place_of, places_of}
use Rattle.whole_farm.specs.Whole.{whole_opening}
use Rattle.whole_farm.specs.Domains.{IsMadeOf, OpeningIsMadeOfOpenings}
use Rattle.whole_farm.specs.Merges.{own_place}
use Rattle.whole_farm.specs.Values.{all_places, all_states}
use Rattle.farm_core.specs.PlainFarm.{openings, IsUnused}
use Rattle.farm_core.proofs.Lists.{there_is}

-- ---- words of 0

replicated : (n k : ℕ) (word other_word : Word) → slice_get (replicate n word) k ≡ Some other_word → other_word ≡ word
replicated zero k word other_word at = absurd (none-some other_word
    (sym (slice_get_past {X = Word} [] k (omega arith)) ∙ at))
replicated (suc n) zero word other_word at = sym (same_Some _ _ at)
replicated (suc n) (suc k) word other_word at = replicated n k word other_word at

one_more_word : (word : Word) (found : Option Word) (rest : List Word)
    → ((w : Word) → found ≡ Some w → w ≡ word) → All (λ w. w ≡ word) rest
    → All (λ w. w ≡ word) (cons_option found rest)
one_more_word word None rest is all = all
one_more_word word (Some w) rest is all = All-cons (λ v. v ≡ word) w rest (is w refl) all

-- the words of ports in a row of equal words are all that word
pub words_of_a_row : (n : ℕ) (word : Word) (ports : List ℕ) → All (λ w. w ≡ word) (words_at (replicate n word) ports)
words_of_a_row n word [] = All-nil (λ w. w ≡ word)
words_of_a_row n word (port ∷ ports) =
    one_more_word word (slice_get (replicate n word) port) (words_at (replicate n word) ports)
    (λ w at. replicated n port word w at)
    (words_of_a_row n word ports)

-- a domain whose words are those of a row that was never set has unused words
pub opened_unused : {E : Type 0} (outcome : Result DomainValue E) (n : ℕ) (row : Row) (ranges : List (Option PortRange))
    → row ≡ outputs_of (replicate n (record { bits = 0 })) ranges
    → IfOk outcome (λ d. row_of d.machine.switch ≡ row) → IfOk outcome IsUnused
opened_unused (Ok d) n row ranges is same =
    subst (λ (r : Row). All (λ w. w ≡ record { bits = 0 }) r.words) (sym (same ∙ is))
    (words_of_a_row n (record { bits = 0 }) (ranged_ports ranges))
opened_unused (Err e) n row ranges is same = tt

-- ---- domain after domain

-- the domains are those of a plan, each as it is opened
pub record AreOpened (plan : List DomainData) (domains : List DomainValue) : Type 0 where
  pub places : all_places domains ≡ places_of plan
  pub states : all_states domains ≡ openings (places_of plan)
  pub journals : All (λ d. d.journal ≡ []) domains
  pub words : All IsUnused domains

one_more : (plan : List DomainData) (of : DomainData) (domains : List DomainValue) (d : DomainValue)
    → AreOpened plan domains → own_place d ≡ place_of of → state_of d ≡ opening (part_of of)
    → d.journal ≡ []
    → IsUnused d → AreOpened (plan ++ of ∷ []) (domains ++ d ∷ [])
one_more plan of domains d before place state journal unused = record {
  places =
      map-append own_place domains (d ∷ []) ∙ (λ i. before.places i ++ place i ∷ [])
      ∙ sym (map-append place_of plan (of ∷ []));
  states =
      map-append state_of domains (d ∷ []) ∙ (λ i. before.states i ++ state i ∷ [])
      ∙ sym (ap openings (map-append place_of plan (of ∷ []))
      ∙ map-append (λ (place : Place). opening place.part) (places_of plan) (place_of of ∷ []));
  journals = All-push (λ (x : DomainValue). x.journal ≡ []) domains d before.journals journal;
  words = All-push IsUnused domains d before.words unused;
}

-- if the domains of the first i of a plan are opened, and the next is, those of the first i + 1 are
pub opened_more : (plan : List DomainData) (i : ℕ) (domains : List DomainValue) (d : DomainValue) → i < length plan
    → AreOpened (take i plan) domains
    → IfSome (slice_get plan i) (λ of. own_place d ≡ place_of of)
    → IfSome (slice_get plan i) (λ of. state_of d ≡ opening (part_of of)) → d.journal ≡ [] → IsUnused d
    → AreOpened (take (i + 1) plan) (domains ++ d ∷ [])
opened_more plan i domains d within before place state journal unused =
    let x = there_is plan i within in
    let of = get_or plan i x.0 in
    let at : slice_get plan i ≡ Some of = slice_get-get_or plan i x.0 within in
    subst (λ opened. AreOpened opened (domains ++ d ∷ [])) (sym (take_more plan i x.0 within))
    (one_more (take i plan) of domains d before (subst (λ found. IfSome found (λ o. own_place d ≡ place_of o)) at place)
    (subst (λ found. IfSome found (λ o. state_of d ≡ opening (part_of o))) at state) journal unused)

-- the opened domains of a plan make the whole farm as it is opened
pub opened_is_whole : OpeningIsMadeOfOpenings → (plan : List DomainData) (domains : List DomainValue)
    → all_states domains ≡ openings (places_of plan)
    → IsMadeOf (places_of plan) (whole_opening (places_of plan)) (all_states domains)
opened_is_whole law plan domains states =
    subst (IsMadeOf (places_of plan) (whole_opening (places_of plan))) (sym states)
    (law (places_of plan))
