-- The places of a plan whose domains are numbered and share no port, for the law `numbered_domains_are_separate` and
-- the plans of `Plans.antt`.
use Rattle.std.proofs.Common.{◌≡◌, inl, inr, ℕ, ◌<◌, Option, Some, None, List, slice_get, option_map, refl, sym, ◌∙◌}
use Rattle.std.proofs.Common.{subst, get_or}
use Rattle.std.proofs.lemmas.Bool.{cases_order}
use Rattle.std.proofs.lemmas.Option.{none-some, same_Some, slice_get-map, slice_get_within, get_or_from_slice_get}
use Rattle.std.specs.List.{AllPairs}
use Rattle.plan_rules.specs.Data.{DomainData}
use Rattle.plan_rules.specs.Part.{IsNumbered, AreSeparate, physical_ports}
use Rattle.whole_farm.specs.Places.{Place, place_of, places_of, IsPlace, AreApart}
use Rattle.whole_farm.specs.Laws.{NumberedDomainsAreSeparate}

-- the domain whose place this is
placed : (found : Option DomainData) (place : Place) → option_map place_of found ≡ Some place
    → (domain : DomainData) × (found ≡ Some domain) × (place_of domain ≡ place)
placed None place is = absurd (none-some place is)
placed (Some domain) place is = (domain, refl, same_Some _ _ is)

domain_at : (plan : List DomainData) (number : ℕ) (place : Place) → slice_get (places_of plan) number ≡ Some place
    → (domain : DomainData) × (slice_get plan number ≡ Some domain) × (place_of domain ≡ place)
domain_at plan number place there =
    placed (slice_get plan number) place (sym (slice_get-map place_of plan number) ∙ there)

pairs_at : (plan : List DomainData) (i j : ℕ) (domain other_domain : DomainData)
    → AllPairs AreSeparate plan → i < j → slice_get plan i ≡ Some domain → slice_get plan j ≡ Some other_domain
    → AreSeparate domain other_domain
pairs_at plan i j domain other_domain pairs below at there =
    subst (λ x. AreSeparate x other_domain) (get_or_from_slice_get plan i domain domain at)
    (subst (λ y. AreSeparate (get_or plan i domain) y) (get_or_from_slice_get plan j other_domain domain there)
    (pairs i j domain below (slice_get_within plan j other_domain there)))

-- the places of a plan whose domains are numbered and share no port are separate
pub numbered_domains_are_separate : NumberedDomainsAreSeparate
numbered_domains_are_separate plan numbered pairs = record {
  each = λ number place there.
      let d = domain_at plan number place there in
      let is : IsNumbered d.0 =
      subst IsNumbered (get_or_from_slice_get plan number d.0 d.0 d.1)
      (numbered number d.0 (slice_get_within plan number d.0 d.1)) in
      subst IsPlace d.2 (record { ports = is.ports; count = is.count });
  apart = λ number other place there ne at here.
      let d = domain_at plan number place at in
      let e = domain_at plan other there here in
      subst (λ (p : Place). AreApart p.ports there.ports) d.2
      (subst (λ (p : Place). AreApart (physical_ports d.0) p.ports) e.2
      (elim (cases_order number other) [
        | inl same ↦ absurd (ne same)
        | inr (inl lt) ↦ pairs_at plan number other d.0 e.0 pairs lt d.1 e.1
        | inr (inr gt) ↦ λ port mine theirs. pairs_at plan other number e.0 d.0 pairs gt e.1 d.1 port theirs mine
      ]));
}
