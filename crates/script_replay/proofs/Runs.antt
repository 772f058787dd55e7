-- Runs of calls, one after another.
use Rattle.std.proofs.Common.{ℕ, List, [], ◌++◌, refl, sym, ◌∙◌, subst}
use Rattle.std.proofs.lemmas.List.Elements.{All-from_recursion}
use Rattle.domain_core.specs.PrivateFarm.{Answer, Call}
use Rattle.domain_core.specs.Domain.{DomainValue}
use Rattle.whole_farm.specs.Whole.{Farm, whole_after}
use Rattle.whole_farm.specs.Domains.{IsMadeOf}
use Rattle.whole_farm.specs.Laws.{RunsAddUp}
use Rattle.whole_farm.specs.Values.{all_places, all_states}
use Rattle.farm_replay.specs.Plain.{IsOfTheFarm}
use Rattle.farm_replay.specs.Runs.{IsRunTo, HaveRun, HasGoneOn}

-- no call leaves the domains as they are
pub no_calls : (domains : List DomainValue) → HaveRun domains domains [] []
no_calls domains = record { places = refl; each = λ farm made. record { told_is = refl; made = made } }

-- a run of calls and then of others is the run of all
pub more_calls : RunsAddUp
    → (domains other_domains third_domains : List DomainValue) (calls later : List (ℕ × Call))
    (told after : List Answer) → HaveRun domains other_domains calls told
    → HaveRun other_domains third_domains later after
    → HaveRun domains third_domains (calls ++ later) (told ++ after)
more_calls law domains other_domains third_domains calls later told after one two = record {
  places = two.places ∙ one.places;
  each = λ farm made.
      let plan = all_places domains in
      let first = one.each farm made in
      let half : Farm = whole_after plan farm calls in
      let then =
      subst (λ p. IsRunTo p half later after third_domains) one.places
      (two.each half (subst (λ p. IsMadeOf p half (all_states other_domains)) (sym one.places) first.made)) in
      let both = law plan farm calls later in
      record {
        told_is = (λ i. first.told_is i ++ then.told_is i) ∙ sym both.told;
        made = subst (λ f. IsMadeOf plan f (all_states third_domains)) (sym both.left) then.made;
      };
}

-- domains that stay have gone on, by no call
pub gone_nowhere : (domain : ℕ) (domains : List DomainValue) → HasGoneOn domain domains domains
gone_nowhere domain domains =
    record { calls = []; told = []; run = no_calls domains; farms = All-from_recursion (IsOfTheFarm domain) [] tt }
