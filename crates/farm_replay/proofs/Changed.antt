-- What a domain's restart and a commit do, and what else is asked of a domain beside events.
use Rattle.std.proofs.Common.{◌≡◌, ◌<◌, ℕ, zero, suc, List, [], Option, Some, None, Ok, All, length}
use Rattle.std.proofs.Common.{slice_get, option_map, refl, sym, ap, ◌∙◌, subst, IfSome}
use Rattle.std.proofs.lemmas.List.Elements.{All-from_recursion}
use Rattle.std.proofs.lemmas.Option.{slice_get-map, slice_get_within, none-some, same_Some}
use Rattle.t414_step.specs.declared.stepping.Stepped.{Stepped}
use Rattle.domain_core.specs.declared.domain.Committed.TheVariants.{Done}
use Rattle.domain_core.specs.PrivateFarm.{opening}
use Rattle.domain_core.specs.Domain.{DomainValue, state_of}
use Rattle.domain_core.specs.Journal.{calls_of, replies_of}
use Rattle.domain_core.specs.Ticket.{TicketValue, steps_told}
use Rattle.whole_farm.specs.Places.{Place}
use Rattle.whole_farm.specs.Whole.{Farm}
use Rattle.whole_farm.specs.Domains.{IsMadeOf, EachCallIsPrivate}
use Rattle.whole_farm.specs.Merges.{own_place}
use Rattle.whole_farm.specs.Values.{all_places, all_states}
use Rattle.farm_core.specs.PlainFarm.{OthersStay, IsRestartedAt, IsCommittedAt, HaveAWhole}
use Rattle.event_text.specs.declared.request.DomainRequest.{DomainRequest}
use Rattle.event_text.specs.declared.request.DomainRequest.TheVariants.{Quiet, Word, Recorded, Restart, Journal, Checkout, Burst, Commit, Settle}
use Rattle.farm_replay.specs.Kept.{KeptList}
use Rattle.farm_replay.specs.Plain.{asked_of_domain, IsOfTheFarm, RestartsIn}
use Rattle.farm_replay.specs.Answering.{AnswersAsked, HasDone}
use Rattle.farm_replay.specs.Runs.{HasGoneOn, HasRestarted, IsAsOpened}
use Rattle.farm_replay.proofs.Grown.{Changes, in_domain, committed_run, run_calls, state_at, same_part}
use Rattle.farm_replay.proofs.Running.{steps_of_the_farm}

-- ---- a commit

-- a ticket's Steps are calls for which the farm asks
steps_are_of_the_farm : (domain node count : ℕ) (last : Option Stepped)
    → All (IsOfTheFarm domain) (in_domain domain (calls_of (steps_told node count last)))
steps_are_of_the_farm domain node count None = All-from_recursion (IsOfTheFarm domain) [] tt
steps_are_of_the_farm domain node zero (Some last) = All-from_recursion (IsOfTheFarm domain) [] tt
steps_are_of_the_farm domain node (suc k) (Some last) =
    subst (All (IsOfTheFarm domain)) (sym (run_calls domain node k last)) (steps_of_the_farm domain node (suc k))

-- a domain has gone on by the Steps of a ticket that is committed
pub gone_by_commit : EachCallIsPrivate
    → (domain : ℕ) (old new : List DomainValue) (t : TicketValue) → Changes domain old new
    → IsCommittedAt t (Ok Done) (slice_get old domain) (slice_get new domain)
    → HasGoneOn domain old new
gone_by_commit law domain old new t is committed = record {
  calls = in_domain domain (calls_of (steps_told t.number t.steps t.last));
  told = replies_of (steps_told t.number t.steps t.last);
  run = committed_run law domain old new t (slice_get old domain) (slice_get new domain) is refl refl committed;
  farms = steps_are_of_the_farm domain t.number t.steps t.last;
}

-- ---- a restart

some_whole : (domains : List DomainValue) → HaveAWhole domains
    → (farm : Farm) × IsMadeOf (all_places domains) farm (all_states domains)
some_whole domains whole = (_, whole.run.ends)

as_opened : (domain : ℕ) (old new : List DomainValue) (found left : Option DomainValue)
    → all_places new ≡ all_places old → slice_get old domain ≡ found → slice_get new domain ≡ left
    → IsRestartedAt found left → IfSome left IsAsOpened
as_opened domain old new None left places there here restarted = absurd restarted
as_opened domain old new (Some d) None places there here restarted = absurd restarted
as_opened domain old new (Some d) (Some e) places there here restarted =
    restarted.state ∙ ap opening (sym (same_part domain old new d e places there here))

-- a domain that is there has restarted
pub restarts : (domain : ℕ) (old new : List DomainValue)
    → IsRestartedAt (slice_get old domain) (slice_get new domain) → OthersStay domain old new
    → all_places new ≡ all_places old → HaveAWhole new
    → HasRestarted domain old new
restarts domain old new own others places whole = record {
  places = places;
  own = as_opened domain old new (slice_get old domain) (slice_get new domain) places refl refl own;
  others = others;
  made = some_whole new whole;
}

-- the restart of a domain that isn't there changes nothing
pub restarts_nowhere : (domain : ℕ) (domains : List DomainValue) → ¬ (domain < length domains) → HaveAWhole domains
    → HasRestarted domain domains domains
restarts_nowhere domain domains absent whole = record {
  places = refl;
  own = none (slice_get domains domain) refl;
  others = λ other ne. refl;
  made = some_whole domains whole;
}
  where
    none : (found : Option DomainValue) → slice_get domains domain ≡ found → IfSome found IsAsOpened
    none None is = tt
    none (Some d) is = absurd (absent (slice_get_within domains domain d is))

-- ---- a restart of the whole farm

-- the domain that is at a place
record IsAt (domains : List DomainValue) (number : ℕ) (place : Place) : Type 0 where
  domain : DomainValue
  there : slice_get domains number ≡ Some domain
  own : own_place domain ≡ place

domain_at : (domains : List DomainValue) (plan : List Place) (number : ℕ) (place : Place) → all_places domains ≡ plan
    → slice_get plan number ≡ Some place → IsAt domains number place
domain_at domains plan number place is there = at (slice_get domains number) refl
  where
    places : option_map own_place (slice_get domains number) ≡ Some place
    places = sym (slice_get-map own_place domains number) ∙ ap (λ (ps : List Place). slice_get ps number) is ∙ there

    at : (found : Option DomainValue) → slice_get domains number ≡ found → IsAt domains number place
    at None here = absurd (none-some place (sym (ap (option_map own_place) here) ∙ places))
    at (Some d) here = record {
      domain = d;
      there = here;
      own = same_Some _ _ (sym (ap (option_map own_place) here) ∙ places);
    }

-- of whole farms that are made of the domains before and after a restart, the domain has restarted
pub restarts_in : (plan : List Place) (domain : ℕ) (before after : Farm) (old new : List DomainValue)
    → all_places new ≡ plan → IsMadeOf plan before (all_states old) → IsMadeOf plan after (all_states new)
    → HasRestarted domain old new → RestartsIn plan domain before after
restarts_in plan domain before after old new places made then shows = record {
  own = λ place there.
      let found = domain_at new plan domain place places there in
      let opened : IsAsOpened found.domain =
      subst (λ (it : Option DomainValue). IfSome it IsAsOpened) found.there shows.own in
      then.each domain place (state_of found.domain) there (state_at new domain found.domain found.there) ∙ opened
      ∙ ap (λ (p : Place). opening p.part) found.own;
  others = λ other place ne there.
      let found = domain_at new plan other place places there in
      then.each other place (state_of found.domain) there (state_at new other found.domain found.there)
      ∙ sym (made.each other place (state_of found.domain) there
      (state_at old other found.domain (sym (shows.others other ne) ∙ found.there)));
  within = then.within;
  free = then.free;
}

-- ---- a request

-- what is asked of a domain beside events adds no answer to events
pub answers_done : (plan : List Place) (domain : ℕ) (request : DomainRequest) (old new : List DomainValue)
    (l kept : KeptList)
    → HasDone (asked_of_domain domain request) old new
    → AnswersAsked plan (asked_of_domain domain request) old new l kept
answers_done plan domain Quiet old new l kept done = done
answers_done plan domain (Word output) old new l kept done = done
answers_done plan domain Recorded old new l kept done = done
answers_done plan domain Restart old new l kept done = done
answers_done plan domain Journal old new l kept done = done
answers_done plan domain (Checkout node) old new l kept done = done
answers_done plan domain (Burst ticket steps) old new l kept done = done
answers_done plan domain (Commit ticket) old new l kept done = done
answers_done plan domain (Settle quantum rounds) old new l kept done = done
