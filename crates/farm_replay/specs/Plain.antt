-- What requests ask of a farm, and the lines in which its answers to events are shown.
use Rattle.std.specs.Prelude.{◌≡◌, ◌≢◌, ℕ, zero, suc, List, [], ◌∷◌, map, Option, Some, Ok, Err, slice_get, All, ⊤, false}
use Rattle.std.specs.List.{repeat}
use Rattle.domain_core.specs.declared.event.By.{By}
use Rattle.domain_core.specs.declared.event.By.TheVariants.{Farm as ByTheFarm}
use Rattle.domain_core.specs.declared.event.Event.{Event}
use Rattle.domain_core.specs.Commands.{is_command}
use Rattle.domain_core.specs.PrivateFarm.{Answer, Call, opening}
use Rattle.plan_rules.specs.Data.{DomainData}
use Rattle.whole_farm.specs.Places.{Place, places_of}
use Rattle.whole_farm.specs.Whole.{Farm, whole_after, whole_opening}
use Rattle.whole_farm.specs.Projection.{projected}
use Rattle.whole_farm.specs.Domains.{EachDrivesItself, IsFree, output_of, disconnected_output}
use Rattle.whole_farm.specs.Laws.{caller_answers_from}
use Rattle.answer_text.specs.Replies.{reply_text, refusal_text}
use Rattle.event_text.specs.declared.request.DomainRequest.{DomainRequest}
use Rattle.event_text.specs.declared.request.DomainRequest.TheVariants.{Quiet, Word, Recorded, Restart, Journal, Checkout, Burst, Commit, Settle}
use Rattle.event_text.specs.declared.request.Request.{Request}
use Rattle.event_text.specs.declared.request.Request.TheVariants.{Words, Reopen, Events, Domain}
use Rattle.event_text.specs.declared.request.RepeatedRequest.{RepeatedRequest}
use Rattle.farm_replay.specs.Listing.{IsListing}

-- events of a domain by one asker, as calls of the whole farm
abbrev pub event_calls : ℕ → By → List Event → List (ℕ × Call)
event_calls domain by events = map (λ event. (domain, record { by = by; event = event })) events

-- what is asked: calls, one after another; what is seen of the farm or done with tickets, which changes nothing of it;
-- a fresh farm; that a domain is as it was opened; or that a domain goes on, by Steps and Moves for which the farm asks
pub data Asked : Type 0 where
  Calls : List (ℕ × Call) → Asked
  Looks : Asked
  Opens : Asked
  Restarts : ℕ → Asked
  GoesOn : ℕ → Asked

-- what is asked of a domain beside events
abbrev pub asked_of_domain : ℕ → DomainRequest → Asked
asked_of_domain domain Quiet = Looks
asked_of_domain domain (Word output) = Looks
asked_of_domain domain Recorded = Looks
asked_of_domain domain Restart = Restarts domain
asked_of_domain domain Journal = Looks
asked_of_domain domain (Checkout node) = Looks
asked_of_domain domain (Burst ticket steps) = Looks
asked_of_domain domain (Commit ticket) = GoesOn domain
asked_of_domain domain (Settle quantum rounds) = GoesOn domain

-- what a request asks
abbrev pub asked_once : Request → Asked
asked_once Words = Looks
asked_once Reopen = Opens
asked_once (Events domain by events) = Calls (event_calls domain by events.items)
asked_once (Domain domain request) = asked_of_domain domain request

-- what has the same effect however often it is asked, and none if it is asked 0 times
abbrev pub unless_never : ℕ → Asked → Asked
unless_never zero asked = Looks
unless_never (suc times) asked = asked

-- what a request asks, `times` times
abbrev pub asked_times : ℕ → Asked → Asked
asked_times times (Calls calls) = Calls (repeat times calls)
asked_times times asked = unless_never times asked

-- the same as often as the line says
abbrev pub asked_by : RepeatedRequest → Asked
asked_by r = asked_times r.times (asked_once r.request)

-- an answer in words: a reply, or a refusal
abbrev pub answer_words : Answer → Option (List ℕ)
answer_words (Ok reply) = Some (reply_text reply)
answer_words (Err refusal) = refusal_text refusal

-- the line shows these answers, in their order
pub record IsShownIn (line : List ℕ) (told : List Answer) : Type 0 where
  pub texts : List (List ℕ)
  pub words : map answer_words told ≡ map Some texts
  pub listing : IsListing texts line

-- a Step or a Move of a domain, for which the farm asks
abbrev pub IsOfTheFarm : ℕ → ℕ × Call → Type 0
IsOfTheFarm domain call = (call.0 ≡ domain) × (call.1.by ≡ ByTheFarm) × (is_command call.1.event ≡ false)

-- in the whole farm the domain, if it is in the plan, is as it was opened, and all others are as they were; no
-- connection leaves a domain, and ports of no domain are disconnected
pub record RestartsIn (plan : List Place) (domain : ℕ) (old new : Farm) : Type 0 where
  pub own : (place : Place) → slice_get plan domain ≡ Some place
      → projected place new domain ≡ opening place.part
  pub others : (other : ℕ) (place : Place) → other ≢ domain → slice_get plan other ≡ Some place
      → projected place new other ≡ projected place old other
  pub within : EachDrivesItself plan new.switch
  pub free : (port : ℕ) → IsFree plan port → output_of new.switch port ≡ disconnected_output

-- The lines that a whole farm answers: one that is asked for events shows what the farm answers to them, and the next
-- asks the farm that this one left. Nothing is said of what a line shows that asks for anything but events
abbrev pub AreLines : List Place → Farm → List Asked → List (List ℕ) → Type 0
AreLines plan farm [] [] = ⊤
AreLines plan farm (Looks ∷ asked) (line ∷ lines) = AreLines plan farm asked lines
AreLines plan farm (Opens ∷ asked) (line ∷ lines) = AreLines plan (whole_opening plan) asked lines
AreLines plan farm (Calls calls ∷ asked) (line ∷ lines) =
    IsShownIn line (caller_answers_from plan farm calls) × AreLines plan (whole_after plan farm calls) asked lines
AreLines plan farm (GoesOn domain ∷ asked) (line ∷ lines) =
    (calls : List (ℕ × Call)) × All (IsOfTheFarm domain) calls
    × AreLines plan (whole_after plan farm calls) asked lines
AreLines plan farm (Restarts domain ∷ asked) (line ∷ lines) =
    (next : Farm) × RestartsIn plan domain farm next × AreLines plan next asked lines
AreLines plan farm asked lines = ⊥

-- the same of the farm of a plan, from its opening
abbrev pub AreLinesOfPlan : List DomainData → List RepeatedRequest → List (List ℕ) → Type 0
AreLinesOfPlan plan requests lines =
    AreLines (places_of plan) (whole_opening (places_of plan)) (map asked_by requests) lines
