-- How a list of answers goes on with the domains of a farm.
use Rattle.std.specs.Prelude.{◌≡◌, ◌+◌, ◌<◌, ℕ, true, List, [], ◌∷◌, ◌++◌, map, replicate, Option, Some, None, IfSome, Ok, slice_get}
use Rattle.std.specs.List.{repeat}
use Rattle.t414_step.specs.declared.stepping.Stepped.{Stepped}
use Rattle.t414_step.specs.declared.stepping.Stepped.TheVariants.{Ran}
use Rattle.bootstrap.specs.Step.{is_quiet}
use Rattle.domain_core.specs.declared.event.By.{By}
use Rattle.domain_core.specs.declared.event.By.TheVariants.{Farm as ByTheFarm}
use Rattle.domain_core.specs.declared.event.Event.{Event}
use Rattle.domain_core.specs.declared.event.Event.TheVariants.{Step}
use Rattle.domain_core.specs.declared.event.Reply.TheVariants as reply
use Rattle.domain_core.specs.PrivateFarm.{Answer, Call}
use Rattle.domain_core.specs.Domain.{DomainValue}
use Rattle.whole_farm.specs.Places.{Place}
use Rattle.whole_farm.specs.Values.{all_states}
use Rattle.farm_core.specs.PlainFarm.{recorded_there, node_there}
use Rattle.farm_replay.specs.Kept.{KeptList, HoldsTexts}
use Rattle.farm_replay.specs.Runs.{HaveRun, HasGoneOn, HasRestarted, IsOpenedFarm}
use Rattle.farm_replay.specs.declared.bursts.DoneSteps.{DoneSteps}
use Rattle.farm_replay.specs.Plain.{Asked, Calls, Looks, Opens, Restarts, GoesOn, event_calls, answer_words}

-- a call is answered by these words
pub record ShowsCall (call : ℕ × Call) (old new : List DomainValue) (text : List ℕ) : Type 0 where
  pub answer : Answer
  pub run : HaveRun old new (call ∷ []) (answer ∷ [])
  pub words : answer_words answer ≡ Some text

-- the domain has recorded no more than before: then the domains stand for the states that they did
abbrev pub StayIfUnrecorded : ℕ → List DomainValue → List DomainValue → Type 0
StayIfUnrecorded domain old new =
    recorded_there (slice_get new domain) ≡ recorded_there (slice_get old domain)
    → all_states new ≡ all_states old

-- `count` Steps of a node for which the farm asks
abbrev pub step_calls : ℕ → ℕ → ℕ → List (ℕ × Call)
step_calls domain node count = repeat count (event_calls domain ByTheFarm (Step node ∷ []))

-- what they are answered if all but the last ran
abbrev pub steps_answers : ℕ → Stepped → List Answer
steps_answers before last = replicate before (Ok (reply.Stepped Ran)) ++ Ok (reply.Stepped last) ∷ []

-- Steps of a node were done, at most `most`, or none
abbrev pub HaveStepped : ℕ → ℕ → ℕ → Option DoneSteps → List DomainValue → List DomainValue → Type 0
HaveStepped domain node most None old new = HaveRun old new [] []
HaveStepped domain node most (Some done) old new =
    (done.before < most)
    × HaveRun old new (step_calls domain node (done.before + 1)) (steps_answers done.before done.last)

-- the node is there, and its next Step would not be recorded
abbrev pub IsAtRest : Option DomainValue → ℕ → Type 0
IsAtRest found node = IfSome (node_there found node) (λ n. is_quiet n ≡ true)

-- the list has these answers, in words
pub record HasAnswers (told : List Answer) (l : KeptList) : Type 0 where
  pub texts : List (List ℕ)
  pub words : map answer_words told ≡ map Some texts
  pub kept : HoldsTexts texts l

-- domains are called so, and a list gains the answers
pub record AnswersCalls (calls : List (ℕ × Call)) (old new : List DomainValue) (before after : KeptList)
    : Type 0 where
  pub told : List Answer
  pub run : HaveRun old new calls told
  pub gains : (earlier : List Answer) → HasAnswers earlier before → HasAnswers (earlier ++ told) after

-- an event is asked `times` times, and a list gains the answers
abbrev pub AnswersTimes : ℕ → ℕ → By → Event → List DomainValue → List DomainValue → KeptList
    → KeptList → Type 0
AnswersTimes times domain by event old new before after =
    AnswersCalls (repeat times (event_calls domain by (event ∷ []))) old new before after

-- what is asked does this to the domains, and to a list of answers
abbrev pub AnswersAsked : List Place → Asked → List DomainValue → List DomainValue → KeptList → KeptList
    → Type 0
AnswersAsked plan (Calls calls) old new before after = AnswersCalls calls old new before after
AnswersAsked plan Looks old new before after = new ≡ old
AnswersAsked plan Opens old new before after = IsOpenedFarm plan new
AnswersAsked plan (Restarts domain) old new before after = HasRestarted domain old new
AnswersAsked plan (GoesOn domain) old new before after = HasGoneOn domain old new

-- what is asked of a domain beside events does this, whatever is answered
abbrev pub HasDone : Asked → List DomainValue → List DomainValue → Type 0
HasDone (Restarts domain) old new = HasRestarted domain old new
HasDone (GoesOn domain) old new = HasGoneOn domain old new
HasDone asked old new = new ≡ old
