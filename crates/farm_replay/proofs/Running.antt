-- Runs of calls, one after another, and the answers that a list gains by them.
use Rattle.std.proofs.Common.{rules, arith, ◌≡◌, ◌+◌, ◌<◌, ℕ, zero, suc, List, [], ◌∷◌, ◌++◌, All, map, replicate, true, false}
use Rattle.std.proofs.Common.{eqb, Option, Some, None, add-one, Ok, Err, Result, OnOk, refl, sym, ap, ◌∙◌, subst}
use Rattle.std.proofs.Common.{append_assoc, take, get_or, length}
use Rattle.std.proofs.lemmas.Bool.{eqb-true}
use Rattle.std.proofs.lemmas.List.{map-append, take_more}
use Rattle.std.proofs.lemmas.List.Elements.{All-append, All-from_recursion}
use Rattle.domain_core.specs.declared.event.By.{By}
use Rattle.domain_core.specs.declared.event.By.TheVariants.{Farm as ByTheFarm}
use Rattle.domain_core.specs.declared.event.Event.{Event}
use Rattle.domain_core.specs.declared.event.Event.TheVariants.{Step}
use Rattle.std.specs.List.{repeat}
use Rattle.std.specs.Option.{option_eq}
use Rattle.t414_step.specs.declared.stepping.Stepped.{Stepped}
use Rattle.t414_step.specs.declared.stepping.Stepped.TheVariants.{Ran}
use Rattle.answer_text.specs.Replies.{stepped_text}
use Rattle.domain_core.specs.declared.event.Refusal.TheVariants.{NoSuch, JournalFull, NoMemory}
use Rattle.domain_core.specs.declared.event.Reply.TheVariants as reply
use Rattle.domain_core.specs.Commands.{is_command}
use Rattle.domain_core.specs.PrivateFarm.{Call, Answer}
use Rattle.domain_core.specs.Domain.{UnlessNoMemory, DomainValue}
use Rattle.whole_farm.specs.Whole.{Farm, whole_after, whole_next}
use Rattle.whole_farm.specs.Domains.{IsMadeOf}
use Rattle.whole_farm.specs.Laws.{RunsAddUp}
use Rattle.whole_farm.specs.Places.{Place}
use Rattle.whole_farm.specs.Values.{all_places, all_states}
use Rattle.farm_core.specs.PlainFarm.{IsCallOfEachWhole}
use Rattle.farm_replay.specs.Kept.{KeptList, HoldsTexts}
use Rattle.farm_replay.specs.Listing.{IsListing}
use Rattle.farm_replay.specs.Plain.{Asked, Calls, Looks, Opens, Restarts, GoesOn, IsOfTheFarm}
use Rattle.farm_replay.specs.Plain.{asked_once, asked_times, answer_words, event_calls}
use Rattle.event_text.specs.declared.request.Request.{Request}
use Rattle.event_text.specs.declared.request.Request.TheVariants.{Words, Reopen, Events, Domain}
use Rattle.event_text.specs.Requests.{AsksOnly}
use Rattle.farm_replay.specs.declared.bursts.DoneSteps.{DoneSteps}
use Rattle.farm_replay.specs.Answering.{HaveStepped, ShowsCall, step_calls, steps_answers}
use Rattle.farm_replay.specs.Answering.{HasAnswers, AnswersCalls, AnswersAsked}
use Rattle.farm_replay.specs.Runs.{IsRunTo, HaveRun, HasGoneOn, HasRestarted, ShowsRun, ShowsAsked}

-- ---- runs

no_calls : (domains : List DomainValue) → HaveRun domains domains [] []
no_calls domains = record { places = refl; each = λ farm made. record { told_is = refl; made = made } }

one_call : (domain : ℕ) (call : Call) (told : Answer) (old new : List DomainValue)
    → IsCallOfEachWhole domain call told old new
    → all_places new ≡ all_places old
    → HaveRun old new ((domain, call) ∷ []) (told ∷ [])
one_call domain call told old new is places = record {
  places = places;
  each = λ farm made. record {
    told_is = ap (λ (a : Answer). a ∷ []) (is farm made).answer;
    made =
        subst (λ p. IsMadeOf p (whole_next (all_places old) farm (domain, call)).0 (all_states new)) places
        (is farm made).made;
  };
}

more_calls : RunsAddUp → (domains other_domains third_domains : List DomainValue) (calls later : List (ℕ × Call))
    (told after : List Answer)
    → HaveRun domains other_domains calls told
    → HaveRun other_domains third_domains later after
    → HaveRun domains third_domains (calls ++ later) (told ++ after)
more_calls law domains other_domains third_domains calls later told after one two = record {
  places = two.places ∙ one.places;
  each = λ farm made.
      let plan = all_places domains in
      let first = one.each farm made in
      let half : Farm = whole_after plan farm calls in
      let then =
      subst (λ p. IsRunTo p half later after third_domains) one.places
      (two.each half (subst (λ p. IsMadeOf p half (all_states other_domains)) (sym one.places) first.made)) in
      let both = law plan farm calls later in
      record {
        told_is = (λ i. first.told_is i ++ then.told_is i) ∙ sym both.told;
        made = subst (λ f. IsMadeOf plan f (all_states third_domains)) (sym both.left) then.made;
      };
}

-- a call of the farm, unless memory runs out
pub asked_call : (domain : ℕ) (call : Call) (told : Answer) (old new : List DomainValue)
    → UnlessNoMemory told (IsCallOfEachWhole domain call told old new)
    → all_places new ≡ all_places old → UnlessNoMemory told (HaveRun old new ((domain, call) ∷ []) (told ∷ []))
asked_call domain call (Ok reply) old new is places = one_call domain call (Ok reply) old new is places
asked_call domain call (Err NoSuch) old new is places = one_call domain call (Err NoSuch) old new is places
asked_call domain call (Err JournalFull) old new is places = one_call domain call (Err JournalFull) old new is places
asked_call domain call (Err NoMemory) old new is places = tt

-- ---- what the farm does of its own

-- domains that stay have gone on, by no call
pub gone_nowhere : (domain : ℕ) (domains : List DomainValue) → HasGoneOn domain domains domains
gone_nowhere domain domains =
    record { calls = []; told = []; run = no_calls domains; farms = All-from_recursion (IsOfTheFarm domain) [] tt }

-- a domain that has gone on twice has gone on
pub gone_further : RunsAddUp → (domain : ℕ) (domains other_domains third_domains : List DomainValue)
    → HasGoneOn domain domains other_domains → HasGoneOn domain other_domains third_domains
    → HasGoneOn domain domains third_domains
gone_further law domain domains other_domains third_domains one two = record {
  calls = one.calls ++ two.calls;
  told = one.told ++ two.told;
  run = more_calls law domains other_domains third_domains one.calls two.calls one.told two.told one.run two.run;
  farms = All-append (IsOfTheFarm domain) one.calls two.calls one.farms two.farms;
}

call_of_the_farm : (domain : ℕ) (event : Event) → is_command event ≡ false
    → All (IsOfTheFarm domain) ((domain, record { by = ByTheFarm; event = event }) ∷ [])
call_of_the_farm domain event own =
    let call : ℕ × Call = (domain, record { by = ByTheFarm; event = event }) in
    let one : IsOfTheFarm domain call = (refl, refl, own) in
    All-from_recursion (IsOfTheFarm domain) (call ∷ []) (one, tt)

-- for Steps of a node the farm asks
pub steps_of_the_farm : (domain node count : ℕ) → All (IsOfTheFarm domain) (step_calls domain node count)
steps_of_the_farm domain node zero = All-from_recursion (IsOfTheFarm domain) [] tt
steps_of_the_farm domain node (suc n) =
    All-append (IsOfTheFarm domain) ((domain, record { by = ByTheFarm; event = Step node }) ∷ [])
    (step_calls domain node n) (call_of_the_farm domain (Step node) refl)
    (steps_of_the_farm domain node n)

-- a domain has gone on by the Steps of a node
pub gone_by_steps : (domain node most : ℕ) (done : Option DoneSteps) (old new : List DomainValue)
    → HaveStepped domain node most done old new
    → HasGoneOn domain old new
gone_by_steps domain node most None old new stepped =
    record { calls = []; told = []; run = stepped; farms = All-from_recursion (IsOfTheFarm domain) [] tt }
gone_by_steps domain node most (Some done) old new stepped = record {
  calls = step_calls domain node (done.before + 1);
  told = steps_answers done.before done.last;
  run = stepped.1;
  farms = steps_of_the_farm domain node (done.before + 1);
}

-- a domain has gone on by a Step or a Move for which the farm asked, whatever it was answered
pub gone_by_call : (domain : ℕ) (event : Event) (told : Answer) (old new : List DomainValue)
    → is_command event ≡ false
    → HaveRun old new ((domain, record { by = ByTheFarm; event = event }) ∷ []) (told ∷ [])
    → HasGoneOn domain old new
gone_by_call domain event told old new own run = record {
  calls = (domain, record { by = ByTheFarm; event = event }) ∷ [];
  told = told ∷ [];
  run = run;
  farms = call_of_the_farm domain event own;
}

-- a domain that has gone on has done so if nothing changes then
pub gone_still : (domain : ℕ) (domains other_domains third_domains : List DomainValue)
    → HasGoneOn domain domains other_domains → third_domains ≡ other_domains → HasGoneOn domain domains third_domains
gone_still domain domains other_domains third_domains gone same = subst (HasGoneOn domain domains) (sym same) gone

-- a domain that has gone on, and then from equal domains, has gone on
pub gone_on_from : RunsAddUp → (domain : ℕ) (domains other_domains same third_domains : List DomainValue)
    → HasGoneOn domain domains other_domains → same ≡ other_domains
    → HasGoneOn domain same third_domains
    → HasGoneOn domain domains third_domains
gone_on_from law domain domains other_domains same third_domains one is two =
    gone_further law domain domains other_domains third_domains one
    (subst (λ (d : List DomainValue). HasGoneOn domain d third_domains) is two)

-- a request for one event asks one call
pub one_asked : (request : Request) (domain : ℕ) (by : By) (event : Event) → AsksOnly domain by event request
    → asked_once request ≡ Calls (event_calls domain by (event ∷ []))
one_asked Words domain by event only = absurd only
one_asked Reopen domain by event only = absurd only
one_asked (Events d b events) domain by event only = λ i. Calls (event_calls (only.0 i) (only.1 i) (only.2 i))
one_asked (Domain d request) domain by event only = absurd only

-- ---- answers in a list

one_more_answer : (told : List Answer) (answer : Answer) (text : List ℕ) (l kept : KeptList) → HasAnswers told l
    → answer_words answer ≡ Some text
    → ((texts : List (List ℕ)) → HoldsTexts texts l → HoldsTexts (texts ++ text ∷ []) kept)
    → HasAnswers (told ++ answer ∷ []) kept
one_more_answer told answer text l other_kept has words more = record {
  texts = has.texts ++ text ∷ [];
  words =
      map-append answer_words told (answer ∷ []) ∙ (λ i. has.words i ++ words i ∷ [])
      ∙ sym (map-append (λ (t : List ℕ). Some t) has.texts (text ∷ []));
  kept = more has.texts has.kept;
}

-- many answers of the same words
many_words : (n : ℕ) (answer : Answer) (text : List ℕ) → answer_words answer ≡ Some text
    → map answer_words (replicate n answer) ≡ map Some (replicate n text)
many_words zero answer text words = refl
many_words (suc n) answer text words = λ i. words i ∷ many_words n answer text words i

many_more_answers : (told : List Answer) (n : ℕ) (answer : Answer) (text : List ℕ) (l kept : KeptList)
    → HasAnswers told l
    → answer_words answer ≡ Some text
    → ((texts : List (List ℕ)) → HoldsTexts texts l → HoldsTexts (texts ++ replicate n text) kept)
    → HasAnswers (told ++ replicate n answer) kept
many_more_answers told n answer text l other_kept has words more = record {
  texts = has.texts ++ replicate n text;
  words =
      map-append answer_words told (replicate n answer) ∙ (λ i. has.words i ++ many_words n answer text words i)
      ∙ sym (map-append (λ (t : List ℕ). Some t) has.texts (replicate n text));
  kept = more has.texts has.kept;
}

-- no call changes nothing, and adds no answer
pub answers_nothing : (domains : List DomainValue) (l : KeptList) → AnswersCalls [] domains domains l l
answers_nothing domains l =
    record {
      told = [];
      run = no_calls domains;
      gains = λ earlier has. subst (λ ts. HasAnswers ts l) (sym (append_none earlier)) has;
    }
  where
    append_none : (xs : List Answer) → xs ++ [] ≡ xs
    append_none [] = refl
    append_none (x ∷ xs) = ap (λ ys. x ∷ ys) (append_none xs)

-- calls and then others are all of them, and a list gains the answers of both
pub answers_more : RunsAddUp → (domains other_domains third_domains : List DomainValue) (kept l other_kept : KeptList)
    (calls later : List (ℕ × Call))
    → AnswersCalls calls domains other_domains kept l
    → AnswersCalls later other_domains third_domains l other_kept
    → AnswersCalls (calls ++ later) domains third_domains kept other_kept
answers_more law domains other_domains third_domains kept l other_kept calls later one two = record {
  told = one.told ++ two.told;
  run = more_calls law domains other_domains third_domains calls later one.told two.told one.run two.run;
  gains =
      λ earlier has.
      subst (λ ts. HasAnswers ts other_kept) (append_assoc earlier one.told two.told)
      (two.gains (earlier ++ one.told) (one.gains earlier has));
}

-- a call that shows a text adds it to a list
pub answers_call : (call : ℕ × Call) (old new : List DomainValue) (text : List ℕ) (l kept : KeptList)
    → ShowsCall call old new text
    → ((texts : List (List ℕ)) → HoldsTexts texts l → HoldsTexts (texts ++ text ∷ []) kept)
    → AnswersCalls (call ∷ []) old new l kept
answers_call call old new text l kept shows more = record {
  told = shows.answer ∷ [];
  run = shows.run;
  gains = λ earlier has. one_more_answer earlier shows.answer text l kept has shows.words more;
}

-- Steps that are done together
pub answers_steps : (domain node before : ℕ) (last : Stepped) (ran text : List ℕ) (old new : List DomainValue)
    (kept l other_kept : KeptList)
    → HaveRun old new (step_calls domain node (before + 1)) (steps_answers before last)
    → ran ≡ stepped_text Ran → text ≡ stepped_text last
    → ((texts : List (List ℕ)) → HoldsTexts texts kept → HoldsTexts (texts ++ replicate before ran) l)
    → ((texts : List (List ℕ)) → HoldsTexts texts l → HoldsTexts (texts ++ text ∷ []) other_kept)
    → AnswersCalls (step_calls domain node (before + 1)) old new kept other_kept
answers_steps domain node before last ran text old new kept l other_kept run first second many one = record {
  told = steps_answers before last;
  run = run;
  gains = λ earlier has.
      let rans : List Answer = replicate before (Ok (reply.Stepped Ran)) in
      subst (λ ts. HasAnswers ts other_kept) (append_assoc earlier rans (Ok (reply.Stepped last) ∷ []))
      (one_more_answer (earlier ++ rans) (Ok (reply.Stepped last)) text l other_kept
      (many_more_answers earlier before (Ok (reply.Stepped Ran)) ran kept l has (ap (λ t. Some t) (sym first)) many)
      (ap (λ t. Some t) (sym second)) one);
}

-- ---- a call that changes nothing

-- what was run goes on so from there
again : (domains other_domains : List DomainValue) (calls : List (ℕ × Call)) (told : List Answer)
    → HaveRun domains other_domains calls told → all_states other_domains ≡ all_states domains
    → HaveRun other_domains other_domains calls told
again domains other_domains calls told run same = record {
  places = refl;
  each = λ farm made.
      let was : IsMadeOf (all_places domains) farm (all_states domains) =
      subst (IsMadeOf (all_places domains) farm) same (subst (λ p. IsMadeOf p farm (all_states other_domains))
      run.places made) in
      subst (λ p. IsRunTo p farm calls told other_domains) (sym run.places) (run.each farm was);
}

run_alike : RunsAddUp → (domains other_domains : List DomainValue) (call : ℕ × Call) (told : Answer) (n : ℕ)
    → HaveRun domains other_domains (call ∷ []) (told ∷ [])
    → all_states other_domains ≡ all_states domains
    → HaveRun domains other_domains (repeat (suc n) (call ∷ [])) (replicate (suc n) told)
run_alike law domains other_domains call told zero run same = run
run_alike law domains other_domains call told (suc n) run same =
    more_calls law domains other_domains other_domains (call ∷ []) (repeat (suc n) (call ∷ [])) (told ∷ [])
    (replicate (suc n) told) run
    (again domains other_domains (repeat (suc n) (call ∷ [])) (replicate (suc n) told)
    (run_alike law domains other_domains call told n run same) same)

answers_alike : RunsAddUp → (call : ℕ × Call) (n : ℕ) (old new : List DomainValue) (text : List ℕ) (l kept : KeptList)
    → 0 < n → ShowsCall call old new text
    → all_states new ≡ all_states old
    → ((texts : List (List ℕ)) → HoldsTexts texts l → HoldsTexts (texts ++ replicate n text) kept)
    → AnswersCalls (repeat n (call ∷ [])) old new l kept
answers_alike law call zero old new text l kept some shows same more = absurd (omega (arith, some))
answers_alike law call (suc n) old new text l kept some shows same more = record {
  told = replicate (suc n) shows.answer;
  run = run_alike law old new call shows.answer n shows.run same;
  gains = λ earlier has. many_more_answers earlier (suc n) shows.answer text l kept has shows.words more;
}

-- a call that is answered by these words, unless memory runs out
pub shows_call : (domain : ℕ) (call : Call) (told : Answer) (old new : List DomainValue) (text : List ℕ)
    → UnlessNoMemory told (IsCallOfEachWhole domain call told old new)
    → all_places new ≡ all_places old → answer_words told ≡ Some text → ShowsCall (domain, call) old new text
shows_call domain call (Ok reply) old new text is places words =
    record { answer = Ok reply; run = one_call domain call (Ok reply) old new is places; words = words }
shows_call domain call (Err NoSuch) old new text is places words =
    record { answer = Err NoSuch; run = one_call domain call (Err NoSuch) old new is places; words = words }
shows_call domain call (Err JournalFull) old new text is places words =
    record { answer = Err JournalFull; run = one_call domain call (Err JournalFull) old new is places; words = words }
shows_call domain call (Err NoMemory) old new text is places words = absurd (search rules)

-- the line of a list that was empty
pub shows_run : (calls : List (ℕ × Call)) (old new : List DomainValue) (l kept : KeptList) (line : List ℕ)
    → AnswersCalls calls old new l kept
    → HoldsTexts [] l
    → ((texts : List (List ℕ)) → HoldsTexts texts kept → IsListing texts line) → ShowsRun calls old new line
shows_run calls old new l other_kept line answers none lists =
    let has = answers.gains [] (record { texts = []; words = refl; kept = none }) in
    record {
      told = answers.told;
      run = answers.run;
      shown = record { texts = has.texts; words = has.words; listing = lists has.texts has.kept };
    }

-- as often as it is asked
pub repeat_more : (n : ℕ) (calls : List (ℕ × Call)) → repeat (suc n) calls ≡ repeat n calls ++ calls
repeat_more zero calls = append_none calls
  where
    append_none : (xs : List (ℕ × Call)) → xs ++ [] ≡ xs
    append_none [] = refl
    append_none (x ∷ xs) = ap (λ ys. x ∷ ys) (append_none xs)
repeat_more (suc n) calls =
    ap (λ (xs : List (ℕ × Call)). calls ++ xs) (repeat_more n calls) ∙ sym (append_assoc calls (repeat n calls) calls)

repeat_both : (i j : ℕ) (calls : List (ℕ × Call)) → repeat (i + j) calls ≡ repeat i calls ++ repeat j calls
repeat_both zero j calls = let sum : zero + j ≡ j = omega arith in ap (λ n. repeat n calls) sum
repeat_both (suc i) j calls =
    let sum : suc i + j ≡ suc (i + j) = omega arith in
    ap (λ n. repeat n calls) sum ∙ ap (λ (xs : List (ℕ × Call)). calls ++ xs) (repeat_both i j calls)
    ∙ sym (append_assoc calls (repeat i calls) (repeat j calls))

-- so often, and then as often as is left
pub answers_both : RunsAddUp → (domains other_domains third_domains : List DomainValue) (kept l other_kept : KeptList)
    (calls : List (ℕ × Call)) (i j n : ℕ)
    → i + j ≡ n → AnswersCalls (repeat i calls) domains other_domains kept l
    → AnswersCalls (repeat j calls) other_domains third_domains l other_kept
    → AnswersCalls (repeat n calls) domains third_domains kept other_kept
answers_both law domains other_domains third_domains kept l other_kept calls i j n sum one two =
    subst (λ (asked : List (ℕ × Call)). AnswersCalls asked domains third_domains kept other_kept)
    (sym (repeat_both i j calls) ∙ ap (λ x. repeat x calls) sum)
    (answers_more law domains other_domains third_domains kept l other_kept (repeat i calls) (repeat j calls) one two)

-- a call that changes nothing is answered alike as often as is left
pub answers_rest : RunsAddUp
    → (domains other_domains third_domains : List DomainValue) (kept l other_kept : KeptList) (call : ℕ × Call)
    (i j n : ℕ) (text : List ℕ) → i + j ≡ n → 0 < j
    → AnswersCalls (repeat i (call ∷ [])) domains other_domains kept l
    → ShowsCall call other_domains third_domains text → all_states third_domains ≡ all_states other_domains
    → ((texts : List (List ℕ)) → HoldsTexts texts l → HoldsTexts (texts ++ replicate j text) other_kept)
    → AnswersCalls (repeat n (call ∷ [])) domains third_domains kept other_kept
answers_rest law domains other_domains third_domains kept l other_kept call i j n text sum some one shows same more =
    answers_both law domains other_domains third_domains kept l other_kept (call ∷ []) i j n sum one
    (answers_alike law call j other_domains third_domains text l other_kept some shows same more)

-- a call is answered once more
pub answers_once_more : RunsAddUp
    → (domains other_domains third_domains : List DomainValue) (kept l other_kept : KeptList) (call : ℕ × Call)
    (i : ℕ) (text : List ℕ)
    → AnswersCalls (repeat i (call ∷ [])) domains other_domains kept l
    → ShowsCall call other_domains third_domains text
    → ((texts : List (List ℕ)) → HoldsTexts texts l → HoldsTexts (texts ++ text ∷ []) other_kept)
    → AnswersCalls (repeat (i + 1) (call ∷ [])) domains third_domains kept other_kept
answers_once_more law domains other_domains third_domains kept l other_kept call i text one shows more =
    answers_both law domains other_domains third_domains kept l other_kept (call ∷ []) i 1 (i + 1) refl one
    (answers_call call other_domains third_domains text l other_kept shows more)

-- one more of the events
pub events_more : RunsAddUp
    → (domains other_domains third_domains : List DomainValue) (kept l other_kept : KeptList) (domain : ℕ) (by : By)
    (events : List Event) (index : ℕ) (other_event : Event)
    → index < length events
    → AnswersCalls (event_calls domain by (take index events)) domains other_domains kept l
    → AnswersCalls ((domain, record { by = by; event = get_or events index other_event }) ∷ []) other_domains
    third_domains l other_kept
    → AnswersCalls (event_calls domain by (take (index + 1) events)) domains third_domains kept other_kept
events_more law domains other_domains third_domains kept l other_kept domain by events index
    other_event within one two =
    let cut : take (index + 1) events ≡ take index events ++ get_or events index other_event ∷ [] =
    take_more events index other_event within in
    let calls : event_calls domain by (take (index + 1) events)
    ≡ event_calls domain by (take index events) ++ (
      domain,
      record
          { by = by; event = get_or events index other_event },
    ) ∷ [] =
    ap (event_calls domain by) cut ∙ map-append _ (take index events) (get_or events index other_event ∷ []) in
    subst (λ (asked : List (ℕ × Call)). AnswersCalls asked domains third_domains kept other_kept) (sym calls)
    (answers_more law domains other_domains third_domains kept l other_kept _ _ one two)

-- ---- a line

-- no time yet, one time more, and all times
pub no_times : (plan : List Place) (asked : Asked) (domains : List DomainValue) (l : KeptList)
    → AnswersAsked plan (asked_times 0 asked) domains domains l l
no_times plan (Calls calls) domains l = answers_nothing domains l
no_times plan Looks domains l = refl
no_times plan Opens domains l = refl
no_times plan (Restarts domain) domains l = refl
no_times plan (GoesOn domain) domains l = refl

-- a domain that was restarted and is restarted again is restarted
restarts_again : (domain : ℕ) (domains other_domains third_domains : List DomainValue)
    → HasRestarted domain domains other_domains → HasRestarted domain other_domains third_domains
    → HasRestarted domain domains third_domains
restarts_again domain domains other_domains third_domains one two = record {
  places = two.places ∙ one.places;
  own = two.own;
  others = λ other ne. two.others other ne ∙ one.others other ne;
  made = two.made;
}

-- what is asked n times, and once more, is asked n + 1 times
pub times_more : RunsAddUp → (plan : List Place) (asked : Asked) (n : ℕ)
    (domains other_domains third_domains : List DomainValue) (kept l other_kept : KeptList)
    → AnswersAsked plan (asked_times n asked) domains other_domains kept l
    → AnswersAsked plan asked other_domains third_domains l other_kept
    → AnswersAsked plan (asked_times (n + 1) asked) domains third_domains kept other_kept
times_more law plan (Calls calls) n domains other_domains third_domains kept l other_kept one two =
    let all : repeat (n + 1) calls ≡ repeat n calls ++ calls = rw add-one (repeat_more n calls) in
    subst (λ (asked : List (ℕ × Call)). AnswersCalls asked domains third_domains kept other_kept) (sym all)
    (answers_more law domains other_domains third_domains kept l other_kept (repeat n calls) calls one two)
times_more law plan Looks zero domains other_domains third_domains kept l other_kept one two = two ∙ one
times_more law plan Looks (suc n) domains other_domains third_domains kept l other_kept one two =
    rw add-one (two ∙ one)
times_more law plan Opens n domains other_domains third_domains kept l other_kept one two = rw add-one two
times_more law plan (Restarts domain) zero domains other_domains third_domains kept l other_kept one two =
    subst (λ (d : List DomainValue). HasRestarted domain d third_domains) one two
times_more law plan (Restarts domain) (suc n) domains other_domains third_domains kept l other_kept one two =
    rw add-one (restarts_again domain domains other_domains third_domains one two)
times_more law plan (GoesOn domain) zero domains other_domains third_domains kept l other_kept one two =
    subst (λ (d : List DomainValue). HasGoneOn domain d third_domains) one two
times_more law plan (GoesOn domain) (suc n) domains other_domains third_domains kept l other_kept one two =
    rw add-one (gone_further law domain domains other_domains third_domains one two)

-- what is asked n times shows the line of the list that gained its answers
pub all_times : (plan : List Place) (asked : Asked) (n : ℕ) (domains other_domains : List DomainValue)
    (l kept : KeptList) (line : List ℕ)
    → AnswersAsked plan (asked_times n asked) domains other_domains l kept
    → HoldsTexts [] l → ((texts : List (List ℕ)) → HoldsTexts texts kept → IsListing texts line)
    → ShowsAsked plan (asked_times n asked) domains other_domains line
all_times plan (Calls calls) n domains other_domains l kept line answers none lists =
    shows_run (repeat n calls) domains other_domains l kept line answers none lists
all_times plan Looks zero domains other_domains l kept line answers none lists = answers
all_times plan Looks (suc n) domains other_domains l kept line answers none lists = answers
all_times plan Opens zero domains other_domains l kept line answers none lists = answers
all_times plan Opens (suc n) domains other_domains l kept line answers none lists = answers
all_times plan (Restarts domain) zero domains other_domains l kept line answers none lists = answers
all_times plan (Restarts domain) (suc n) domains other_domains l kept line answers none lists = answers
all_times plan (GoesOn domain) zero domains other_domains l kept line answers none lists = answers
all_times plan (GoesOn domain) (suc n) domains other_domains l kept line answers none lists = answers

-- what follows of a success
pub on_ok : {T E : Type 0} (r : Result T E) {P Q : Type 0} → (P → Q) → OnOk r P → OnOk r Q
on_ok (Ok x) follows given = follows given
on_ok (Err e) follows given = given

-- counts that compare as equal
pub same_count : (number other_number : Option ℕ) → option_eq eqb number other_number ≡ true → number ≡ other_number
same_count None None same = refl
same_count None (Some n) same = absurd cc
same_count (Some m) None same = absurd cc
same_count (Some m) (Some n) same = ap (λ x. Some x) (eqb-true m n same)
