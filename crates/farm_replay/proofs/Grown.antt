-- A domain whose journal has grown, as a run of the whole farm.
use Rattle.std.proofs.Common.{◌≡◌, ◌≢◌, inl, inr, ℕ, zero, suc, ◌+◌, List, [], ◌∷◌, ◌++◌, Option, Some, None}
use Rattle.std.proofs.Common.{Result, Ok, Err, map, length, slice_get, slice_set, option_map, All, refl, sym}
use Rattle.std.proofs.Common.{ap, ◌∙◌, subst, arith}
use Rattle.std.specs.Prelude.{OnErr}
use Rattle.std.proofs.lemmas.Bool.{cases_eq}
use Rattle.std.proofs.lemmas.List.{map-append, append_cancel_left, length-append}
use Rattle.std.proofs.lemmas.List.Elements.{All-get_or}
use Rattle.std.proofs.lemmas.Option.{slice_get-map, slice_get_within, get_or_from_slice_get, none-some, same_Some}
use Rattle.plan_rules.specs.Part.{PartData}
use Rattle.t414_step.specs.declared.stepping.Stepped.{Stepped}
use Rattle.t414_step.specs.declared.stepping.Stepped.TheVariants.{Ran}
use Rattle.domain_core.specs.declared.domain.Committed.TheVariants.{Done}
use Rattle.domain_core.specs.declared.event.By.TheVariants.{Farm as ByTheFarm}
use Rattle.domain_core.specs.declared.event.Event.TheVariants.{Step}
use Rattle.domain_core.specs.declared.event.Refusal.{Refusal}
use Rattle.domain_core.specs.declared.event.Reply.{Reply}
use Rattle.domain_core.specs.declared.event.Reply.TheVariants as reply
use Rattle.domain_core.specs.PrivateFarm.{State, Call, Answer, next, answers, after, opening}
use Rattle.domain_core.specs.Domain.{DomainValue, state_of, gained, IsMeant}
use Rattle.domain_core.specs.Journal.{AnsweredCall, answered_step, expanded, calls_of, replies_of, IsHistory}
use Rattle.domain_core.specs.Journal as journal
use Rattle.domain_core.specs.Ticket as ticket
use Rattle.domain_core.specs.Ticket.{TicketValue}
use Rattle.whole_farm.specs.Places.{Place, AreSeparatePlaces}
use Rattle.whole_farm.specs.Whole.{Farm, whole_next, whole_after}
use Rattle.whole_farm.specs.Projection.{lowered_for}
use Rattle.whole_farm.specs.Domains.{IsMadeOf, EachCallIsPrivate}
use Rattle.whole_farm.specs.Laws.{caller_answers_from}
use Rattle.whole_farm.specs.Merges.{own_place}
use Rattle.whole_farm.specs.Values.{all_places, all_states}
use Rattle.farm_core.specs.PlainFarm.{recorded_there, OthersStay, IsCalledAt, IsCommittedAt}
use Rattle.farm_replay.specs.Answering.{StayIfUnrecorded, step_calls, steps_answers}
use Rattle.farm_replay.specs.Runs.{HaveRun}

-- ---- lists

set_itself : {X : Type 0} (xs : List X) (i : ℕ) (x : X) → slice_get xs i ≡ Some x → slice_set xs i x ≡ xs
set_itself [] i x at = refl
set_itself (y ∷ xs) zero x at = ap (λ z. z ∷ xs) (sym (same_Some _ _ at))
set_itself (y ∷ xs) (suc i) x at = ap (λ zs. y ∷ zs) (set_itself xs i x at)

set_again : {X : Type 0} (xs : List X) (i : ℕ) (x y : X) → slice_set (slice_set xs i x) i y ≡ slice_set xs i y
set_again [] i x y = refl
set_again (z ∷ xs) zero x y = refl
set_again (z ∷ xs) (suc i) x y = ap (λ zs. z ∷ zs) (set_again xs i x y)

get_same : {X : Type 0} (xs : List X) (i : ℕ) (x y : X) → slice_get xs i ≡ Some y
    → slice_get (slice_set xs i x) i ≡ Some x
get_same [] i x y at = absurd (none-some y at)
get_same (z ∷ xs) zero x y at = refl
get_same (z ∷ xs) (suc i) x y at = get_same xs i x y at

get_other : {X : Type 0} (xs : List X) (i j : ℕ) (x : X) → j ≢ i → slice_get (slice_set xs i x) j ≡ slice_get xs j
get_other [] i j x ne = refl
get_other (z ∷ xs) zero zero x ne = absurd (ne refl)
get_other (z ∷ xs) zero (suc j) x ne = refl
get_other (z ∷ xs) (suc i) zero x ne = refl
get_other (z ∷ xs) (suc i) (suc j) x ne = get_other xs i j x (λ e. ne (ap suc e))

same_lists : {X : Type 0} (xs ys : List X) → ((i : ℕ) → slice_get xs i ≡ slice_get ys i) → xs ≡ ys
same_lists [] [] same = refl
same_lists [] (y ∷ ys) same = absurd (none-some y (same zero))
same_lists (x ∷ xs) [] same = absurd (none-some x (sym (same zero)))
same_lists (x ∷ xs) (y ∷ ys) same =
    let head : x ≡ y = same_Some _ _ (same zero) in
    let tail : xs ≡ ys = same_lists xs ys (λ i. same (suc i)) in
    λ k. head k ∷ tail k

no_more : {X : Type 0} (xs : List X) (n : ℕ) → n + length xs ≡ n → xs ≡ []
no_more [] n same = refl
no_more (x ∷ xs) n same = absurd (omega (arith, same))

-- ---- alone

after_both : (part : PartData) (s : State) (xs ys : List Call)
    → after part s (xs ++ ys) ≡ after part (after part s xs) ys
after_both part s [] ys = refl
after_both part s (x ∷ xs) ys = after_both part (next part s x).0 xs ys

answers_both : (part : PartData) (s : State) (xs ys : List Call)
    → answers part s (xs ++ ys) ≡ answers part s xs ++ answers part (after part s xs) ys
answers_both part s [] ys = refl
answers_both part s (x ∷ xs) ys =
    ap (λ (rest : List Answer). (next part s x).1 ∷ rest) (answers_both part (next part s x).0 xs ys)

-- a farm that holds the domain alone answers so what the journal has gained, and ends so
record GoesOn (d e : DomainValue) (more : List AnsweredCall) : Type 0 where
  told : answers d.machine.part (state_of d) (calls_of more) ≡ replies_of more
  left : after d.machine.part (state_of d) (calls_of more) ≡ state_of e

goes_on : (d e : DomainValue) (more : List AnsweredCall)
    → IsMeant d → IsMeant e → e.machine.part ≡ d.machine.part → expanded e.journal ≡ expanded d.journal ++ more
    → GoesOn d e more
goes_on d e more before now part grown =
    let P = d.machine.part in
    let J = expanded d.journal in
    let one : IsHistory e.machine.part (J ++ more) (state_of e) =
    subst (λ (h : List AnsweredCall). IsHistory e.machine.part h (state_of e)) grown now.history in
    let history : IsHistory P (J ++ more) (state_of e) =
    subst (λ (x : PartData). IsHistory x (J ++ more) (state_of e)) part one in
    let calls : calls_of (J ++ more) ≡ calls_of J ++ calls_of more = map-append (λ (a : AnsweredCall). a.call) J more in
    let replies : replies_of (J ++ more) ≡ replies_of J ++ replies_of more =
    map-append (λ (a : AnsweredCall). let r : Answer = Ok a.reply in r) J more in
    record {
      told = append_cancel_left (replies_of J) (answers P (state_of d) (calls_of more)) (replies_of more)
          ((λ i. sym before.history.replies i ++ answers P (sym before.history.state i) (calls_of more))
          ∙ sym (answers_both P (opening P) (calls_of J) (calls_of more))
          ∙ ap (answers P (opening P)) (sym calls) ∙ history.replies ∙ replies);
      left =
          ap (λ (s : State). after P s (calls_of more)) (sym before.history.state)
          ∙ sym (after_both P (opening P) (calls_of J) (calls_of more))
          ∙ ap (after P (opening P)) (sym calls) ∙ history.state;
    }

-- ---- the whole farm

-- calls of one domain
abbrev pub in_domain : ℕ → List Call → List (ℕ × Call)
in_domain domain calls = map (λ call. (domain, call)) calls

-- the whole farm answers them as the domain alone does, which becomes what it would become alone
record IsOwnRun (plan : List Place) (farm : Farm) (states : List State) (domain : ℕ) (place : Place) (s : State)
    (calls : List Call) : Type 0 where
  told : caller_answers_from plan farm (in_domain domain calls) ≡ answers place.part s calls
  made : IsMadeOf plan (whole_after plan farm (in_domain domain calls))
      (slice_set states domain (after place.part s calls))

own_run : EachCallIsPrivate
    → (plan : List Place) (farm : Farm) (states : List State) (domain : ℕ) (place : Place) (s : State)
    (calls : List Call)
    → AreSeparatePlaces plan
    → IsMadeOf plan farm states → slice_get plan domain ≡ Some place → slice_get states domain ≡ Some s
    → IsOwnRun plan farm states domain place s calls
own_run law plan farm states domain place s [] separate made there at =
    record { told = refl; made = subst (IsMadeOf plan farm) (sym (set_itself states domain s at)) made }
own_run law plan farm states domain place s (call ∷ calls) separate made there at =
    let one = law plan farm states domain call place s separate made there at in
    let then : State = (next place.part s call).0 in
    let on : Farm = (whole_next plan farm (domain, call)).0 in
    let rest =
    own_run law plan on (slice_set states domain then) domain place
    then calls separate one.made there (get_same states domain then s at) in
    let answer = ap (λ found. lowered_for found (whole_next plan farm (domain, call)).1) there ∙ one.answer in
    record {
      told = λ i. answer i ∷ rest.told i;
      made =
          subst (IsMadeOf plan (whole_after plan on (in_domain domain calls)))
          (set_again states domain then (after place.part then calls)) rest.made;
    }

-- ---- the domains of a farm

meant_at : (domains : List DomainValue) (domain : ℕ) (d : DomainValue)
    → All IsMeant domains → slice_get domains domain ≡ Some d
    → IsMeant d
meant_at domains domain d all at =
    subst IsMeant (get_or_from_slice_get domains domain d d at)
    (All-get_or IsMeant domains domain d (slice_get_within domains domain d at) all)

place_at : (domains : List DomainValue) (domain : ℕ) (d : DomainValue) → slice_get domains domain ≡ Some d
    → slice_get (all_places domains) domain ≡ Some (own_place d)
place_at domains domain d at = slice_get-map own_place domains domain ∙ ap (option_map own_place) at

-- what the domain of a number stands for
pub state_at : (domains : List DomainValue) (domain : ℕ) (d : DomainValue) → slice_get domains domain ≡ Some d
    → slice_get (all_states domains) domain ≡ Some (state_of d)
state_at domains domain d at = slice_get-map state_of domains domain ∙ ap (option_map state_of) at

-- a domain keeps its part if the places stay
pub same_part : (domain : ℕ) (old new : List DomainValue) (d e : DomainValue)
    → all_places new ≡ all_places old → slice_get old domain ≡ Some d → slice_get new domain ≡ Some e
    → e.machine.part ≡ d.machine.part
same_part domain old new d e places there here =
    ap (λ (p : Place). p.part)
    (same_Some _ _
    (sym (place_at new domain e here) ∙ ap (λ ps. slice_get ps domain) places ∙ place_at old domain d there))

new_states : (domain : ℕ) (old new : List DomainValue) (d e : DomainValue)
    → OthersStay domain old new → slice_get old domain ≡ Some d
    → slice_get new domain ≡ Some e
    → all_states new ≡ slice_set (all_states old) domain (state_of e)
new_states domain old new d e others there here =
    same_lists (all_states new) (slice_set (all_states old) domain (state_of e)) each
  where
    each : (i : ℕ) → slice_get (all_states new) i ≡ slice_get (slice_set (all_states old) domain (state_of e)) i
    each i = elim (cases_eq i domain) [
      | inl same ↦
          ap (slice_get (all_states new)) same ∙ state_at new domain e here
          ∙ sym (get_same (all_states old) domain (state_of e) (state_of d) (state_at old domain d there))
          ∙ ap (slice_get (slice_set (all_states old) domain (state_of e))) (sym same)
      | inr ne ↦
          slice_get-map state_of new i ∙ ap (option_map state_of) (others i ne) ∙ sym (slice_get-map state_of old i)
          ∙ sym (get_other (all_states old) domain i (state_of e) ne)
    ]

-- what the contracts of a call that changes one domain say of all of them
pub record Changes (domain : ℕ) (old new : List DomainValue) : Type 0 where
  pub separate : AreSeparatePlaces (all_places old)
  pub before : All IsMeant old
  pub now : All IsMeant new
  pub places : all_places new ≡ all_places old
  pub others : OthersStay domain old new

-- the domain answers what its journal gains
gained_run : EachCallIsPrivate
    → (domain : ℕ) (old new : List DomainValue) (d e : DomainValue) (more : List AnsweredCall) → Changes domain old new
    → slice_get old domain ≡ Some d
    → slice_get new domain ≡ Some e
    → expanded e.journal ≡ expanded d.journal ++ more
    → HaveRun old new (in_domain domain (calls_of more)) (replies_of more)
gained_run law domain old new d e more is there here grown =
    let on =
    goes_on d e more (meant_at old domain d is.before there) (meant_at new domain e is.now here)
    (same_part domain old new d e is.places there here) grown in
    let states : slice_set (all_states old) domain (after d.machine.part (state_of d) (calls_of more))
    ≡ all_states new =
    ap (slice_set (all_states old) domain) on.left ∙ sym (new_states domain old new d e is.others there here) in
    record {
      places = is.places;
      each = λ farm made.
          let run =
          own_run law (all_places old) farm (all_states old) domain (own_place d) (state_of d) (calls_of more)
          is.separate
          made (place_at old domain d there) (state_at old domain d there) in
          record {
            told_is = sym (run.told ∙ on.told);
            made =
                subst (IsMadeOf (all_places old) (whole_after (all_places old) farm (in_domain domain (calls_of more))))
                states run.made;
          };
    }

-- ---- a ticket

-- the Steps of a committed ticket are a run of the whole farm
pub committed_run : EachCallIsPrivate
    → (domain : ℕ) (old new : List DomainValue) (t : TicketValue) (found left : Option DomainValue)
    → Changes domain old new → slice_get old domain ≡ found
    → slice_get new domain ≡ left
    → IsCommittedAt t (Ok Done) found left
    → HaveRun old new (in_domain domain (calls_of (ticket.steps_told t.number t.steps t.last)))
    (replies_of (ticket.steps_told t.number t.steps t.last))
committed_run law domain old new t None left is there here committed = absurd cc
committed_run law domain old new t (Some d) None is there here committed = absurd committed
committed_run law domain old new t (Some d) (Some e) is there here committed =
    gained_run law domain old new d e (ticket.steps_told t.number t.steps t.last) is there here
    (committed.done refl).journal

-- that many Steps as calls, and what they are answered
pub run_calls : (domain node k : ℕ) (last : Stepped)
    → in_domain domain (calls_of (journal.steps ByTheFarm node (suc k) last)) ≡ step_calls domain node (suc k)
run_calls domain node zero last = refl
run_calls domain node (suc k) last =
    ap (λ (rest : List (ℕ × Call)). (domain, record { by = ByTheFarm; event = Step node }) ∷ rest)
    (run_calls domain node k last)

run_replies : (node k : ℕ) (last : Stepped)
    → replies_of (journal.steps ByTheFarm node (suc k) last) ≡ steps_answers k last
run_replies node zero last = refl
run_replies node (suc k) last =
    ap (λ (rest : List Answer). let a : Answer = Ok (reply.Stepped Ran) in a ∷ rest) (run_replies node k last)

-- a committed ticket's Steps are a run of the whole farm: that many Steps of its node, and the last was
-- answered so
pub steps_run : EachCallIsPrivate
    → (domain node before : ℕ) (last : Stepped) (old new : List DomainValue) (t : TicketValue) → Changes domain old new
    → IsCommittedAt t (Ok Done) (slice_get old domain) (slice_get new domain)
    → t.number ≡ node → t.steps ≡ before + 1 → t.last ≡ Some last
    → HaveRun old new (step_calls domain node (before + 1)) (steps_answers before last)
steps_run law domain node before last old new t is committed number steps answer =
    let one : before + 1 ≡ suc before = omega arith in
    let count : t.steps ≡ suc before = steps ∙ one in
    let told : ticket.steps_told t.number t.steps t.last ≡ journal.steps ByTheFarm node (suc before) last =
    λ i. ticket.steps_told (number i) (count i) (answer i) in
    let calls : in_domain domain (calls_of (ticket.steps_told t.number t.steps t.last))
    ≡ step_calls domain node (before + 1) =
    ap (λ (more : List AnsweredCall). in_domain domain (calls_of more)) told ∙ run_calls domain node before last
    ∙ ap (step_calls domain node) (sym one) in
    let replies : replies_of (ticket.steps_told t.number t.steps t.last) ≡ steps_answers before last =
    ap replies_of told ∙ run_replies node before last in
    subst (λ (asked : List (ℕ × Call)). HaveRun old new asked (steps_answers before last)) calls
    (subst (λ (answers : List Answer).
    HaveRun old new (in_domain domain (calls_of (ticket.steps_told t.number t.steps t.last))) answers)
    replies
    (committed_run law domain old new t (slice_get old domain) (slice_get new domain) is refl refl committed))

-- no Steps are answered as none
pub none_told : (node count : ℕ) (last : Option Stepped) → count ≡ 0 → ticket.steps_told node count last ≡ []
none_told node count None none = refl
none_told node count (Some last) none = ap (λ (n : ℕ). journal.steps ByTheFarm node n last) none

-- a ticket without Steps
pub no_steps_run : EachCallIsPrivate → (domain : ℕ) (old new : List DomainValue) (t : TicketValue)
    → Changes domain old new
    → IsCommittedAt t (Ok Done) (slice_get old domain) (slice_get new domain)
    → ticket.steps_told t.number t.steps t.last ≡ [] → HaveRun old new [] []
no_steps_run law domain old new t is committed none =
    subst (λ (more : List AnsweredCall). HaveRun old new (in_domain domain (calls_of more)) (replies_of more)) none
    (committed_run law domain old new t (slice_get old domain) (slice_get new domain) is refl refl committed)

-- ---- what isn't recorded

unrecorded-by : (domain : ℕ) (call : Call) (told : Reply) (old new : List DomainValue) (found left : Option DomainValue)
    → Changes domain old new → slice_get old domain ≡ found
    → slice_get new domain ≡ left
    → IsCalledAt call (Ok told) found left → recorded_there left ≡ recorded_there found
    → all_states new ≡ all_states old
unrecorded-by domain call told old new None left is there here called same = absurd cc
unrecorded-by domain call told old new (Some d) None is there here called same = absurd called
unrecorded-by domain call told old new (Some d) (Some e) is there here called same =
    let more = gained d.machine.part (state_of d) call (Ok told) in
    let count : length (expanded d.journal) + length more ≡ length (expanded d.journal) =
    sym (ap length called.journal ∙ length-append (expanded d.journal) more) ∙ same_Some _ _ same in
    let on =
    goes_on d e [] (meant_at old domain d is.before there) (meant_at new domain e is.now here)
    (same_part domain old new d e is.places there here)
    (called.journal
    ∙ ap (λ (xs : List AnsweredCall). expanded d.journal ++ xs) (no_more more (length (expanded d.journal)) count)) in
    new_states domain old new d e is.others there here ∙ ap (slice_set (all_states old) domain) (sym on.left)
    ∙ set_itself (all_states old) domain (state_of d) (state_at old domain d there)

-- a call that the domain doesn't record leaves what the domains stand for
pub unrecorded_stays : (domain : ℕ) (call : Call) (told : Result Reply Refusal) (old new : List DomainValue)
    → Changes domain old new
    → IsCalledAt call told (slice_get old domain) (slice_get new domain)
    → OnErr told (new ≡ old) → StayIfUnrecorded domain old new
unrecorded_stays domain call (Ok told) old new is called err same =
    unrecorded-by domain call told old new (slice_get old domain) (slice_get new domain) is refl refl called same
unrecorded_stays domain call (Err refusal) old new is called err same = ap all_states err
