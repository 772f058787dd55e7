-- One domain of a list of separate domains is changed, and what this is for every whole farm made of them: the clauses
-- of `PlainFarm::apply`, `commit` and `restart`.
use Rattle.std.proofs.Common.{◌≡◌, ℕ, ◌<◌, ◌≤◌, None, Some, Result, Ok, Err, OnErr, List, length, get_or}
use Rattle.std.proofs.Common.{slice_get, slice_set, option_map, refl, sym, ap, ◌∙◌, subst}
use Rattle.std.proofs.lemmas.Option.{slice_get-map, slice_get_read, slice_get_past, get_or_from_slice_get}
use Rattle.std.proofs.lemmas.List.{map-set, set-get_or}
use Rattle.std.proofs.Math.Seq.{map-set_same}
use Rattle.domain_core.specs.declared.domain.Committed.{Committed}
use Rattle.domain_core.specs.declared.domain.Committed.TheVariants.{Done, Stale}
use Rattle.domain_core.specs.declared.event.Refusal.{Refusal}
use Rattle.domain_core.specs.declared.event.Refusal.TheVariants.{NoSuch, JournalFull, NoMemory}
use Rattle.domain_core.specs.Ticket.{TicketValue}
use Rattle.domain_core.specs.PrivateFarm.{Answer, Call, next}
use Rattle.domain_core.specs.Domain.{DomainValue, state_of, UnlessNoMemory, IsCalled}
use Rattle.whole_farm.specs.Places.{AreSeparatePlaces}
use Rattle.whole_farm.specs.Whole.{Farm, next_in, whole_next}
use Rattle.whole_farm.specs.Projection.{lowered_for}
use Rattle.whole_farm.specs.Domains.{IsMadeOf, EachCallIsPrivate}
use Rattle.whole_farm.specs.Merges.{own_place}
use Rattle.whole_farm.specs.Values.{all_places, all_states, IsMadeOfDomains}
use Rattle.farm_core.specs.PlainFarm.{OthersStay, IsCalledAt, IsCallOfEachWhole, IsCommitted}
use Rattle.farm_core.specs.PlainFarm.{IsWholeCall, IsCommittedAt, IsRestarted, IsRestartedAt}
use Rattle.farm_core.proofs.Lists.{get-set_same, get-set_other}

-- ---- one domain for another

-- a list in which one domain is in the place of another that has its part and ports
pub record Replaces (domains later : List DomainValue) (domain : ℕ) (old new : DomainValue) : Type 0 where
  pub there : slice_get domains domain ≡ Some old
  pub later_is : later ≡ slice_set domains domain new
  pub place : own_place new ≡ own_place old

-- a domain that was read below the length of the list is the one at its number
pub read_at : (items domains : List DomainValue) (i domain : ℕ) (d : DomainValue)
    → items ≡ domains → i ≡ domain → i < length items → d ≡ get_or items i d
    → slice_get domains domain ≡ Some d
read_at items domains i domain d same number within is =
    (λ k. slice_get (sym same k) (sym number k)) ∙ slice_get_read items (length items) i d refl within is

-- the same, if the number is below the length of the list of domains
pub read_there : (items domains : List DomainValue) (i domain : ℕ) (d : DomainValue)
    → items ≡ domains → i ≡ domain → domain < length domains → d ≡ get_or items i d
    → slice_get domains domain ≡ Some d
read_there items domains i domain d same number within is =
    slice_get_read domains (length domains) domain d refl within (is ∙ (λ k. get_or (same k) (number k) d))

-- there is no domain of a number that is past the end of the list
pub none_at : (items domains : List DomainValue) (i domain : ℕ)
    → items ≡ domains → i ≡ domain → length items ≤ i
    → slice_get domains domain ≡ None
none_at items domains i domain same number past =
    (λ k. slice_get (sym same k) (sym number k)) ∙ slice_get_past items i past

-- the domain at the number is the new one
pub new_at : (domains later : List DomainValue) (domain : ℕ) (old new : DomainValue)
    → Replaces domains later domain old new
    → slice_get later domain ≡ Some new
new_at domains later domain old new is =
    ap (λ ds. slice_get ds domain) is.later_is ∙ get-set_same domains domain new old is.there

-- all other domains stay
pub others_stay : (domains later : List DomainValue) (domain : ℕ) (old new : DomainValue)
    → Replaces domains later domain old new
    → OthersStay domain domains later
others_stay domains later domain old new is other ne =
    ap (λ ds. slice_get ds other) is.later_is ∙ get-set_other domains domain other new ne

-- the places of all domains stay
pub places_stay : (domains later : List DomainValue) (domain : ℕ) (old new : DomainValue)
    → Replaces domains later domain old new
    → all_places later ≡ all_places domains
places_stay domains later domain old new is =
    ap all_places is.later_is
    ∙ map-set_same own_place domains domain new old
    (is.place ∙ ap own_place (sym (get_or_from_slice_get domains domain old old is.there)))

-- separate domains stay separate
pub still_separate : (domains later : List DomainValue) (domain : ℕ) (old new : DomainValue)
    → Replaces domains later domain old new → AreSeparatePlaces (all_places domains)
    → AreSeparatePlaces (all_places later)
still_separate domains later domain old new is separate =
    subst AreSeparatePlaces (sym (places_stay domains later domain old new is)) separate

-- a domain that stays leaves all as they were
pub all_stay : (domains later : List DomainValue) (domain : ℕ) (old new : DomainValue)
    → Replaces domains later domain old new → new ≡ old
    → later ≡ domains
all_stay domains later domain old new is same =
    is.later_is ∙ ap (slice_set domains domain) (same ∙ sym (get_or_from_slice_get domains domain old old is.there))
    ∙ set-get_or domains domain old

-- the place at a domain's number is its own
pub place_at : (domains : List DomainValue) (domain : ℕ) (d : DomainValue) → slice_get domains domain ≡ Some d
    → slice_get (all_places domains) domain ≡ Some (own_place d)
place_at domains domain d at = slice_get-map own_place domains domain ∙ ap (option_map own_place) at

-- the state at a domain's number is its own
pub state_at : (domains : List DomainValue) (domain : ℕ) (d : DomainValue) → slice_get domains domain ≡ Some d
    → slice_get (all_states domains) domain ≡ Some (state_of d)
state_at domains domain d at = slice_get-map state_of domains domain ∙ ap (option_map state_of) at

-- ---- a call

-- the domain at the number is called, and answered so
pub called_at : (domains later : List DomainValue) (domain : ℕ) (old new : DomainValue) (call : Call) (told : Answer)
    → Replaces domains later domain old new
    → IsCalled call told old new
    → IsCalledAt call told (slice_get domains domain) (slice_get later domain)
called_at domains later domain old new call told is called =
    subst (λ found. IsCalledAt call told found (slice_get later domain)) (sym is.there)
    (subst (λ found. IsCalledAt call told (Some old) found) (sym (new_at domains later domain old new is)) called)

-- what holds of each answer but NoMemory, by what the domain alone says
unless_no_memory : (told : Answer) {P Q R : Type 0} → (P → Q → R) → UnlessNoMemory told P → UnlessNoMemory told Q
    → UnlessNoMemory told R
unless_no_memory (Ok reply) make given holds = make given holds
unless_no_memory (Err NoSuch) make given holds = make given holds
unless_no_memory (Err JournalFull) make given holds = make given holds
unless_no_memory (Err NoMemory) make given holds = tt

whole_call : EachCallIsPrivate
    → (domains later : List DomainValue) (domain : ℕ) (old new : DomainValue) (call : Call) (told : Answer)
    → Replaces domains later domain old new
    → AreSeparatePlaces (all_places domains)
    → told ≡ (next old.machine.part (state_of old) call).1
    → state_of new ≡ (next old.machine.part (state_of old) call).0 → IsCallOfEachWhole domain call told domains later
whole_call law domains later domain old new call told is separate answer state farm made =
    let plan = all_places domains in
    let place = place_at domains domain old is.there in
    let one =
    law plan farm (all_states domains) domain call (own_place old) (state_of old) separate made place
    (state_at domains domain old is.there) in
    let after = (whole_next plan farm (domain, call)).0 in
    let states : all_states later
    ≡ slice_set (all_states domains) domain (next old.machine.part (state_of old) call).0 =
    ap all_states is.later_is ∙ map-set state_of domains domain new
    ∙ ap (slice_set (all_states domains) domain) state in
    record {
      answer =
          answer ∙ sym one.answer ∙ ap (λ found. lowered_for found (whole_next plan farm (domain, call)).1) (sym place);
      made =
          subst (λ p. IsMadeOf p after (all_states later)) (sym (places_stay domains later domain old new is))
          (subst (IsMadeOf plan after) (sym states) one.made);
    }

-- unless memory was refused, it is this call of every whole farm that is made of the domains
pub call_of_each_whole : EachCallIsPrivate
    → (domains later : List DomainValue) (domain : ℕ) (old new : DomainValue) (call : Call) (told : Answer)
    → Replaces domains later domain old new
    → AreSeparatePlaces (all_places domains)
    → IsCalled call told old new → UnlessNoMemory told (IsCallOfEachWhole domain call told domains later)
call_of_each_whole law domains later domain old new call told is separate called =
    unless_no_memory told
    (λ answer state. whole_call law domains later domain old new call told is separate answer state) called.answer
    called.state

-- a refusal that changes nothing leaves all domains as they were
pub err_stays : (domains later : List DomainValue) (domain : ℕ) (old new : DomainValue) (told : Answer)
    → Replaces domains later domain old new
    → OnErr told (new ≡ old) → OnErr told (later ≡ domains)
err_stays domains later domain old new (Ok reply) is same = tt
err_stays domains later domain old new (Err refusal) is same = all_stay domains later domain old new is same

-- a call of a domain that isn't there is refused, and changes no whole farm
pub no_call_of_each_whole : (domains later : List DomainValue) (domain : ℕ) (call : Call)
    → slice_get domains domain ≡ None → later ≡ domains
    → IsCallOfEachWhole domain call (Err NoSuch) domains later
no_call_of_each_whole domains later domain call none same farm made =
    let plan = all_places domains in
    let nowhere : slice_get plan domain ≡ None =
    slice_get-map own_place domains domain ∙ ap (option_map own_place) none in
    subst (λ (ds : List DomainValue). IsWholeCall farm domain call (Err NoSuch) domains ds) (sym same)
    (record {
      answer = sym (ap (λ found. lowered_for found (next_in plan farm domain call found).1) nowhere);
      made =
          subst (λ (f : Farm). IsMadeOfDomains f domains)
          (sym (ap (λ found. (next_in plan farm domain call found).0) nowhere)) made;
    })

-- ---- a ticket

-- a domain keeps its place when a ticket is committed
pub place_of_committed : (t : TicketValue) (told : Result Committed Refusal) (old new : DomainValue)
    → IsCommitted t told old new
    → own_place new ≡ own_place old
place_of_committed t (Ok Done) old new is =
    let done = is.done refl in λ i. record { part = done.part i; ports = (done.switch i).ports }
place_of_committed t (Ok Stale) old new is = ap own_place (is.same (λ e. cc))
place_of_committed t (Err refusal) old new is = ap own_place (is.same (λ e. cc))

-- the ticket is committed to the domain at the number, and its caller answered so
pub committed_at : (domains later : List DomainValue) (domain : ℕ) (old new : DomainValue) (t : TicketValue)
    (told : Result Committed Refusal)
    → Replaces domains later domain old new
    → IsCommitted t told old new → IsCommittedAt t told (slice_get domains domain) (slice_get later domain)
committed_at domains later domain old new t told is committed =
    subst (λ found. IsCommittedAt t told found (slice_get later domain)) (sym is.there)
    (subst (λ found. IsCommittedAt t told (Some old) found) (sym (new_at domains later domain old new is)) committed)

-- ---- a restart

-- the domain at the number is restarted
pub restarted_at : (domains later : List DomainValue) (domain : ℕ) (old new : DomainValue)
    → Replaces domains later domain old new
    → IsRestarted old new
    → IsRestartedAt (slice_get domains domain) (slice_get later domain)
restarted_at domains later domain old new is restarted =
    subst (λ found. IsRestartedAt found (slice_get later domain)) (sym is.there)
    (subst (λ found. IsRestartedAt (Some old) found) (sym (new_at domains later domain old new is)) restarted)
