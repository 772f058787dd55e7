-- The whole farm is made of its domains' states, at its opening and after every call, for the laws
-- `each_call_is_private`, `each_output_is_of_its_domain` and `runs_add_up`.
use Rattle.std.proofs.Common.{◌≡◌, ◌≢◌, inl, inr, ℕ, zero, suc, Option, Some, None, List, [], ◌∷◌, slice_get, slice_set}
use Rattle.std.proofs.Common.{option_map, is_some, Contains, refl, sym, ap, ◌∙◌, subst}
use Rattle.std.proofs.lemmas.Bool.{cases_eq}
use Rattle.std.proofs.lemmas.Bool.{true≢false}
use Rattle.std.proofs.lemmas.Option.{same_Some, none-some, slice_get-map, slice_get_within}
use Rattle.std.proofs.lemmas.List.{length-set, length-map}
use Rattle.std.specs.Option.{option_and_then}
use Rattle.std.specs.Ordering.{nat_cmp}
use Rattle.std.specs.FinMap as fin
use Rattle.std.specs.FinSet as set
use Rattle.crossbar.specs.Switch.{Switch}
use Rattle.crossbar.specs.Ranges.{IsOneToOne}
use Rattle.crossbar.specs.Row.{number_among}
use Rattle.crossbar.specs.Laws.{SwitchLaws}
use Rattle.domain_core.specs.PrivateFarm.{State, Call, Answer, next, opening}
use Rattle.whole_farm.specs.Places.{Place, AreApart, AreSeparatePlaces}
use Rattle.whole_farm.specs.Messages.{raised}
use Rattle.whole_farm.specs.Whole.{Farm, next_in, whole_next, whole_after, whole_opening}
use Rattle.whole_farm.specs.Projection.{own_switch, driver_at, ready_at, projected, lowered_for}
use Rattle.whole_farm.specs.Domains.{DrivesItself, EachDrivesItself, IsFree, Output, output_of, disconnected_output}
use Rattle.whole_farm.specs.Domains.{OpeningIsMadeOfOpenings, EachCallIsPrivate, NoDomainNoChange}
use Rattle.whole_farm.specs.Domains.{EachOutputIsOfItsDomain}
use Rattle.whole_farm.specs.Laws.{RunsAddUp}
use Rattle.whole_farm.proofs.OneOutputSet.{contains_at, at_contained, get-own_switch, contains-own_switch}
use Rattle.whole_farm.proofs.Messages.{port_at}
use Rattle.whole_farm.proofs.Steps.{StepsAlone, steps_alone, other_stays, still_each_drives}
use Rattle.whole_farm.proofs.Runs.{opening_drives, opens_alone}

-- ---- a port of no domain

-- seen as a domain of one port
alone-is : (port other : ℕ) → Contains (port ∷ []) other → other ≡ port
alone-is port other is =
    let at = at_contained (port ∷ []) other is in only (at.0) at.1
  where
    only : (v : ℕ) → slice_get (port ∷ []) v ≡ Some other → other ≡ port
    only zero at = sym (same_Some _ _ at)
    only (suc v) at = absurd (none-some other at)

ready-of_one : SwitchLaws → (port : ℕ) (s : Switch)
    → set.contains (own_switch (port ∷ []) s).ready 0 ≡ set.contains s.ready port
ready-of_one laws port s = contains-own_switch laws (port ∷ []) s 0

driver-of_one : SwitchLaws → (port : ℕ) (s : Switch)
    → fin.get (own_switch (port ∷ []) s).pairs 0 ≡ option_and_then (number_among (port ∷ [])) (fin.get s.pairs port)
driver-of_one laws port s = get-own_switch laws (port ∷ []) s 0

no-driver : SwitchLaws → (port : ℕ) (found : Option ℕ) → ((input : ℕ) → found ≡ Some input → Contains (port ∷ []) input)
    → option_and_then (number_among (port ∷ [])) found ≡ None
    → found ≡ None
no-driver laws port None own none = refl
no-driver laws port (Some input) own none =
    let at = at_contained (port ∷ []) input (own input refl) in
    absurd (true≢false (sym (laws.numbered (port ∷ []) input at.0 at.1) ∙ ap is_some none))

apart_from_one : (ports : List ℕ) (port : ℕ) → (Contains ports port → ⊥) → AreApart ports (port ∷ [])
apart_from_one ports port out other mine is = out (subst (Contains ports) (alone-is port other is) mine)

still_free : SwitchLaws
    → (place : Place) (domain : ℕ) (old : Farm) (whole : Farm × Answer) (alone : State × Answer) (port : ℕ)
    → (Contains place.ports port → ⊥)
    → StepsAlone place domain old whole alone
    → output_of old.switch port ≡ disconnected_output → output_of whole.0.switch port ≡ disconnected_output
still_free laws place domain old whole alone port out step free =
    let apart = apart_from_one place.ports port out in
    let same = step.unseen (port ∷ []) apart in
    let old_none : fin.get old.switch.pairs port ≡ None = ap (λ (o : Output). o.driver) free in
    let old_drives : DrivesItself (port ∷ []) old.switch =
    λ output input is driven.
    absurd (none-some input (sym old_none ∙ ap (fin.get old.switch.pairs) (sym (alone-is port output is)) ∙ driven)) in
    let drives = step.drives (port ∷ []) (inr apart) old_drives in
    let driver =
    no-driver laws port (fin.get whole.0.switch.pairs port)
    (λ input driven. drives port input (contains_at (port ∷ []) 0 port refl) driven)
    (sym (driver-of_one laws port whole.0.switch) ∙ ap (λ (s : Switch). fin.get s.pairs 0) same
    ∙ driver-of_one laws port old.switch ∙ ap (option_and_then (number_among (port ∷ []))) old_none) in
    let ready =
    sym (ready-of_one laws port whole.0.switch) ∙ ap (λ (s : Switch). set.contains s.ready 0) same
    ∙ ready-of_one laws port old.switch ∙ ap (λ (o : Output). o.ready) free in
    λ i. record { driver = driver i; ready = ready i }

-- no connection leaves a domain, and ports of no domain are disconnected
pub record IsTidy (plan : List Place) (s : Switch) : Type 0 where
  pub within : EachDrivesItself plan s
  pub free : (port : ℕ) → IsFree plan port → output_of s port ≡ disconnected_output

free-by : SwitchLaws → (plan : List Place) (farm : Farm) (caller : ℕ) (call : Call) (found : Option Place)
    → slice_get plan caller ≡ found → AreSeparatePlaces plan
    → IsTidy plan farm.switch
    → (port : ℕ) → IsFree plan port
    → output_of (next_in plan farm caller call found).0.switch port ≡ disconnected_output
free-by laws plan farm caller call None at separate tidy port free = tidy.free port free
free-by laws plan farm caller call (Some place) at separate tidy port free =
    let step = steps_alone laws plan farm caller place call separate tidy.within at in
    subst (λ (found : Option Place). output_of (next_in plan farm caller call found).0.switch port
    ≡ disconnected_output)
    at
    (still_free laws place caller farm _ _ port (free caller place at) step (tidy.free port free))

-- after a call no connection leaves a domain, and ports of no domain are disconnected, if it was so before
pub tidy_next : SwitchLaws → (plan : List Place) (farm : Farm) (call : ℕ × Call) → AreSeparatePlaces plan
    → IsTidy plan farm.switch
    → IsTidy plan (whole_next plan farm call).0.switch
tidy_next laws plan farm call separate tidy = record {
  within = still_each_drives laws plan farm call separate tidy.within;
  free = free-by laws plan farm call.0 call.1 (slice_get plan call.0) refl separate tidy;
}

-- the same after any list of calls
pub tidy_after : SwitchLaws → (plan : List Place) (farm : Farm) (calls : List (ℕ × Call)) → AreSeparatePlaces plan
    → IsTidy plan farm.switch
    → IsTidy plan (whole_after plan farm calls).switch
tidy_after laws plan farm [] separate tidy = tidy
tidy_after laws plan farm (call ∷ calls) separate tidy =
    tidy_after laws plan (whole_next plan farm call).0 calls separate (tidy_next laws plan farm call separate tidy)

-- the same of the whole farm as it is opened
pub tidy_opening : (plan : List Place) → IsTidy plan (whole_opening plan).switch
tidy_opening plan = record {
  within = opening_drives plan;
  free = λ port free. λ i. record { driver = fin.get-empty nat_cmp port i; ready = set.contains-empty nat_cmp port i };
}

-- ---- the states of all domains

-- what is stored in a place is there
get-set_same : {X : Type 0} (xs : List X) (i : ℕ) (x y : X) → slice_get xs i ≡ Some y
    → slice_get (slice_set xs i x) i ≡ Some x
get-set_same [] i x y at = absurd (none-some y at)
get-set_same (z ∷ xs) zero x y at = refl
get-set_same (z ∷ xs) (suc i) x y at = get-set_same xs i x y at

-- storing in one place leaves the others
get-set_other : {X : Type 0} (xs : List X) (i j : ℕ) (x : X) → j ≢ i
    → slice_get (slice_set xs i x) j ≡ slice_get xs j
get-set_other [] i j x ne = refl
get-set_other (z ∷ xs) zero zero x ne = absurd (ne refl)
get-set_other (z ∷ xs) zero (suc j) x ne = refl
get-set_other (z ∷ xs) (suc i) zero x ne = refl
get-set_other (z ∷ xs) (suc i) (suc j) x ne = get-set_other xs i j x (λ e. ne (ap suc e))

-- as it is opened, the whole farm is made of its domains as they are opened
pub opening_is_made_of_openings : SwitchLaws → OpeningIsMadeOfOpenings
opening_is_made_of_openings laws plan = record {
  state_each = length-map plan (λ place. opening place.part);
  each = λ domain place s there at.
      let opened : Some (opening place.part) ≡ Some s =
      ap (option_map (λ (p : Place). opening p.part)) (sym there)
      ∙ sym (slice_get-map (λ (p : Place). opening p.part) plan domain) ∙ at in
      opens_alone laws plan domain place there ∙ same_Some _ _ opened;
  within = opening_drives plan;
  free = (tidy_opening plan).free;
}

-- a call is answered as by its domain alone, which becomes what it would become alone, and all others stay
pub each_call_is_private : SwitchLaws → EachCallIsPrivate
each_call_is_private laws plan farm states domain call place s separate made there at =
    let step = steps_alone laws plan farm domain place call separate made.within there in
    let is = made.each domain place s there at in
    let tidy = tidy_next laws plan farm (domain, call) separate (record { within = made.within; free = made.free }) in
    let new = (next place.part s call).0 in
    record {
      answer = step.answer ∙ ap (λ t. (next place.part t call).1) is;
      made = record {
        state_each = length-set states domain new ∙ made.state_each;
        each = λ d other t here has.
            elim (cases_eq d domain) [
              | inl same ↦
                  let mine : place ≡ other = same_Some _ _ (sym there ∙ ap (slice_get plan) (sym same) ∙ here) in
                  let state : new ≡ t =
                  same_Some _ _ (sym (get-set_same states domain new s at)
                  ∙ ap (slice_get (slice_set states domain new)) (sym same) ∙ has) in
                  (λ i. projected (sym mine i) (whole_next plan farm (domain, call)).0 (same i))
                  ∙ step.state ∙ ap (λ t. (next place.part t call).0) is ∙ state
              | inr ne ↦
                  other_stays laws plan farm domain call d other separate made.within here ne
                  ∙ made.each d other t here (sym (get-set_other states domain d new ne) ∙ has)
            ];
        within = tidy.within;
        free = tidy.free;
      };
    }

-- a call of a domain that isn't in the plan changes nothing
pub no_domain_no_change : NoDomainNoChange
no_domain_no_change plan farm domain call none = ap (next_in plan farm domain call) none

-- ---- what the outputs say

-- lowering a physical input of the domain and raising it again gives it back
pub raised-number : SwitchLaws → (ports : List ℕ) (found : Option ℕ) → IsOneToOne ports
    → ((input : ℕ) → found ≡ Some input → Contains ports input)
    → found ≡ option_map (raised ports) (option_and_then (number_among ports) found)
raised-number laws ports None one own = refl
raised-number laws ports (Some input) one own =
    let at = at_contained ports input (own input refl) in
    let back : raised ports at.0 ≡ input =
    same_Some _ _ (sym (port_at ports at.0 (slice_get_within ports at.0 input at.1)) ∙ at.1) in
    ap (λ (x : ℕ). Some x) (sym back) ∙ ap (option_map (raised ports)) (sym (laws.number ports at.0 input one at.1))

-- a physical output is driven and ready as its domain says of its virtual number
pub each_output_is_of_its_domain : SwitchLaws → EachOutputIsOfItsDomain
each_output_is_of_its_domain laws plan farm states domain place s output port separate made there at is =
    let own = made.within domain place there in
    let seen : own_switch place.ports farm.switch ≡ s.machine.switch =
    ap (λ (t : State). t.machine.switch) (made.each domain place s there at) in
    let driver =
    raised-number laws place.ports (fin.get farm.switch.pairs port) (separate.each domain place there).ports.one_to_one
    (λ input driven. own port input (contains_at place.ports output port is) driven)
    ∙ ap (option_map (raised place.ports))
    (sym (get-own_switch laws place.ports farm.switch output ∙ ap (driver_at place.ports farm.switch) is)
    ∙ ap (λ (t : Switch). fin.get t.pairs output) seen) in
    let ready =
    sym (contains-own_switch laws place.ports farm.switch output ∙ ap (ready_at farm.switch) is)
    ∙ ap (λ (t : Switch). set.contains t.ready output) seen in
    λ i. record { driver = driver i; ready = ready i }

-- ---- run after run

-- every run can be cut in two: the second part goes on from the state that the first leaves
pub runs_add_up : RunsAddUp
runs_add_up plan farm [] later = record { told = refl; left = refl }
runs_add_up plan farm (call ∷ calls) later =
    let rest = runs_add_up plan (whole_next plan farm call).0 calls later in
    record {
      told = ap (λ told. lowered_for (slice_get plan call.0) (whole_next plan farm call).1 ∷ told) rest.told;
      left = rest.left;
    }
