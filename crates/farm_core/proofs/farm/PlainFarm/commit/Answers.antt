use Rattle.std.proofs.Common.{◌≡◌, ◌<◌, List, None, Err, length, refl, sym, ap, slice_get, slice_set, subst}
use Rattle.domain_core.specs.declared.event.Refusal.TheVariants.{NoSuch}
use Rattle.domain_core.specs.Domain.{DomainValue}
use Rattle.whole_farm.specs.Places.{AreSeparatePlaces}
use Rattle.whole_farm.specs.Values.{all_places}
use Rattle.farm_core.specs.PlainFarm.{IsCommitted, IsCommittedAt}
use Rattle.farm_core.proofs.Plain.{Replaces, read_at, still_separate, committed_at, place_of_committed, others_stay}
use Rattle.farm_core.proofs.Plain.{none_at, places_stay, all_stay}
use Rattle.farm_core.proofs.farm.PlainFarm.commit.Goals as goal

committed : (c : goal.After-self-2-1) → IsCommitted c.args.ticket c.commit.result c.in-Some.home.now c.commit.new.self
committed c =
    record {
      stale = c.commit.ensures.stale;
      full = c.commit.ensures.full;
      no_such = c.commit.ensures.no_such;
      done = c.commit.ensures.done;
      same = c.commit.ensures.unchanged;
    }

-- the home is changed
replaces : (c : goal.After-self-2-1)
    → Replaces c.args.self.now (slice_set c.self.inside.domains.items c.from.result c.commit.new.self) c.args.domain
    c.in-Some.home.now c.commit.new.self
replaces c =
    let within : c.from.result < length c.self.inside.domains.items = c.in-Some.ensures.item.3.0 in
    record {
      there =
          read_at c.self.inside.domains.items c.args.self.now c.from.result c.args.domain c.in-Some.home.now
          c.self.view_is
          c.from.ensures within c.in-Some.ensures.value;
      later_is = λ i. slice_set (c.self.view_is i) (c.from.ensures i) c.commit.new.self;
      place = place_of_committed _ _ _ _ (committed c);
    }

pub invariant_of-self-2 : goal.invariant_of-self-2
invariant_of-self-2 c =
    still_separate _ _ _ _ _ (replaces c)
    (subst (λ (ds : List DomainValue). AreSeparatePlaces (all_places ds)) c.self.view_is c.self.invariant)

pub returns-clause-own : goal.returns-clause-own
returns-clause-own c = committed_at _ _ _ _ _ _ _ (replaces c) (committed c)

pub returns-clause-others : goal.returns-clause-others
returns-clause-others c = others_stay _ _ _ _ _ (replaces c)

pub returns-clause-places : goal.returns-clause-places
returns-clause-places c = places_stay _ _ _ _ _ (replaces c)

pub returns-clause-unchanged : goal.returns-clause-unchanged
returns-clause-unchanged c = λ other. all_stay _ _ _ _ _ (replaces c) (c.commit.ensures.unchanged other)

pub invariant_of-self : goal.invariant_of-self
invariant_of-self c = c.self.invariant

-- there is no domain of the number
none : (c : goal.After-drop-ticket) → slice_get c.args.self.now c.args.domain ≡ None
none c =
    none_at c.self.inside.domains.items c.args.self.now c.from.result c.args.domain c.self.view_is c.from.ensures
    c.in_default.ensures.item.3

pub returns-in_default-clause-own : goal.returns-in_default-clause-own
returns-in_default-clause-own c =
    subst (λ found. IsCommittedAt c.args.ticket (Err NoSuch) found
    (slice_get c.self.inside.domains.items c.args.domain)) (sym (none c)) refl

pub returns-in_default-clause-others : goal.returns-in_default-clause-others
returns-in_default-clause-others c =
    λ other _. ap (λ (ds : List DomainValue). slice_get ds other) c.self.view_is

pub returns-in_default-clause-places : goal.returns-in_default-clause-places
returns-in_default-clause-places c = ap all_places c.self.view_is

pub returns-in_default-clause-unchanged : goal.returns-in_default-clause-unchanged
returns-in_default-clause-unchanged c = λ _. c.self.view_is
