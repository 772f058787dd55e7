use Rattle.std.proofs.Common.{◌≡◌, ◌<◌, List, None, Err, length, refl, slice_get, slice_set, subst, sym, ap}
use Rattle.domain_core.specs.declared.event.Refusal.TheVariants.{NoSuch}
use Rattle.domain_core.specs.Domain.{DomainValue}
use Rattle.whole_farm.specs.Places.{AreSeparatePlaces}
use Rattle.whole_farm.specs.Values.{all_places}
use Rattle.farm_core.specs.PlainFarm.{IsCalledAt}
use Rattle.farm_core.proofs.Plain.{Replaces, read_at, none_at, still_separate, called_at, others_stay, places_stay}
use Rattle.farm_core.proofs.Plain.{call_of_each_whole, no_call_of_each_whole, err_stays}
use Rattle.farm_core.proofs.farm.PlainFarm.answer.Goals as goal

-- the domain that is called is changed
replaces : (c : goal.After-self-2-1)
    → Replaces c.args.self.now (slice_set c.self.inside.domains.items c.from.result c.apply.new.self) c.args.domain
    c.in-Some.domain.now c.apply.new.self
replaces c =
    let number : c.from.result ≡ c.args.domain = c.from.ensures in
    let within : c.from.result < length c.self.inside.domains.items = c.in-Some.ensures.item.3.0 in
    record {
      there =
          read_at c.self.inside.domains.items c.args.self.now c.from.result c.args.domain c.in-Some.domain.now
          c.self.view_is number within c.in-Some.ensures.value;
      later_is = λ i. slice_set (c.self.view_is i) (number i) c.apply.new.self;
      place = λ i. record { part = c.apply.ensures.part i; ports = c.apply.ensures.ports i };
    }

separate : (c : goal.After-self-2-1) → AreSeparatePlaces (all_places c.args.self.now)
separate c = subst (λ (ds : List DomainValue). AreSeparatePlaces (all_places ds)) c.self.view_is c.self.invariant

pub invariant_of-self-2 : goal.invariant_of-self-2
invariant_of-self-2 c = still_separate _ _ _ _ _ (replaces c) (separate c)

pub returns-clause-own : goal.returns-clause-own
returns-clause-own c = called_at _ _ _ _ _ _ _ (replaces c) c.apply.ensures.called

pub returns-clause-others : goal.returns-clause-others
returns-clause-others c = others_stay _ _ _ _ _ (replaces c)

pub returns-clause-whole : goal.returns-clause-whole
returns-clause-whole c =
    call_of_each_whole c.each_call_is_private.ensures.call _ _ _ _ _ _ _ (replaces c) (separate c)
    c.apply.ensures.called

pub returns-clause-places : goal.returns-clause-places
returns-clause-places c = places_stay _ _ _ _ _ (replaces c)

pub returns-clause-err : goal.returns-clause-err
returns-clause-err c = err_stays _ _ _ _ _ _ (replaces c) c.apply.ensures.err

pub invariant_of-self : goal.invariant_of-self
invariant_of-self c = c.self.invariant

-- there is no domain of the number
none : (c : goal.After-self-in_default-2-1) → slice_get c.args.self.now c.args.domain ≡ None
none c =
    none_at c.self.inside.domains.items c.args.self.now c.from.result c.args.domain c.self.view_is c.from.ensures
    c.in_default.ensures.item.3

pub returns-in_default-clause-own : goal.returns-in_default-clause-own
returns-in_default-clause-own c =
    subst (λ found. IsCalledAt (record { by = c.args.by; event = c.args.event }) (Err NoSuch) found
    (slice_get c.self.inside.domains.items c.args.domain)) (sym (none c)) refl

pub returns-in_default-clause-others : goal.returns-in_default-clause-others
returns-in_default-clause-others c =
    λ other _. ap (λ (ds : List DomainValue). slice_get ds other) c.self.view_is

pub returns-in_default-clause-whole : goal.returns-in_default-clause-whole
returns-in_default-clause-whole c = no_call_of_each_whole _ _ _ _ (none c) c.self.view_is

pub returns-in_default-clause-places : goal.returns-in_default-clause-places
returns-in_default-clause-places c = ap all_places c.self.view_is

pub returns-in_default-clause-err : goal.returns-in_default-clause-err
returns-in_default-clause-err c = c.self.view_is
