use Rattle.std.proofs.Common.{List, slice_set, subst}
use Rattle.domain_core.specs.Domain.{DomainValue}
use Rattle.whole_farm.specs.Places.{AreSeparatePlaces}
use Rattle.whole_farm.specs.Values.{all_places}
use Rattle.farm_core.proofs.Plain.{Replaces, read_there, still_separate, others_stay, places_stay, restarted_at}
use Rattle.farm_core.proofs.farm.PlainFarm.restart.Goals as goal

-- the domain is changed
replaces : (c : goal.After-self-1)
    → Replaces c.args.self.now (slice_set c.self.inside.domains.items c.from.result c.restart.new.self) c.args.domain
    c.index_mut.result.now c.restart.new.self
replaces c = record {
  there =
      read_there c.self.inside.domains.items c.args.self.now c.from.result c.args.domain c.index_mut.result.now
      c.self.view_is c.from.ensures c.requires c.index_mut.ensures.value;
  later_is = λ i. slice_set (c.self.view_is i) (c.from.ensures i) c.restart.new.self;
  place = λ i. record { part = c.restart.ensures.part i; ports = c.restart.ensures.ports i };
}

pub invariant_of-self : goal.invariant_of-self
invariant_of-self c =
    still_separate _ _ _ _ _ (replaces c)
    (subst (λ (ds : List DomainValue). AreSeparatePlaces (all_places ds)) c.self.view_is c.self.invariant)

pub returns-clause-own : goal.returns-clause-own
returns-clause-own c =
    restarted_at _ _ _ _ _ (replaces c)
    (record { state = c.restart.ensures.state; journal = c.restart.ensures.journal; counts = c.restart.ensures.counts })

pub returns-clause-others : goal.returns-clause-others
returns-clause-others c = others_stay _ _ _ _ _ (replaces c)

pub returns-clause-places : goal.returns-clause-places
returns-clause-places c = places_stay _ _ _ _ _ (replaces c)
