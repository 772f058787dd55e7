use Rattle.std.proofs.Common.{◌↔◌, List, Option, IfSome, IsTrue, ap, sym, slice_set, subst}
use Rattle.domain_core.specs.Domain.{DomainValue, IsQuiet}
use Rattle.domain_core.specs.MachineValue.{machine_of}
use Rattle.whole_farm.specs.Places.{AreSeparatePlaces}
use Rattle.whole_farm.specs.Values.{all_places}
use Rattle.whole_farm.specs.Merges.{own_place}
use Rattle.farm_core.proofs.Plain.{Replaces, read_there, still_separate, all_stay}
use Rattle.farm_core.proofs.farm.PlainFarm.quiet.Goals as goal

-- the domain that is asked stays
replaces : (c : goal.After-self-1)
    → Replaces c.args.self.now (slice_set c.self.inside.domains.items c.from.result c.quiet.new.self) c.args.domain
    c.index_mut.result.now c.quiet.new.self
replaces c = record {
  there =
      read_there c.self.inside.domains.items c.args.self.now c.from.result c.args.domain c.index_mut.result.now
      c.self.view_is c.from.ensures c.requires c.index_mut.ensures.value;
  later_is = λ i. slice_set (c.self.view_is i) (c.from.ensures i) c.quiet.new.self;
  place = ap own_place c.quiet.ensures.unchanged;
}

pub invariant_of-self : goal.invariant_of-self
invariant_of-self c =
    still_separate _ _ _ _ _ (replaces c)
    (subst (λ (ds : List DomainValue). AreSeparatePlaces (all_places ds)) c.self.view_is c.self.invariant)

pub returns-clause-quiet : goal.returns-clause-quiet
returns-clause-quiet c =
    subst (λ (found : Option DomainValue).
    IfSome found (λ d. IsTrue c.quiet.result ↔ IsQuiet d.machine.part (machine_of d.machine)))
    (sym (replaces c).there) c.quiet.ensures.quiet

pub returns-clause-unchanged : goal.returns-clause-unchanged
returns-clause-unchanged c = all_stay _ _ _ _ _ (replaces c) c.quiet.ensures.unchanged
