use Rattle.std.proofs.Common.{sym, subst}
use Rattle.whole_farm.specs.Places.{AreSeparatePlaces}
use Rattle.farm_core.proofs.Opened.{opened_is_whole}
use Rattle.farm_core.proofs.farm.PlainFarm.open.Goals as goal

pub invariant_of-result : goal.invariant_of-result
invariant_of-result c =
    subst AreSeparatePlaces (sym c.in_ok-domains.ensures.places)
    (c.numbered_domains_are_separate.ensures.law c.args.plan.now c.separate_law.ensures.own
    c.separate_law.ensures.apart)

pub returns-clause-whole : goal.returns-clause-whole
returns-clause-whole c =
    opened_is_whole c.each_call_is_private.ensures.opening c.args.plan.now c.in_ok-domains.domains.items
    c.in_ok-domains.ensures.states
