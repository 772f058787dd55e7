use Rattle.whole_farm.proofs.Plans.{each_domain_of_a_plan, each_is_told, equal_domains}
use Rattle.whole_farm.proofs.laws.each_domain_of_a_plan_is_private.Goals as goal

pub returns-clause-private : goal.returns-clause-private
returns-clause-private c =
    let plans = c.faultless_plans_are_separate.ensures in
    each_domain_of_a_plan c.switches_say_their_words.ensures.laws plans.numbered plans.apart

pub returns-clause-told : goal.returns-clause-told
returns-clause-told c =
    let plans = c.faultless_plans_are_separate.ensures in
    each_is_told c.switches_say_their_words.ensures.laws plans.numbered plans.apart

pub returns-clause-alike : goal.returns-clause-alike
returns-clause-alike c =
    let plans = c.faultless_plans_are_separate.ensures in
    equal_domains c.switches_say_their_words.ensures.laws plans.numbered plans.apart
