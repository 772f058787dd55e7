use Rattle.whole_farm.proofs.Runs.{each_domain_is_private, each_is_told_privately}
use Rattle.whole_farm.proofs.laws.each_domain_is_private.Goals as goal

pub returns-clause-private : goal.returns-clause-private
returns-clause-private c = each_domain_is_private c.switches_say_their_words.ensures.laws

pub returns-clause-told : goal.returns-clause-told
returns-clause-told c = each_is_told_privately c.switches_say_their_words.ensures.laws
