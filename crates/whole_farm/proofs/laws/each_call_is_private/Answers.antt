use Rattle.whole_farm.proofs.MadeOfDomains.{opening_is_made_of_openings, each_call_is_private, no_domain_no_change}
use Rattle.whole_farm.proofs.laws.each_call_is_private.Goals as goal

pub returns-clause-opening : goal.returns-clause-opening
returns-clause-opening c = opening_is_made_of_openings c.switches_say_their_words.ensures.laws

pub returns-clause-call : goal.returns-clause-call
returns-clause-call c = each_call_is_private c.switches_say_their_words.ensures.laws

pub returns-clause-elsewhere : goal.returns-clause-elsewhere
returns-clause-elsewhere c = no_domain_no_change
