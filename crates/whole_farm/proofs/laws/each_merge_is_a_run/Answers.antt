use Rattle.whole_farm.proofs.Merging.{each_merge_is_a_run, each_merge_of_domains_is_a_run}
use Rattle.whole_farm.proofs.laws.each_merge_is_a_run.Goals as goal

pub returns-clause-journals : goal.returns-clause-journals
returns-clause-journals c = each_merge_is_a_run c.switches_say_their_words.ensures.laws

pub returns-clause-domains : goal.returns-clause-domains
returns-clause-domains c = each_merge_of_domains_is_a_run c.switches_say_their_words.ensures.laws
