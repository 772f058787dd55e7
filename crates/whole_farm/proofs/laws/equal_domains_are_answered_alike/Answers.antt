use Rattle.whole_farm.proofs.Runs as runs
use Rattle.whole_farm.proofs.laws.equal_domains_are_answered_alike.Goals as goal

pub returns : goal.returns
returns c = record { law = runs.equal_domains_are_answered_alike c.switches_say_their_words.ensures.laws }
