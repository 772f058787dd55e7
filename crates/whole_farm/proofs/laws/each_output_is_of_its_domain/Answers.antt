use Rattle.whole_farm.proofs.MadeOfDomains as making
use Rattle.whole_farm.proofs.laws.each_output_is_of_its_domain.Goals as goal

pub returns : goal.returns
returns c = record { law = making.each_output_is_of_its_domain c.switches_say_their_words.ensures.laws }
