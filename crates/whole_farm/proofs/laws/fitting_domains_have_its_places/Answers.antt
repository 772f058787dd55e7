use Rattle.whole_farm.proofs.Wholes as wholes
use Rattle.whole_farm.proofs.laws.fitting_domains_have_its_places.Goals as goal

pub returns : goal.returns
returns c = record { law = wholes.fitting_domains_have_its_places }
