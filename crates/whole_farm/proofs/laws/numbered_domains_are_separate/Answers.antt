use Rattle.whole_farm.proofs.Separation as separation
use Rattle.whole_farm.proofs.laws.numbered_domains_are_separate.Goals as goal

pub returns : goal.returns
returns c = record { law = separation.numbered_domains_are_separate }
