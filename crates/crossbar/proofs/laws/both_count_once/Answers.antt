use Rattle.crossbar.proofs.Words.{counts_both}
use Rattle.crossbar.proofs.laws.both_count_once.Goals as goal

pub returns : goal.returns
returns c = counts_both
