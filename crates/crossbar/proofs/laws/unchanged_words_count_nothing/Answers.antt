use Rattle.crossbar.proofs.Words.{each_counts_itself}
use Rattle.crossbar.proofs.laws.unchanged_words_count_nothing.Goals as goal

pub returns : goal.returns
returns c = record { unchanged = each_counts_itself }
