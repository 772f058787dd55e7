use Rattle.switch_table.proofs.Moves.{begins}
use Rattle.switch_table.proofs.Openings.{separate_domains}
use Rattle.switch_table.proofs.table.open_words.Goals as goal

pub of_words-requires : goal.of_words-requires
of_words-requires c = begins _ (separate_domains c.args.plan.now c.separate_law.ensures.apart)
