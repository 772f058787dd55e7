use Rattle.farm_example.proofs.OwnAnswers.{AreTaken}
use Rattle.farm_example.proofs.alone.answers_of.Given as goal

abbrev pub invariant-loop-index : goal.invariant-loop-index
invariant-loop-index l = AreTaken l.domain l.calls l.answers.items l.index l.own.items
