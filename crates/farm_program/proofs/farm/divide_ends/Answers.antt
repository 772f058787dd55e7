use Rattle.std.proofs.Common.{arith}
use Rattle.std.proofs.lemmas.Grind.{common_steps}
use Rattle.farm_program.proofs.farm.divide_ends.Goals as goal

pub loop-end-preserved : goal.loop-end-preserved
loop-end-preserved c = (grind (arith, common_steps), grind (arith, common_steps))
