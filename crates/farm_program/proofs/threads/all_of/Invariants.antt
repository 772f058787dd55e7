use Rattle.std.proofs.Common.{◌≡◌, Ok, map}
use Rattle.farm_program.proofs.threads.all_of.Given as goal

-- all so far were no errors
abbrev pub invariant-loop-it : goal.invariant-loop-it
invariant-loop-it g l = map Ok l.all.items ≡ l.yielded
