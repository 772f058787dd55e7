use Rattle.std.proofs.Common.{◌≡◌}
use Rattle.bootstrap.specs.Boot.{freed}
use Rattle.bootstrap.proofs.booting.free_channels.Given as goal

abbrev pub invariant-loop-word : goal.invariant-loop-word
invariant-loop-word l = l.memory ≡ freed l.word l.fn.memory
