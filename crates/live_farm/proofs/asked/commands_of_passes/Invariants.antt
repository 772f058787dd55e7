use Rattle.std.proofs.Common.{◌≡◌, take}
use Rattle.live_farm.specs.Asking.{commands_listed}
use Rattle.live_farm.proofs.asked.commands_of_passes.Given as goal

-- the lists of the passes so far are counted
abbrev pub invariant-loop-pass : goal.invariant-loop-pass
invariant-loop-pass l = l.commands ≡ commands_listed l.domain (take l.pass-index l.passes)
