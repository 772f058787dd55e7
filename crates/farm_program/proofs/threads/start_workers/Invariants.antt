use Rattle.std.proofs.Common.{◌≡◌, map}
use Rattle.farm_program.proofs.threads.start_workers.Given as goal

-- a thread for each pass so far
abbrev pub invariant-loop-pass : goal.invariant-loop-pass
invariant-loop-pass g l = map (λ t. t.promise.pass.value) l.threads.items ≡ l.yielded
