use Rattle.farm_program.proofs.Openings.{AreUsersSoFar}
use Rattle.farm_program.proofs.users.script_users.Given as goal

-- a user for each pass so far
abbrev pub invariant-loop-pass : goal.invariant-loop-pass
invariant-loop-pass l = AreUsersSoFar l.service.plan l.lines l.quantum.steps l.yielded l.users.items
