use Rattle.std.proofs.Common.{◌+◌, ◌*◌, max}
use Rattle.occam_core.specs.declared.process.CoreProcess.{size-CoreProcess}
use Rattle.occam_code.proofs.processes.+process.Given as goal

abbrev pub decreases-emit_process : goal.decreases-emit_process
decreases-emit_process l = 4 * size-CoreProcess l.p.now + 2

abbrev pub decreases-emit_parallel : goal.decreases-emit_parallel
decreases-emit_parallel l = 4 * max (size-CoreProcess l.first.now) (size-CoreProcess l.others.now) + 5

abbrev pub decreases-emit_components : goal.decreases-emit_components
decreases-emit_components l = 4 * max (size-CoreProcess l.first.now) (size-CoreProcess l.others.now) + 4

abbrev pub decreases-emit_component : goal.decreases-emit_component
decreases-emit_component l = 4 * size-CoreProcess l.p.now + 3

abbrev pub decreases-emit_choose : goal.decreases-emit_choose
decreases-emit_choose l = 4 * size-CoreProcess l.p.now + 1

abbrev pub decreases-emit_bodies : goal.decreases-emit_bodies
decreases-emit_bodies l = 4 * size-CoreProcess l.p.now
