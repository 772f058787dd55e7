use Rattle.std.proofs.Common.{◌<◌, ◌≤◌, ◌-◌, replicate}
use Rattle.t414_step.specs.declared.stepping.Stepped.TheVariants.{Ran}
use Rattle.domain_core.specs.declared.event.By.TheVariants.{Farm}
use Rattle.domain_core.specs.Journal.{answered_step}
use Rattle.farm_records.specs.Records.{GainsHistory}
use Rattle.farm_records.proofs.redoing.redo_steps.Given as goal

-- that many Steps were done, and there were some
abbrev pub invariant-loop-done : goal.invariant-loop-done
invariant-loop-done g l = record {
  gains : GainsHistory (replicate l.done (answered_step Farm l.fn.node Ran)) l.fn.domain l.domain;
  some : 0 < l.done;
  within : l.done ≤ l.fn.times;
}

abbrev pub decreases-loop-done : goal.decreases-loop-done
decreases-loop-done g l = l.fn.times - l.done
