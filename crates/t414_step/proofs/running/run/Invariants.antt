use Rattle.std.proofs.Common.{◌≡◌, ◌<◌, ◌≤◌, true, Some}
use Rattle.node_memory.specs.Effect.{Gave}
use Rattle.t414_step.specs.Steps.{nth_step}
use Rattle.t414_step.proofs.running.run.Given as goal

abbrev pub invariant-loop-turn : goal.invariant-loop-turn
invariant-loop-turn l = record {
  ran : nth_step l.done l.fn.cpu l.fn.links l.fn.memory ≡ Some (Gave (true, l.local) l.links l.memory);
  turns : l._turn ≤ l.done;
  most : l.done ≤ l.most;
  left : 0 < l.most → l.done < l.most;
}
