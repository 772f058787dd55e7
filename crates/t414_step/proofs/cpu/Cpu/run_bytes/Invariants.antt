use Rattle.std.proofs.Common.{◌≡◌, ◌+◌, ◌-◌, ◌<◌, ◌≤◌, min, true, Some}
use Rattle.node_memory.specs.Effect.{Gave}
use Rattle.t414_step.specs.Steps.{nth_step}
use Rattle.t414_step.proofs.cpu.Cpu.run_bytes.Given as goal

-- the bytes that aren't left were done
abbrev pub invariant-loop-left : goal.invariant-loop-left
invariant-loop-left l = record {
  ran : nth_step (l.fn.most - l.left) l.fn.self l.links l.fn.memory ≡ Some (Gave (true, l.self) l.links l.memory);
  running : l.self.running ≡ true;
  counted : min l.self.bytes 1024 ≡ min (l.fn.self.bytes + (l.fn.most - l.left)) 1024;
  few : l.left < l.fn.most → l.self.bytes ≤ 1024;
  within : l.left ≤ l.fn.most;
}

abbrev pub decreases-loop-left : goal.decreases-loop-left
decreases-loop-left l = l.left
