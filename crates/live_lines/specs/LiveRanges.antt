-- Which settings a farm takes.
use Rattle.std.specs.Prelude.{ℕ, ◌≤◌, ◌^◌}
use Rattle.live_lines.specs.declared.command_line.LiveSettings.{LiveSettings}

-- 2^20 to 2^36 bytes of a room, or Steps
pub record IsBound (size : ℕ) : Type 0 where
  pub least : 2 ^ 20 ≤ size
  pub greatest : size ≤ 2 ^ 36

-- 1 to 8 workers, 1 to 4096 Steps at a time, and bounds of such sizes
pub record IsInRange (s : LiveSettings) : Type 0 where
  pub some_workers : 1 ≤ s.workers
  pub few_workers : s.workers ≤ 8
  pub some_steps : 1 ≤ s.quantum
  pub few_steps : s.quantum ≤ 4096
  pub room : IsBound s.room
  pub record_room : IsBound s.record_room
  pub line_steps : IsBound s.line_steps
  pub restart_steps : IsBound s.restart_steps
