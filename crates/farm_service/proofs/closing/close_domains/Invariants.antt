use Rattle.std.proofs.Common.{◌≡◌, ◌≤◌, ◌+◌, length, vec_len, vec_capacity}
use Rattle.farm_service.proofs.Closings.{AreEndsSoFar}
use Rattle.farm_service.proofs.closing.close_domains.Given as goal

-- the domains so far are closed, and there is room for all
abbrev pub invariant-loop-lock : goal.invariant-loop-lock
invariant-loop-lock g l = record {
  ends : AreEndsSoFar l.plan (length l.yielded) l.closed.items;
  count : vec_len l.closed ≡ length l.yielded;
  room : length l.plan ≤ vec_capacity l.closed;
  rooms : length l.rooms.items + length l.yielded ≡ length l.plan;
}
