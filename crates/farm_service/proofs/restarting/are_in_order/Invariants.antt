use Rattle.std.proofs.Common.{◌≡◌, ◌<◌, ℕ, Some, slice_get}
use Rattle.farm_service.specs.Passes.{SessionValue}
use Rattle.farm_service.proofs.restarting.are_in_order.Given as goal

-- the sessions so far are in order
abbrev pub invariant-loop-place : goal.invariant-loop-place
invariant-loop-place l =
    (place : ℕ) (s : SessionValue) → place < l.place → slice_get l.sessions place ≡ Some s
    → (s.pass.domain ≡ l.number) × (s.pass.user ≡ place)
