use Rattle.std.proofs.Common.{ℕ, ◌≡◌, ◌<◌, ◌≤◌, true, false, sum, slice_index}
use Rattle.t414_assembly.specs.Program.{IsImage}
use Rattle.t414_assembly.specs.Layout.{AreRooms}
use Rattle.t414_assembly.proofs.layout.lay_out_once.Given as goal

abbrev pub invariant-loop-place : goal.invariant-loop-place
invariant-loop-place l = record {
  rooms : AreRooms l.statements l.rooms;
  later : (k : ℕ) → l.place ≤ k → slice_index l.rooms k ≡ slice_index l.fn.rooms k;
  more : l.grown ≡ true → sum l.fn.rooms < sum l.rooms;
  same : l.grown ≡ false → sum l.fn.rooms ≡ sum l.rooms;
  image : l.grown ≡ false → IsImage l.origin l.statements l.starts l.place l.bytes.items;
}
