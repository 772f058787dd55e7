use Rattle.std.proofs.Common.{◌≡◌, ◌≤◌, slice_index}
use Rattle.t414_assembly.specs.Layout.{AreStarts}
use Rattle.t414_assembly.proofs.layout.starts_of.Given as goal

abbrev pub invariant-loop-place : goal.invariant-loop-place
invariant-loop-place l = record {
  starts : AreStarts l.origin l.statements l.rooms l.place l.starts.items;
  last : slice_index l.starts.items l.place ≡ l.start;
  most : l.start ≤ 65464;
}
