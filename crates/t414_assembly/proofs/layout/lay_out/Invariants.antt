use Rattle.std.proofs.Common.{◌*◌, ◌-◌, length, sum}
use Rattle.t414_assembly.specs.Layout.{AreRooms}
use Rattle.t414_assembly.proofs.layout.lay_out.Given as goal

abbrev pub invariant-loop-rooms : goal.invariant-loop-rooms
invariant-loop-rooms l = AreRooms l.statements l.rooms.items

abbrev pub decreases-loop-rooms : goal.decreases-loop-rooms
decreases-loop-rooms l = length l.statements * 8 - sum l.rooms.items
