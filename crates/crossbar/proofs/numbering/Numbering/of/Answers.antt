use Rattle.std.proofs.Common.{rules, ◌<◌, length}
use Rattle.crossbar.proofs.Numberings.{next_place, place_appended}
use Rattle.crossbar.proofs.numbering.Numbering.of.Goals as goal

pub append-requires-clause-apart : goal.append-requires-clause-apart
append-requires-clause-apart c =
    let l : c.loop-place.place-index < length c.args.ranges = search rules in
    next_place c.args.ranges _ c.loop-place.place-index _ c.requires l c.loop-place.invariant

pub loop-place-preserved : goal.loop-place-preserved
loop-place-preserved c =
    let l : c.loop-place.place-index < length c.args.ranges = search rules in
    place_appended c.args.ranges _ _ c.loop-place.place-index _ l c.loop-place.invariant c.append.ensures
