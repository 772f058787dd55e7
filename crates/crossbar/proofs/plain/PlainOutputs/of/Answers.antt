use Rattle.std.proofs.Common.{rules, ◌≡◌, length}
use Rattle.crossbar.proofs.PlainRows.{gathers_more}
use Rattle.crossbar.proofs.plain.PlainOutputs.of.Goals as goal

pub loop-number-preserved : goal.loop-number-preserved
loop-number-preserved c =
    let room : length c.args.words ≡ 32 = search rules in
    gathers_more c.args.words c.args.ranges _ _ c.loop-number.number _ _ _ _ c.loop-number.invariant room
    c.requires.ranges_are c.of-numbering.ensures c.from-in-loop-number.ensures c.from.ensures c.physical.ensures
