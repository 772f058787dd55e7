use Rattle.std.proofs.Common.{◌<◌, length, arith}
use Rattle.occam_uses.specs.Sets.{has_number}
use Rattle.occam_uses.proofs.Sets.{block_added}
use Rattle.occam_uses.proofs.number_set.NumberSet.add.Goals as goal

pub loop-k-preserved : goal.loop-k-preserved
loop-k-preserved c =
    let within : c.loop-k.k < length c.loop-k.self.blocks.items = omega arith in
    record {
      room = c.loop-k.invariant.room;
      before = λ n.
          block_added c.loop-k.self.blocks.items c.loop-k.k c.mask.result c.index_mut.result.now n c.args.first
          c.args.end
          (has_number c.args.self.now n) within c.index_mut.ensures.value c.mask.ensures (c.loop-k.invariant.before n);
    }
