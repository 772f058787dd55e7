use Rattle.std.proofs.Common.{◌≡◌, ◌+◌, ◌-◌, ◌∙◌, Ok, length, arith, ap, rules}
use Rattle.node_memory.specs.Bytes.{byte_at, with_byte}
use Rattle.node_memory.proofs.Kept.{length_memory}
use Rattle.node_memory.proofs.Copies.{copied-more, inside-byte_at, inside-with_byte}
use Rattle.node_memory.proofs.memory.Memory.copy_bytes.Goals as goal

pub loop-i-preserved : goal.loop-i-preserved
loop-i-preserved c =
    let m = c.loop-i.self in
    let n = c.set_byte.new.self in
    let read : byte_at m (c.args.from + c.loop-i.i) ≡ Ok c.in_ok-byte.byte = search rules in
    let written : with_byte m (c.args.to + c.loop-i.i) c.in_ok-byte.byte ≡ Ok n = search rules in
    let from_inside = inside-byte_at _ _ _ read in
    let to_inside = inside-with_byte _ _ _ _ written in
    let size = ap length c.self.view_is in
    let whole = length_memory c.self.inside.kept.items c.self.inside.size c.self.invariant.within in
    record {
      rest =
          copied-more (c.args.count - c.loop-i.i) (c.args.count - (c.loop-i.i + 1)) m n (c.args.from + c.loop-i.i)
          (c.args.to + c.loop-i.i) _ _ c.in_ok-byte.byte (omega arith) (omega arith) (omega arith) read written
          ∙ c.loop-i.invariant.rest;
      from_fits = omega arith;
      to_fits = omega arith;
    }
