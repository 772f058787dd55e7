use Rattle.std.proofs.Common.{rules, string_bytes}
use Rattle.live_farm.proofs.Whole.{put_whole}
use Rattle.live_farm.proofs.outlet.Outlet.put.Goals as goal

pub invariant_of-self-2 : goal.invariant_of-self-2
invariant_of-self-2 g c =
    let old = c.args.self.now in
    record {
      whole =
          λ is.
          put_whole old.failed (g.W.Write.contents old.writer) (g.W.Write.contents c.write_all.new.self)
          (g.W.Write.contents c.flush.new.self) (string_bytes c.args.answer.now.text) (old.whole is)
          (search rules) c.args.answer.now.whole
          (search rules) (c.flush.ensures.bytes);
    }
