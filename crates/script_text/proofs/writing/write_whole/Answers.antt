use Rattle.std.proofs.Common.{arith}
use Rattle.std.proofs.lemmas.Grind.{common_steps}
use Rattle.script_text.proofs.Written.{less_remains}
use Rattle.script_text.proofs.writing.write_whole.Goals as goal

pub loop-rest-preserved : goal.loop-rest-preserved
loop-rest-preserved g c =
    let contents = g.W.Write.contents in
    less_remains (contents c.args.writer.now) (contents c.loop-rest.writer) (contents c.write.new.self)
    c.loop-rest.rest.now _ c.args.bytes.now c.in-Ok.count (grind (arith, common_steps)) c.loop-rest.invariant
    c.in-Ok.ensures.bytes
