use Rattle.std.proofs.Common.{rules}
use Rattle.script_text.proofs.Written.{text_more, text_failed, on_failure}
use Rattle.script_text.proofs.writing.write_texts.Goals as goal

pub loop-text-preserved : goal.loop-text-preserved
loop-text-preserved g c =
    let contents = g.W.Write.contents in
    text_more g.S.AsStr.text (contents c.args.writer.now) (contents c.loop-text.writer)
    (contents c.write_whole.new.writer) c.args.texts.now c.loop-text.text-index
    c.text-item.result c.as_bytes.result.now (search rules) (search rules) (search rules)
    c.loop-text.invariant c.in_ok-write_whole.ensures.whole

pub returns-in_err-write_whole-clause-begun : goal.returns-in_err-write_whole-clause-begun
returns-in_err-write_whole-clause-begun g c =
    let contents = g.W.Write.contents in
    on_failure c.from_residual.result
    (text_failed g.S.AsStr.text (contents c.args.writer.now) (contents c.loop-text.writer)
    (contents c.write_whole.new.writer) c.args.texts.now c.loop-text.text-index
    c.text-item.result c.as_bytes.result.now (search rules) (search rules) (search rules)
    c.loop-text.invariant c.in_err-write_whole.ensures.begun)
