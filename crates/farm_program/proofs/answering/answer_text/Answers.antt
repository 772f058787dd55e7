use Rattle.std.specs.Prelude.{string_bytes}
use Rattle.farm_program.proofs.Printing.{all_printed, some_printed}
use Rattle.farm_program.proofs.answering.answer_text.Goals as goal

pub returns-in-Ok-write_texts-clause-begun : goal.returns-in-Ok-write_texts-clause-begun
returns-in-Ok-write_texts-clause-begun g c =
    let contents = g.W.Write.contents in
    all_printed string_bytes c.args.text.now (contents c.args.output.now) (contents c.write_texts.new.writer)
    c.in-Ok.screens.items c.as_slice.result.now c.as_slice.ensures.value c.in-Ok.ensures.output
    c.in-Ok-write_texts.ensures.whole

pub returns-in-Ok-clause-begun : goal.returns-in-Ok-clause-begun
returns-in-Ok-clause-begun g c =
    let contents = g.W.Write.contents in
    some_printed string_bytes c.args.text.now (contents c.args.output.now) (contents c.write_texts.new.writer)
    c.in-Ok.screens.items c.as_slice.result.now c.as_slice.ensures.value c.in-Ok.ensures.output
    c.in-Err-write_texts.ensures.begun
