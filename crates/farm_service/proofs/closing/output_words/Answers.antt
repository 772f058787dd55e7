use Rattle.std.proofs.Common.{◌∙◌, rules}
use Rattle.farm_service.proofs.Closings.{word_more}
use Rattle.farm_service.proofs.closing.output_words.Goals as goal

pub loop-output-preserved : goal.loop-output-preserved
loop-output-preserved c =
    let i = c.loop-output.invariant in record {
      same = search rules;
      so_far =
          c.push_reserved.ensures.items
          ∙ word_more c.loop-output.words.items _ c.loop-output.output c.word.result i.so_far (search rules);
      count = search rules;
      room = search rules;
    }
