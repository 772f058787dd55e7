use Rattle.std.proofs.Common.{◌∙◌, sym}
use Rattle.crossbar.proofs.Lowering.{ready_by_word}
use Rattle.crossbar.proofs.operations.is_ready.Goals as goal

pub returns-clause-ready : goal.returns-clause-ready
returns-clause-ready g c =
    c.says_ready.ensures ∙ sym (ready_by_word _ c.args.output c.read.result c.requires c.read.ensures.value)
