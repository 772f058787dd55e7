use Rattle.std.proofs.Common.{inr}
use Rattle.std.proofs.lemmas.Result.{IfOk-weaker}
use Rattle.node_causes.proofs.paragraphs.alone_words.Goals as goal

pub returns : goal.returns
returns c =
    IfOk-weaker c.alone_since.result _ _ (λ _ is. inr (c.args.notes.now.alone_since, c.args.notes.now.exchanges, is))
    c.alone_since.ensures
