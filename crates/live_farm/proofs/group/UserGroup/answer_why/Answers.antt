use Rattle.std.proofs.Common.{subst, sym, string_bytes}
use Rattle.live_farm.specs.declared.texts.LiveAnswer.{LiveAnswer}
use Rattle.live_farm.specs.Groups.{AnswersWhy}
use Rattle.live_farm.proofs.group.UserGroup.answer_why.Goals as goal

pub returns-clause-why : goal.returns-clause-why
returns-clause-why g c =
    subst
    (λ (lines : LiveAnswer). AnswersWhy c.args.self.now c.args.user c.args.node (string_bytes lines.text))
    (sym c.of_line.ensures.lines) c.in_ok-lines.ensures
