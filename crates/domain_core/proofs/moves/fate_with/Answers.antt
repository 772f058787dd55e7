use Rattle.std.proofs.Common.{[], ◌∷◌, sym, ◌∙◌}
use Rattle.virtual_switch.specs.SwitchValue.{private_of}
use Rattle.domain_core.specs.Routes.{marked_by, fate_answer}
use Rattle.domain_core.proofs.Outcomes.{not_marked, stays}
use Rattle.domain_core.proofs.moves.fate_with.Goals as goal

pub returns-then-not-is_marked-clause-answer : goal.returns-then-not-is_marked-clause-answer
returns-then-not-is_marked-clause-answer g c xs is =
    not_marked (private_of c.args.switch.now) (fate_answer c.args.before) c.args.outputs c.args.output xs
    (sym c.is_marked.ensures ∙ c.if-not-is_marked.true) is

pub returns-then-has_stayed-clause-answer : goal.returns-then-has_stayed-clause-answer
returns-then-has_stayed-clause-answer g c xs is =
    stays (private_of c.args.switch.now) (fate_answer c.args.before) xs (marked_by c.args.outputs (c.args.output ∷ []))
    (c.has_stayed.ensures.0 c.if-has_stayed.true) is
