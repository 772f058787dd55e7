use Rattle.std.proofs.Common.{◌≡◌, rules, subst, ℕ, string_bytes}
use Rattle.std.specs.Prelude.{IfOk}
use Rattle.live_lines.specs.declared.asked.LiveRequest.TheVariants as request
use Rattle.live_lines.specs.declared.asked.WholeRequest.TheVariants as whole
use Rattle.live_farm.specs.declared.queued.QueuedRequest.TheVariants as line
use Rattle.live_farm.specs.Groups.{AnswersRest, AnswersWhy}
use Rattle.live_farm.proofs.Rests.{rest_answered, why_answered}
use Rattle.live_farm.proofs.answering.answer_queued.Goals as goal

pub returns-in-Asked-Domain-Rest-clause-answer : goal.returns-in-Asked-Domain-Rest-clause-answer
returns-in-Asked-Domain-Rest-clause-answer g c =
    let is : c.args.queued.now.request ≡ line.Asked (request.Domain whole.Rest) = search rules in
    rest_answered c.args.group.now c.args.queued.now c.answer_rest.result is
    (subst
    (λ (user : ℕ). IfOk c.answer_rest.result (λ a. AnswersRest c.args.group.now user (string_bytes a.lines.text)))
    c.from-user.ensures c.answer_rest.ensures.rest)
    c.answer_rest.ensures.anew

pub returns-in-Asked-Domain-Why-clause-answer : goal.returns-in-Asked-Domain-Why-clause-answer
returns-in-Asked-Domain-Why-clause-answer g c =
    let node = c.in-Asked-Domain-Why.node in
    let is : c.args.queued.now.request ≡ line.Asked (request.Domain (whole.Why node)) = search rules in
    why_answered c.args.group.now c.args.queued.now node c.answer_why.result is
    (subst
    (λ (user : ℕ). IfOk c.answer_why.result (λ a. AnswersWhy c.args.group.now user node (string_bytes a.lines.text)))
    c.from-user.ensures c.answer_why.ensures.why)
    c.answer_why.ensures.anew
