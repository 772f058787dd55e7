-- What is answered to a line that asks whether a domain is at rest, or why: the contract of `answer_queued`.
use Rattle.std.proofs.Common.{◌≡◌, ℕ, Option, Ok, Err, false, refl, sym, subst, string_bytes}
use Rattle.std.specs.Prelude.{IfOk, Result}
use Rattle.live_lines.specs.declared.asked.LiveRequest.TheVariants as request
use Rattle.live_lines.specs.declared.asked.WholeRequest.TheVariants as whole
use Rattle.live_farm.specs.declared.answering.QueuedAnswer.{QueuedAnswer}
use Rattle.live_farm.specs.declared.group.UserGroup.{UserGroup}
use Rattle.live_farm.specs.declared.queued.QueuedLine.{QueuedLine}
use Rattle.live_farm.specs.declared.queued.QueuedRequest.{QueuedRequest}
use Rattle.live_farm.specs.declared.queued.QueuedRequest.TheVariants as line
use Rattle.live_farm.specs.Groups.{AnswersRest, AnswersWhy, AnswersRequest, AnswersQueued}

-- such an answer is that of such a line
pub rest_answered : {E : Type 0} (group : UserGroup) (queued : QueuedLine) (outcome : Result QueuedAnswer E)
    → queued.request ≡ line.Asked (request.Domain whole.Rest)
    → IfOk outcome (λ a. AnswersRest group queued.user (string_bytes a.lines.text))
    → IfOk outcome (λ a. a.begins_anew ≡ false)
    → IfOk outcome (AnswersQueued group group queued)
rest_answered group queued (Ok a) is rest anew =
    subst
    (λ (m : QueuedRequest). AnswersRequest group group queued.user queued.number m a.begins_anew
    (string_bytes a.lines.text))
    (sym is)
    (rest, refl, anew)
rest_answered group queued (Err e) is rest anew = tt

-- the same of a line that asks why nodes do no more
pub why_answered : {E : Type 0} (group : UserGroup) (queued : QueuedLine) (node : Option ℕ)
    (outcome : Result QueuedAnswer E) → queued.request ≡ line.Asked (request.Domain (whole.Why node))
    → IfOk outcome (λ a. AnswersWhy group queued.user node (string_bytes a.lines.text))
    → IfOk outcome (λ a. a.begins_anew ≡ false)
    → IfOk outcome (AnswersQueued group group queued)
why_answered group queued node (Ok a) is why anew =
    subst
    (λ (m : QueuedRequest). AnswersRequest group group queued.user queued.number m a.begins_anew
    (string_bytes a.lines.text))
    (sym is)
    (why, refl, anew)
why_answered group queued node (Err e) is why anew = tt
