use Rattle.std.proofs.Common.{refl}
use Rattle.record_following.proofs.Led.{opened_empty, opened_progress}
use Rattle.record_following.proofs.cursor.RecordCursor.open.Goals as goal

pub returns-clause-cursor : goal.returns-clause-cursor
returns-clause-cursor c =
    λ lines. opened_progress c.args.plan.now lines _ refl refl c.in_ok-open.ensures.after
    (opened_empty c.args.plan.now c.in_ok-open.field-0 c.requires c.in_ok-open.ensures.after)
