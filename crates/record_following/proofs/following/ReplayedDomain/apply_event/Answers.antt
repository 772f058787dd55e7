use Rattle.std.proofs.Common.{rules, ◌≡◌, ◌+◌, Ok}
use Rattle.domain_core.specs.Moments.{MomentValue, state_at}
use Rattle.domain_core.specs.PrivateFarm.{Call, next}
use Rattle.record_following.proofs.Followed.{one_call}
use Rattle.record_following.proofs.following.ReplayedDomain.apply_event.Goals as goal

pub returns : goal.returns
returns c =
    let old : MomentValue = c.args.self.now in
    let new : MomentValue = c.apply.new.self in
    let call : Call = record { by = c.args.by; event = c.args.event } in
    let called : next old.machine.part (state_at old) call ≡ (state_at new, Ok c.in_ok-reply.reply) = search rules in
    let part : new.machine.part ≡ old.machine.part = search rules in
    let recorded : new.recorded ≡ old.recorded + 1 = search rules in
    one_call c.histories_grow.ensures.history old new call c.in_ok-reply.reply called part recorded
