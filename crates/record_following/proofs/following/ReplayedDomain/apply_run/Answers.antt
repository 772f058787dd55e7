use Rattle.std.proofs.Common.{rules, ◌≡◌, ◌+◌, ◌∷◌, [], replicate}
use Rattle.std.proofs.lemmas.Result.{IfOk-from_err, IfOk-weaker}
use Rattle.domain_core.specs.declared.event.Event.TheVariants.{Step}
use Rattle.domain_core.specs.Moments.{MomentValue}
use Rattle.domain_core.specs.PrivateFarm.{Call}
use Rattle.record_following.specs.Following.{MovesOn}
use Rattle.record_following.proofs.EntryCalls.{moves_more}
use Rattle.record_following.proofs.following.ReplayedDomain.apply_run.Goals as goal

pub returns : goal.returns
returns c =
    let call : Call = record { by = c.args.by; event = Step c.args.node } in
    let old : MomentValue = c.args.self.now in
    let other : MomentValue = c.apply_ran_steps-2.new.self in
    let new : MomentValue = c.apply_with_reply.new.self in
    let count : c.in-Some.before + 1 ≡ c.args.count = search rules in
    IfOk-weaker c.apply_with_reply.result (λ _. MovesOn other (call ∷ []) new)
    (λ _. MovesOn old (replicate c.args.count call) new)
    (λ _ last. moves_more old other new c.in-Some.before c.args.count call count c.in_ok-apply_ran_steps.ensures last)
    c.apply_with_reply.ensures

pub returns-then-eq : goal.returns-then-eq
returns-then-eq c = c.apply_ran_steps.ensures

pub returns-in_err-apply_ran_steps : goal.returns-in_err-apply_ran_steps
returns-in_err-apply_ran_steps c = IfOk-from_err c.from_residual.result _ c.from_residual.ensures.0
