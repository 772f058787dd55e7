use Rattle.std.proofs.Common.{rules, ◌≡◌, ◌+◌, Some}
use Rattle.t414_step.specs.declared.stepping.Stepped.TheVariants.{Ran}
use Rattle.domain_core.specs.Moments.{MomentValue, state_at, LeadsOn}
use Rattle.domain_core.specs.Ticket.{steps_told}
use Rattle.record_following.proofs.Followed.{steps_ran}
use Rattle.record_following.proofs.following.ReplayedDomain.apply_steps.Goals as goal

pub returns : goal.returns
returns c =
    let old : MomentValue = c.args.self.now in
    let new : MomentValue = c.burst.new.self in
    let burst = c.in_ok-burst.burst in
    let count : burst.steps ≡ c.args.times = search rules in
    let ran : burst.last ≡ Some Ran = search rules in
    let leads : LeadsOn old.machine.part (state_at old) (steps_told c.args.node burst.steps burst.last) (state_at new) =
    search rules in
    let recorded : new.recorded ≡ old.recorded + burst.steps = search rules in
    let part : new.machine.part ≡ old.machine.part = search rules in
    steps_ran old new c.args.node c.args.times burst.steps burst.last count ran leads recorded part
