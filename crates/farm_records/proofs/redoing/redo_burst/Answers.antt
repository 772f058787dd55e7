use Rattle.std.proofs.Common.{rules, ◌≡◌, Some}
use Rattle.t414_step.specs.declared.stepping.Stepped.TheVariants.{Ran}
use Rattle.domain_core.specs.Ticket.{Commits}
use Rattle.farm_records.proofs.Steps.{committed_steps}
use Rattle.farm_records.proofs.redoing.redo_burst.Goals as goal

pub returns-in-Done : goal.returns-in-Done
returns-in-Done g c =
    let commits : Commits c.args.domain.now c.burst_by_periods.new.self c.commit_in_place.new.self = search rules in
    let number : c.burst_by_periods.new.self.number ≡ c.args.node = search rules in
    let steps : c.burst_by_periods.new.self.steps ≡ c.args.times = search rules in
    let last : c.burst_by_periods.new.self.last ≡ Some Ran = search rules in
    committed_steps c.args.domain.now c.commit_in_place.new.self c.burst_by_periods.new.self c.args.node
    c.args.times commits number steps last
