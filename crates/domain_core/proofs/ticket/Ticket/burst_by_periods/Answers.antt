use Rattle.std.proofs.Common.{ℕ, ◌≤◌, ◌+◌, ◌-◌, subst, arith}
use Rattle.domain_core.specs.Ticket.{Bursts}
use Rattle.domain_core.proofs.Periods.{bursts_add, rest_of}
use Rattle.domain_core.proofs.ticket.Ticket.burst_by_periods.Goals as goal
use Rattle.domain_core.proofs.ticket.Ticket.burst_by_periods.Goals.{then-n-lt-LEAST_FOR_PERIODS, else-n-lt-LEAST_FOR_PERIODS}

pub returns : goal.returns
returns c =
    let n : ℕ = c.args.n in
    let tried : ℕ = c.burst_to_start-tried.result in
    let skipped : ℕ = c.skip_periods-skipped.result in
    let few : tried ≤ n =
    elim c.if-n-lt-LEAST_FOR_PERIODS.branch [
      | then-n-lt-LEAST_FOR_PERIODS w ↦ omega (arith, w, c.burst_to_start-tried.ensures.few)
      | else-n-lt-LEAST_FOR_PERIODS w ↦ omega (arith, w, c.burst_to_start-tried.ensures.few)
    ] in
    let before : Bursts (tried + skipped) c.args.self.now c.skip_periods-skipped.new.self =
    bursts_add c.steps_add_up.ensures.steps c.steps_add_up.ensures.last tried skipped c.args.self.now
    c.burst_to_start-tried.new.self c.skip_periods-skipped.new.self c.burst_to_start-tried.ensures.bursts
    c.skip_periods-skipped.ensures.bursts c.stepped_law.ensures in
    subst (λ (i : ℕ). Bursts i c.args.self.now c.burst.new.self)
    (rest_of n tried skipped few c.skip_periods-skipped.ensures.few)
    (bursts_add c.steps_add_up.ensures.steps c.steps_add_up.ensures.last (tried + skipped) (n - tried - skipped)
    c.args.self.now c.skip_periods-skipped.new.self c.burst.new.self before c.burst.ensures c.stepped_law-2.ensures)
