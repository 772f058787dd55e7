use Rattle.std.proofs.Common.{◌≡◌, ◌+◌, ◌-◌, ◌<◌, ◌≤◌, ℕ, arith}
use Rattle.farm_replay.proofs.Bursting.{HasDone, none_done, more_done, as_burst}
use Rattle.farm_replay.proofs.bursts.run_ticket.Goals as goal

pub loop-left-init : goal.loop-left-init
loop-left-init g c = record {
  done = none_done (c.args.most - c.args.most) c.args.ticket.now (omega arith);
  within = omega arith;
}

pub returns-then-done-some-clause-steps : goal.returns-then-done-some-clause-steps
returns-then-done-some-clause-steps g c =
    let l = c.loop-left in
    let before : ℕ = c.args.most - l.left in
    let more : ℕ = c.burst.ensures.more in
    let done : HasDone (before + more) c.args.ticket.now c.burst.new.self =
    more_done c.steps_add_up.ensures.steps c.steps_add_up.ensures.last before c.in_ok-some.some (before + more)
    c.args.ticket.now l.ticket c.burst.new.self l.invariant.done c.burst.ensures (omega arith) in
    let count : c.steps.result - c.steps-before.result ≡ more =
    omega (arith, c.steps.ensures, c.steps-before.ensures, c.burst.ensures.steps) in
    let few : more < c.in_ok-some.some = omega (arith, count, c.if-done-some.true) in
    let within : before + more ≤ c.args.most = omega (arith, few, c.in_ok-some.ensures.within, l.invariant.within) in
    as_burst (before + more) c.args.most c.args.ticket.now c.burst.new.self done within
    (λ less. c.burst.ensures.ends few)

pub loop-left-preserved : goal.loop-left-preserved
loop-left-preserved g c =
    let l = c.loop-left in
    let before : ℕ = c.args.most - l.left in
    let more : ℕ = c.burst.ensures.more in
    let count : c.steps.result - c.steps-before.result ≡ more =
    omega (arith, c.steps.ensures, c.steps-before.ensures, c.burst.ensures.steps) in
    let within : more ≤ l.left = omega (arith, c.burst.ensures.at_most, c.in_ok-some.ensures.within) in
    let left : c.args.most - (l.left - (c.steps.result - c.steps-before.result)) ≡ before + more =
    omega (arith, count, within, l.invariant.within) in
    record {
      done =
          more_done c.steps_add_up.ensures.steps c.steps_add_up.ensures.last before c.in_ok-some.some
          (c.args.most - (l.left - (c.steps.result - c.steps-before.result))) c.args.ticket.now l.ticket
          c.burst.new.self l.invariant.done c.burst.ensures left;
      within = omega (arith, l.invariant.within);
    }
