use Rattle.std.proofs.Common.{◌≡◌, ◌+◌, arith, length, take}
use Rattle.std.proofs.lemmas.List.{take_more, length-take}
use Rattle.plan_rules.proofs.SeparateLemmas.{hosts_more}
use Rattle.plan_rules.proofs.parts.host_parts.Goals as goal

pub loop-number-preserved : goal.loop-number-preserved
loop-number-preserved c =
    let len : 0 + length (take c.loop-number.number c.args.users.now) ≡ c.loop-number.number =
    omega (arith, length-take c.loop-number.number c.args.users.now) in
    rw (
      take_more c.args.users.now c.loop-number.number c.index-users-number.result (omega arith),
      ← c.index-users-number.is,
      hosts_more,
      len,
      ← c.loop-number.invariant,
    )
    c.in_ok-push_hosts.ensures
