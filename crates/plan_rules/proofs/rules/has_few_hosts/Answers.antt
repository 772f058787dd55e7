use Rattle.std.proofs.Common.{arith, ap, sym, ◌∙◌, length, flat_map, List}
use Rattle.std.proofs.lemmas.Bool.{false≢true}
use Rattle.plan_rules.specs.Data.{UserData, DomainData}
use Rattle.plan_rules.specs.Separate.{hosts_of}
use Rattle.plan_rules.proofs.ListLemmas.{length_until}
use Rattle.plan_rules.proofs.rules.has_few_hosts.Goals as goal

pub returns-then-len-left : goal.returns-then-len-left
returns-then-len-left c = (
  λ h. absurd (false≢true h),
  λ few.
      let until =
      length_until (λ (u : UserData). u.hosts) c.deref-user-items.result.now c.loop-user.user-index c.user-item.result
      (omega arith) c.user-item.is in
      let size = ap (λ (u : UserData). length u.hosts) c.user.view_is in
      let whole =
      sym (ap (λ (d : DomainData). length (hosts_of d)) c.domain.view_is)
      ∙ sym (ap (λ (us : List UserData). length (flat_map (λ u. u.hosts) us)) c.deref-user-items.ensures.value) in
      absurd (omega (arith, until, size, whole, c.loop-user.invariant, c.len.ensures, few, c.if-len-left.true)),
)
