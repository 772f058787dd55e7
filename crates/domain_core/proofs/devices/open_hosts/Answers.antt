use Rattle.std.proofs.Common.{ℕ, ap, sym, ◌∙◌, replicate, arith, ◌≡◌, length}
use Rattle.domain_core.specs.Hosts.{opened_host}
use Rattle.domain_core.proofs.Lists.{map_const}
use Rattle.domain_core.proofs.devices.open_hosts.Goals as goal

pub returns : goal.returns
returns c =
    let all : c.loop-number._number ≡ length c.args.parts.now = omega arith in
    c.loop-number.invariant ∙ ap (λ (n : ℕ). replicate n opened_host) all ∙ sym (map_const opened_host c.args.parts.now)
