use Rattle.std.proofs.Common.{arith, true, ◌≡◌, ◌<◌, ℕ, List, length, Option, Some, ap, sym, ◌∙◌, subst}
use Rattle.std.specs.Prelude.{slice_get, nat_lt}
use Rattle.std.proofs.lemmas.Bool.Decides.{nat_tests}
use Rattle.std.proofs.lemmas.Option.{slice_get-get_or}
use Rattle.plan_rules.specs.declared.part.HostPart.{HostPart}
use Rattle.domain_core.specs.declared.event.By.{By}
use Rattle.domain_core.specs.MachineValue.{MachineValue}
use Rattle.domain_core.specs.PrivateFarm.{owns, is_owned_by}
use Rattle.domain_core.proofs.machine.RunningMachine.owns.Goals as goal

-- a number that was found less than another is
lt_of : (m n : ℕ) → nat_lt m n ≡ true → m < n
lt_of m n is = grind (arith, nat_tests)

pub returns-in-User-Some-clause-owns : goal.returns-in-User-Some-clause-owns
returns-in-User-Some-clause-owns g c =
    let hosts : c.hosts.result.now ≡ c.args.self.now.part.hosts =
    c.hosts.ensures.hosts ∙ ap (λ (m : MachineValue). m.part.hosts) c.self.view_is in
    let here : c.from.result < length c.hosts.result.now = lt_of _ _ (sym c.in-User-Some.ensures.lookup.0) in
    let found : slice_get c.hosts.result.now c.from.result ≡ Some c.in-User-Some.host.now =
    slice_get-get_or c.hosts.result.now c.from.result c.in-User-Some.host.now here
    ∙ ap (λ (h : HostPart). let o : Option HostPart = Some h in o) (sym c.in-User-Some.ensures.lookup.1) in
    ap (λ (o : Option HostPart). is_owned_by o c.in-User-Some.user)
    (sym found ∙ (λ i. slice_get (hosts i) (c.from.ensures i)))
    ∙ ap (λ (by : By). owns c.args.self.now.part by c.args.host) (sym c.in-User-Some.is-0)

pub returns-in-User-Some-clause-there : goal.returns-in-User-Some-clause-there
returns-in-User-Some-clause-there g c =
    let hosts : c.hosts.result.now ≡ c.args.self.now.part.hosts =
    c.hosts.ensures.hosts ∙ ap (λ (m : MachineValue). m.part.hosts) c.self.view_is in
    let here : c.from.result < length c.hosts.result.now = lt_of _ _ (sym c.in-User-Some.ensures.lookup.0) in
    λ _. subst (λ (n : ℕ). n < length c.args.self.now.part.hosts) c.from.ensures
    (subst (λ (xs : List HostPart). c.from.result < length xs) hosts here)

pub returns-in-User-None-2-clause-owns : goal.returns-in-User-None-2-clause-owns
returns-in-User-None-2-clause-owns g c =
    ap (λ (by : By). owns c.args.self.now.part by c.args.host) (sym c.in-User-None.is-0)
