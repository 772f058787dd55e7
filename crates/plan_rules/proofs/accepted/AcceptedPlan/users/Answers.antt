use Rattle.std.proofs.Common.{◌≡◌, rules, arith, subst, sym, refl, length, slice_get, Some, [], ◌∷◌, ap}
use Rattle.std.proofs.lemmas.Option.{slice_get_read}
use Rattle.plan_rules.specs.Data.{DomainData}
use Rattle.plan_rules.specs.Separate.{IsSeparate}
use Rattle.plan_rules.proofs.SeparateLemmas.{alone, users_few}
use Rattle.plan_rules.proofs.accepted.AcceptedPlan.users.Goals as goal

pub overflow_cast-result : goal.overflow_cast-result
overflow_cast-result c =
    let at_domain = rw c.from.ensures at c.index.ensures in
    let sep =
    subst (λ (d : DomainData). IsSeparate (d ∷ [])) (sym at_domain)
    (alone _ c.self.invariant.separate c.args.domain c.index.result.now (search rules)) in
    let few = users_few c.index.result.now sep in
    let size = ap (λ (d : DomainData). length d.users) c.behind-self.view_is in
    search rules

pub returns : goal.returns
returns c =
    let at_domain = rw c.from.ensures at c.index.ensures in
    let here : slice_get c.self.inside.domains.items c.args.domain ≡ Some c.index.result.now =
    slice_get_read _ (length c.self.inside.domains.items) c.args.domain c.index.result.now refl (search rules)
    at_domain in
    let size = ap (λ (d : DomainData). length d.users) c.behind-self.view_is in
    rw (← c.self.view_is, here) (omega (arith, c.len.ensures, size))
