use Rattle.std.proofs.Common.{◌≡◌, rules, subst, sym, refl, length, slice_get, Some, [], ◌∷◌}
use Rattle.std.proofs.lemmas.Option.{slice_get_read}
use Rattle.plan_rules.specs.Data.{DomainData}
use Rattle.plan_rules.specs.Separate.{IsSeparate}
use Rattle.plan_rules.proofs.SeparateLemmas.{alone}
use Rattle.plan_rules.proofs.accepted.AcceptedPlan.ranges.Goals as goal

pub row_of-requires : goal.row_of-requires
row_of-requires c =
    let at_domain = rw c.from.ensures at c.index.ensures in
    subst (λ (d : DomainData). IsSeparate (d ∷ [])) (sym at_domain)
    (alone _ c.self.invariant.separate c.args.domain c.index.result.now (search rules))

pub returns-clause-row : goal.returns-clause-row
returns-clause-row c =
    let at_domain = rw c.from.ensures at c.index.ensures in
    let here : slice_get c.self.inside.domains.items c.args.domain ≡ Some c.index.result.now =
    slice_get_read _ (length c.self.inside.domains.items) c.args.domain c.index.result.now refl (search rules)
    at_domain in
    rw (← c.self.view_is, here) c.row_of.ensures.row

pub returns-clause-ranges : goal.returns-clause-ranges
returns-clause-ranges c = c.row_of.ensures.ranges
