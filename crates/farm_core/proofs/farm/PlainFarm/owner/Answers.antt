use Rattle.std.proofs.Common.{◌≤◌, List, length, refl, sym, ◌∙◌, subst}
use Rattle.domain_core.specs.Domain.{DomainValue}
use Rattle.farm_core.proofs.Plain.{read_at}
use Rattle.farm_core.proofs.Owners.{has_output, one_not_owner_more, free_of_all}
use Rattle.farm_core.proofs.farm.PlainFarm.owner.Goals as goal

pub returns-in-Some-clause-owned : goal.returns-in-Some-clause-owned
returns-in-Some-clause-owned c =
    let same = c.deref-domain-items.ensures.value ∙ c.self.view_is in
    let at =
    read_at c.deref-domain-items.result.now c.args.self.now c.loop-index.index c.loop-index.index c.domain-item.result
    same refl c.loop-index-test.true c.domain-item.is in
    has_output c.switches_say_their_words.ensures.laws c.args.self.now c.loop-index.index c.domain-item.result
    c.in-Some.number c.args.output at (sym c.in-Some.ensures)

pub loop-index-preserved : goal.loop-index-preserved
loop-index-preserved c =
    let same = c.deref-domain-items.ensures.value ∙ c.self.view_is in
    let at =
    read_at c.deref-domain-items.result.now c.args.self.now c.loop-index.index c.loop-index.index c.domain-item.result
    same refl c.loop-index-test.true c.domain-item.is in
    one_not_owner_more c.args.self.now c.loop-index.index c.args.output c.domain-item.result c.loop-index.invariant at
    (sym c.in_default.ensures)

pub returns-clause-free : goal.returns-clause-free
returns-clause-free c = λ _.
    let same = c.deref-domain-items.ensures.value ∙ c.self.view_is in
    free_of_all c.switches_say_their_words.ensures.laws c.args.self.now c.loop-index.index c.args.output
    (subst (λ (ds : List DomainValue). length ds ≤ c.loop-index.index) same c.loop-index-test.false)
    c.loop-index.invariant
