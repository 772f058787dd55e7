use Rattle.std.proofs.Common.{◌≤◌, List, length, refl, ◌∙◌, subst}
use Rattle.domain_core.specs.Domain.{DomainValue}
use Rattle.whole_farm.specs.Places.{AreSeparatePlaces}
use Rattle.whole_farm.specs.Values.{all_places}
use Rattle.farm_core.proofs.Plain.{read_at}
use Rattle.farm_core.proofs.Wholes.{one_meant_more, all_meant, all_rows, have_a_whole}
use Rattle.farm_core.proofs.farm.PlainFarm.whole_law.Goals as goal

pub loop-domain-preserved : goal.loop-domain-preserved
loop-domain-preserved c =
    let same = c.deref-domain-items.ensures.value ∙ c.self.view_is in
    let at =
    read_at c.deref-domain-items.result.now c.args.self.now c.loop-domain.domain-index c.loop-domain.domain-index
    c.domain-item.result same refl c.loop-domain-test.true c.domain-item.is in
    one_meant_more c.args.self.now c.loop-domain.domain-index c.domain-item.result c.loop-domain.invariant at
    c.meant_law.ensures.journal c.meant_law.ensures.row

-- the loop has been through all
pub returns-clause-meant : goal.returns-clause-meant
returns-clause-meant c =
    let same = c.deref-domain-items.ensures.value ∙ c.self.view_is in
    all_meant c.args.self.now c.loop-domain.domain-index
    (subst (λ (ds : List DomainValue). length ds ≤ c.loop-domain.domain-index) same c.loop-domain-test.false)
    c.loop-domain.invariant

pub returns-clause-rows : goal.returns-clause-rows
returns-clause-rows c =
    let same = c.deref-domain-items.ensures.value ∙ c.self.view_is in
    all_rows c.args.self.now c.loop-domain.domain-index
    (subst (λ (ds : List DomainValue). length ds ≤ c.loop-domain.domain-index) same c.loop-domain-test.false)
    c.loop-domain.invariant

pub returns-clause-whole : goal.returns-clause-whole
returns-clause-whole c =
    let same = c.deref-domain-items.ensures.value ∙ c.self.view_is in
    have_a_whole c.each_merge_is_a_run.ensures.domains c.args.self.now
    (subst (λ (ds : List DomainValue). AreSeparatePlaces (all_places ds)) c.self.view_is c.self.invariant)
    (all_meant c.args.self.now c.loop-domain.domain-index
    (subst (λ (ds : List DomainValue). length ds ≤ c.loop-domain.domain-index) same c.loop-domain-test.false)
    c.loop-domain.invariant)
