use Rattle.std.proofs.Common.{◌≡◌, ◌+◌, true, List, Err, drop, sym, subst}
use Rattle.domain_core.specs.declared.event.Refusal.TheVariants.{NoMemory}
use Rattle.domain_core.specs.PrivateFarm.{Answer}
use Rattle.whole_farm.specs.Places.{places_of}
use Rattle.farm_core.specs.Run.{calls_asked}
use Rattle.farm_core.proofs.AnswersOfRuns.{IsToldSoFar, told_nothing, told_next, but_for_memory}
use Rattle.farm_core.proofs.calls.answers_to.Goals as goal

pub loop-domain-init : goal.loop-domain-init
loop-domain-init c =
    let plan = places_of c.args.plan.now in
    let calls = calls_asked c.args.calls.now in
    subst (λ (told : List Answer). IsToldSoFar plan told calls calls c.in_ok-farm.farm) (sym c.new-told.ensures.items)
    (told_nothing plan calls c.in_ok-farm.farm c.in_ok-farm.ensures.places c.in_ok-farm.ensures.whole)

pub loop-domain-preserved : goal.loop-domain-preserved
loop-domain-preserved c =
    let plan = places_of c.args.plan.now in
    let asked = c.args.calls.now in
    let not : c.apply-answer.result ≡ Err NoMemory → ⊥ = λ e.
    let yes : c.met_want.result ≡ true = c.met_want.ensures.1 e in
    let no = c.if-met_want.false in cc in
    let whole = but_for_memory c.apply-answer.result not c.apply-answer.ensures.whole in
    subst (λ (told : List Answer).
    IsToldSoFar plan told (calls_asked (drop (c.loop-domain.domain-index + 1) asked)) (calls_asked asked)
    c.apply-answer.new.self)
    (sym c.in_ok-push.ensures.items)
    (told_next plan c.loop-domain.told.items asked c.loop-domain.domain-index _ c.loop-domain.farm
    c.apply-answer.new.self c.apply-answer.result c.loop-domain-test.true c.loop-domain.invariant whole
    c.apply-answer.ensures.places)
