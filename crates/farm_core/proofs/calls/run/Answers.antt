use Rattle.std.proofs.Common.{◌∙◌, ap, sym, subst, length, List}
use Rattle.domain_core.specs.PrivateFarm.{Answer}
use Rattle.whole_farm.specs.Places.{places_of}
use Rattle.whole_farm.specs.Laws.{answers_among}
use Rattle.farm_core.specs.Run.{calls_asked, NobodyElsewhere}
use Rattle.farm_core.proofs.AnswersOfRuns.{one_answer_each, nobody_elsewhere}
use Rattle.farm_core.proofs.calls.run.Goals as goal

pub returns-in-Ok-clause-private : goal.returns-in-Ok-clause-private
returns-in-Ok-clause-private c = λ domain place there.
    let separate =
    c.numbered_domains_are_separate.ensures.law c.args.plan.now c.separate_law.ensures.own c.separate_law.ensures.apart
    in
    ap (answers_among domain (calls_asked c.args.calls.now)) c.in-Ok.ensures
    ∙ c.each_domain_is_private.ensures.told (places_of c.args.plan.now) (calls_asked c.args.calls.now) domain place
    separate there

pub returns-in-Ok-clause-elsewhere : goal.returns-in-Ok-clause-elsewhere
returns-in-Ok-clause-elsewhere c =
    subst (λ (told : List Answer). NobodyElsewhere c.args.plan.now (calls_asked c.args.calls.now) told)
    (sym c.in-Ok.ensures)
    (nobody_elsewhere c.each_call_is_private.ensures.elsewhere c.args.plan.now (calls_asked c.args.calls.now))

pub returns-in-Ok-clause-one_each : goal.returns-in-Ok-clause-one_each
returns-in-Ok-clause-one_each c =
    ap (λ (told : List Answer). length told) c.in-Ok.ensures
    ∙ one_answer_each (places_of c.args.plan.now) c.args.calls.now
