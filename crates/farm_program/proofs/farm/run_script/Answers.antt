use Rattle.std.proofs.Common.{◌∙◌, ◌<◌, All, List, length, map, ap, subst, sym}
use Rattle.std.specs.Prelude.{IfOk}
use Rattle.std.proofs.lemmas.Result.{IfOk-from_err}
use Rattle.plan_rules.specs.Data.{DomainData}
use Rattle.token_queue.specs.Passes.{AreItsPasses}
use Rattle.whole_farm.specs.Places.{places_of}
use Rattle.farm_service.specs.Passes.{fresh_passes}
use Rattle.farm_service.specs.Closed.{AreDomainsOf, EachMergeRuns}
use Rattle.plan_rules.specs.Users.{all_names}
use Rattle.farm_program.specs.declared.farm.ScriptOutcome.{ScriptOutcome}
use Rattle.farm_program.specs.Closing.{ArePassesOf}
use Rattle.farm_program.specs.Users.{unasked}
use Rattle.farm_program.proofs.ClosingLemmas.{all_listed, passes_kept}
use Rattle.farm_program.proofs.Screening.{closed_screens}
use Rattle.farm_program.proofs.farm.run_script.Goals as goal

pub returns-clause-users : goal.returns-clause-users
returns-clause-users g c =
    let plan = c.in-Ok.opened.service.plan in
    let ends = c.in_ok-ends.ends.users.items in
    let theirs =
    ap (map unasked) c.in_ok-left.ensures.passes
    ∙ passes_kept plan c.args.lines.now ends c.in_ok-ends.ensures.users in
    all_listed (λ (ended : ScriptOutcome). ended.closed.domains.items) c.args.plan
    c.in_ok-left.left.passes.items c.close.result
    (subst (λ (plan : List DomainData). ArePassesOf plan c.in_ok-left.left.passes.items) c.in-Ok.ensures.plan theirs)
    c.close.ensures.users

pub returns-clause-screens : goal.returns-clause-screens
returns-clause-screens g c =
    closed_screens c.full_is_said_truly.ensures.law c.args.plan c.in-Ok.opened.service.plan c.args.lines.now
    c.in_ok-ends.ends.users.items c.in_ok-left.left c.close.result c.in-Ok.ensures.plan c.in_ok-ends.ensures.users
    c.in_ok-left.ensures.passes c.in_ok-left.ensures.screens
    c.close.ensures.users c.close.ensures.full c.close.ensures.screens

pub returns-clause-runs : goal.returns-clause-runs
returns-clause-runs g c =
    subst (λ (plan : List DomainData). IfOk c.close.result
    (λ ended. EachMergeRuns (places_of plan) ended.closed.domains.items))
    c.in-Ok.ensures.plan c.close.ensures.runs

pub returns-clause-domains : goal.returns-clause-domains
returns-clause-domains g c =
    subst (λ (plan : List DomainData). IfOk c.close.result (λ ended. AreDomainsOf plan ended.closed.domains.items))
    c.in-Ok.ensures.plan c.close.ensures.domains

pub run_threads-requires-clause-users : goal.run_threads-requires-clause-users
run_threads-requires-clause-users g c κs within = c.in-Ok.ensures.users ∙ ap fresh_passes (sym c.in-Ok.ensures.plan)

pub run_threads-requires-clause-lines : goal.run_threads-requires-clause-lines
run_threads-requires-clause-lines g c κs within =
    subst (λ (plan : List DomainData). All (λ l. l.user < length (all_names plan)) c.args.lines.now)
    (sym c.in-Ok.ensures.plan) c.requires.lines

pub run_threads-requires-clause-workers : goal.run_threads-requires-clause-workers
run_threads-requires-clause-workers g c κs within =
    subst (λ (plan : List DomainData). AreItsPasses plan c.in-Ok.opened.service.queue c.in-Ok.opened.passes.items)
    (sym c.in-Ok.ensures.plan) c.in-Ok.ensures.passes

pub close-requires : goal.close-requires
close-requires g c = c.in_ok-ends.ensures.workers

pub returns-in_err-ends-clause-domains : goal.returns-in_err-ends-clause-domains
returns-in_err-ends-clause-domains g c = IfOk-from_err c.from_residual.result _ c.from_residual.ensures.0

pub returns-in_err-ends-clause-runs : goal.returns-in_err-ends-clause-runs
returns-in_err-ends-clause-runs g c = IfOk-from_err c.from_residual.result _ c.from_residual.ensures.0

pub returns-in_err-ends-clause-users : goal.returns-in_err-ends-clause-users
returns-in_err-ends-clause-users g c = IfOk-from_err c.from_residual.result _ c.from_residual.ensures.0

pub returns-in_err-ends-clause-screens : goal.returns-in_err-ends-clause-screens
returns-in_err-ends-clause-screens g c = IfOk-from_err c.from_residual.result _ c.from_residual.ensures.0

pub returns-in_err-left-clause-domains : goal.returns-in_err-left-clause-domains
returns-in_err-left-clause-domains g c =
    IfOk-from_err c.from_residual-in_err-left.result _ c.from_residual-in_err-left.ensures.0

pub returns-in_err-left-clause-runs : goal.returns-in_err-left-clause-runs
returns-in_err-left-clause-runs g c =
    IfOk-from_err c.from_residual-in_err-left.result _ c.from_residual-in_err-left.ensures.0

pub returns-in_err-left-clause-users : goal.returns-in_err-left-clause-users
returns-in_err-left-clause-users g c =
    IfOk-from_err c.from_residual-in_err-left.result _ c.from_residual-in_err-left.ensures.0

pub returns-in_err-left-clause-screens : goal.returns-in_err-left-clause-screens
returns-in_err-left-clause-screens g c =
    IfOk-from_err c.from_residual-in_err-left.result _ c.from_residual-in_err-left.ensures.0
