use Rattle.std.proofs.Common.{subst, ap, map, ◌∙◌}
use Rattle.std.specs.Prelude.{IfOk}
use Rattle.whole_farm.specs.Places.{places_of}
use Rattle.farm_service.specs.declared.closed.Closed.{Closed}
use Rattle.farm_service.specs.Closed.{EachMergeRuns}
use Rattle.farm_service.specs.Passes.{fresh_passes}
use Rattle.live_farm.specs.Names.{user_number_of}
use Rattle.live_farm.proofs.Closings.{same_users, all_listed_of, all_kept_of}
use Rattle.live_farm.proofs.program.run_live.Goals as goal

pub returns-clause-runs : goal.returns-clause-runs
returns-clause-runs g c =
    subst (λ plan. IfOk c.close.result (λ (closed : Closed). EachMergeRuns (places_of plan) closed.domains.items))
    c.in-Ok.ensures.plan
    c.close.ensures.runs

pub returns-clause-users : goal.returns-clause-users
returns-clause-users g c =
    let plan = c.args.plan in
    let theirs =
    c.in_ok-users.ensures.users ∙ ap (map user_number_of) c.in-Ok.ensures.users ∙ same_users _ (fresh_passes plan) in
    all_listed_of plan _ _ c.close.result c.in-Ok.ensures.plan theirs c.close.ensures.users c.close.ensures.full

pub returns-clause-kept : goal.returns-clause-kept
returns-clause-kept g c =
    let plan = c.args.plan in
    let records = c.args.outputs.now.records.now in
    let theirs =
    c.in_ok-users.ensures.users ∙ ap (map user_number_of) c.in-Ok.ensures.users ∙ same_users _ (fresh_passes plan) in
    all_kept_of g.K.SharedRecord.has_kept g.K.SharedRecord.was_out plan _ records _ c.close.result
    c.in-Ok.ensures.plan theirs c.close.ensures.users c.in_ok-users.ensures.kept
