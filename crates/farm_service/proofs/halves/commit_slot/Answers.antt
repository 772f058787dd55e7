use Rattle.std.proofs.Common.{rules, ◌≡◌, Err}
use Rattle.domain_core.specs.declared.event.Refusal.{Refusal}
use Rattle.farm_service.proofs.LentCommits.{committed_lent, refused}
use Rattle.farm_service.proofs.halves.commit_slot.Goals as goal

pub returns-in-Done : goal.returns-in-Done
returns-in-Done c =
    rw (c.if-checked_out.true, c.in-Some.is)
    (committed_lent c.args.domain.now c.commit_in_place.new.self c.in-Some.ticket c.commit_in_place.new.ticket
    c.commit_in_place.result (search rules) c.commit_in_place.ensures.stale c.commit_in_place.ensures.full
    c.commit_in_place.ensures.done c.commit_in_place.ensures.spent)

pub returns-in_err-commit_in_place-in-Some : goal.returns-in_err-commit_in_place-in-Some
returns-in_err-commit_in_place-in-Some c =
    let refusal : Refusal = c.in_err-commit_in_place-in-Some.field-0.0 in
    let told : c.from_residual.result ≡ Err refusal = search rules in
    rw (c.if-checked_out.true, c.in-Some.is, told)
    (refused c.args.domain.now c.commit_in_place.new.self c.in-Some.ticket c.commit_in_place.new.ticket
    c.commit_in_place.result refusal c.in_err-commit_in_place-in-Some.was c.commit_in_place.ensures.stale
    c.commit_in_place.ensures.full c.commit_in_place.ensures.no_such c.commit_in_place.ensures.unchanged)
