use Rattle.std.proofs.Common.{◌≡◌, ◌<◌, ℕ, rules, subst}
use Rattle.std.specs.Prelude.{length}
use Rattle.live_farm.specs.Closings.{HasListedAt, WasAskedAt}
use Rattle.live_farm.proofs.Keeping.{below_more, if_ok, on_ok}
use Rattle.live_farm.proofs.program.keep_rest.Goals as goal

pub loop-domain-preserved : goal.loop-domain-preserved
loop-domain-preserved g c =
    let record_says = g.K.SharedRecord in
    let plan = c.args.service.now.plan in
    let passes = c.args.passes.now in
    let records = c.args.outputs.now.records.now in
    let domain = c.loop-domain.domain in (
      λ ok. below_more (HasListedAt record_says.has_kept record_says.was_out plan passes records) domain
          (c.loop-domain.invariant.0 (c.later_failure-kept.ensures ok).0)
          (if_ok c.keep_at-last.result c.keep_at-last.ensures.kept (c.later_failure-kept.ensures ok).1),
      below_more (WasAskedAt record_says.was_asked plan passes records) domain c.loop-domain.invariant.1
          c.keep_at-last.ensures.asked,
    )

pub returns : goal.returns
returns g c =
    let record_says = g.K.SharedRecord in
    let plan = c.args.service.now.plan in
    let passes = c.args.passes.now in
    let records = c.args.outputs.now.records.now in
    let all : c.loop-domain.domain ≡ length plan = search rules in
    record {
      kept =
          on_ok c.loop-domain.kept
          (λ ok. subst (λ (k : ℕ). (d : ℕ) → d < k
          → HasListedAt record_says.has_kept record_says.was_out plan passes records d) all
          (c.loop-domain.invariant.0 ok));
      asked =
          subst (λ (k : ℕ). (d : ℕ) → d < k → WasAskedAt record_says.was_asked plan passes records d) all
          c.loop-domain.invariant.1;
    }
