use Rattle.std.proofs.Common.{◌≡◌, ◌<◌, ℕ, true}
use Rattle.std.specs.Prelude.{is_ok}
use Rattle.live_farm.specs.Closings.{HasListedAt, WasAskedAt}
use Rattle.live_farm.proofs.program.keep_rest.Given as goal

-- the records of the domains so far were asked, and each kept all unless something failed
abbrev pub invariant-loop-domain : goal.invariant-loop-domain
invariant-loop-domain g l =
    (is_ok l.kept ≡ true → (d : ℕ) → d < l.domain
    → HasListedAt g.K.SharedRecord.has_kept g.K.SharedRecord.was_out l.fn.service.plan l.fn.passes
    l.fn.outputs.records.now d)
    × ((d : ℕ) → d < l.domain
    → WasAskedAt g.K.SharedRecord.was_asked l.fn.service.plan l.fn.passes l.fn.outputs.records.now d)
