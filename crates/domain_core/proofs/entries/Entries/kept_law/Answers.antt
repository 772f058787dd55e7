use Rattle.std.proofs.Common.{subst, vec_len, vec_capacity}
use Rattle.domain_core.specs.Entries.{EntriesValue}
use Rattle.domain_core.specs.Journal.{IsKeptWithin}
use Rattle.domain_core.proofs.Reserved.{kept_within}
use Rattle.domain_core.proofs.entries.Entries.kept_law.Goals as goal

pub returns : goal.returns
returns c =
    let kept = c.self.inside in
    subst (λ (v : EntriesValue). IsKeptWithin v.entries v.reserved) c.self.view_is
    (kept_within kept.seen.items kept.small.items kept.reserved (vec_len kept.small) (vec_len kept.seen)
    (vec_capacity kept.small) (vec_capacity kept.seen) c.self.invariant.0 c.self.invariant.1 kept.small.ok.0)
