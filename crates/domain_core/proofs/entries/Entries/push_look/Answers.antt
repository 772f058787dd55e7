use Rattle.domain_core.proofs.Kept.{look_pushed}
use Rattle.domain_core.proofs.entries.Entries.push_look.Goals as goal

pub returns-clause-entries : goal.returns-clause-entries
returns-clause-entries c =
    rw (
      c.push_reserved.ensures.items,
      c.push_reserved-2.ensures.items,
      c.len-place.ensures,
      c.self.inside.seen.ok.0,
      ← c.self.view_is,
    )
    (look_pushed c.self.inside.seen.items c.self.inside.small.items c.args.by c.args.event c.args.seen
    c.self.invariant.0)
