use Rattle.std.proofs.Common.{arith}
use Rattle.live_farm.proofs.Following.{followed_more}
use Rattle.live_farm.proofs.causes.JournalReplay.apply_piece.Goals as goal

pub returns : goal.returns
returns g c =
    followed_more c.moments_go_on.ensures.law c.journals_add_up.ensures.law c.args.service.now.plan c.args.domain
    c.args.session.now c.args.self.now.mark c.in-Ok.mark _ _ _ c.args.self.now.listed c.in-Some.listed
    c.args.self.now.left c.saturating_sub-self.result _ _ c.as_slice-entries.result.now c.args.self.now.replayed
    c.apply_entries.new.self c.clear.ensures.items c.clear.ensures.len c.as_slice-entries.ensures.value
    c.in-Ok.ensures.copied c.in-Some.ensures.listed c.in-Some.ensures.within
    (omega (
      arith,
      c.saturating_sub-self.ensures,
      c.saturating_sub.ensures,
      c.saturating_sub-done.ensures,
      c.recorded_events.ensures,
      c.recorded_events-before.ensures,
      c.saturating_mul-copied.ensures,
      c.len.ensures,
      c.as_slice-entries.ensures.len,
    ))
    c.requires c.in_ok-apply_entries.ensures
