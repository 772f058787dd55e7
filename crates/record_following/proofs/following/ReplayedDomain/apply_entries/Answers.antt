use Rattle.record_following.proofs.EntryCalls.{one_entry}
use Rattle.record_following.proofs.following.ReplayedDomain.apply_entries.Goals as goal

pub loop-entry-preserved : goal.loop-entry-preserved
loop-entry-preserved c =
    one_entry c.journals_add_up.ensures.law c.args.entries.now c.loop-entry.entry-index _ c.args.most c.args.self.now
    c.loop-entry.self c.apply_entry_before.new.self
    c.loop-entry-test.true c.loop-entry.invariant c.in_ok-apply_entry_before.ensures
