use Rattle.std.proofs.Common.{take}
use Rattle.farm_service.proofs.Listings.{goes_on_more}
use Rattle.farm_service.proofs.session.Session.listed_after.Goals as goal

pub loop-entry-preserved : goal.loop-entry-preserved
loop-entry-preserved c =
    let told = c.commands-told.result.now in
    record {
      so_far =
          goes_on_more c.journals_add_up.ensures.law c.user-user.result c.args.entries.now told
          (take c.args.listed told) c.loop-entry.entry-index c.loop-entry.after c.in_ok-after.after _
          c.loop-entry-test.true c.loop-entry.invariant.so_far c.in_ok-after.ensures.listed;
      within = c.in_ok-after.ensures.within;
    }
