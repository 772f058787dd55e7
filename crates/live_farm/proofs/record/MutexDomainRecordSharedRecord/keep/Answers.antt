use Rattle.std.proofs.Common.{◌||◌}
use Rattle.live_farm.proofs.Recorded.{kept_there}
use Rattle.live_farm.proofs.record.MutexDomainRecordSharedRecord.keep.Goals as goal

pub returns-clause-kept : goal.returns-clause-kept
returns-clause-kept g c =
    let old = c.deref_mut.result.now in
    kept_there g.S.RecordStore g.S.RecordStore.whole c.args.service.now.plan c.args.asked.domain c.args.asked.commands
    (old.owes_next || c.args.begins_anew) old c.keep.new.self c.keep.result c.keep.ensures.kept c.keep.ensures.has_all
