use Rattle.std.proofs.Common.{rules}
use Rattle.record_keeping.specs.Keeping.{KeepsSome}
use Rattle.record_keeping.proofs.Keeping.{still_owed}
use Rattle.record_keeping.proofs.domain_record.DomainRecord.mend_and_keep.Goals as goal

pub returns-in_err-cut_back-clause-err : goal.returns-in_err-cut_back-clause-err
returns-in_err-cut_back-clause-err g c =
    let whole = g.S.RecordStore.whole in
    let plan = c.args.service.now.plan in
    let old = c.args.self.now in
    let new = c.cut_back.new.self in
    let some : KeepsSome whole plan c.args.domain old.owes_next old new =
    still_owed whole plan c.args.domain old.owes_next old new c.cut_back.ensures.stays.1 c.cut_back.ensures.stays.0 in
    search rules
