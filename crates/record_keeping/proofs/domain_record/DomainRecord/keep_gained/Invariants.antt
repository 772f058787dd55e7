use Rattle.std.proofs.Common.{◌≡◌, true}
use Rattle.record_keeping.specs.Keeping.{IsSameRecord}
use Rattle.record_keeping.specs.KeptPieces.{KeepsPieces}
use Rattle.record_keeping.specs.Writing.{IsAllWhole}
use Rattle.record_keeping.proofs.domain_record.DomainRecord.keep_gained.Given as goal

-- what was kept so far, with which there may be more
abbrev pub invariant-loop : goal.invariant-loop
invariant-loop g l = record {
  kept : KeepsPieces g.S.RecordStore.whole l.service.plan l.domain true l.initial.self l.self;
  same : IsSameRecord l.initial.self l.self;
  ready : IsAllWhole g.S.RecordStore.contents g.S.RecordStore.whole l.self.store;
  failed : l.self.failed ≡ l.initial.self.failed;
  owes : l.self.owes_next ≡ l.initial.self.owes_next;
  is_out : l.self.is_out ≡ l.initial.self.is_out;
  can_next : (goal.iterator-loop g).can_next l.iterator';
  is_finite : (goal.iterator-loop g).is_finite l.iterator';
}
