use Rattle.std.proofs.Common.{rules, sym, subst, Bool, true, false}
use Rattle.record_keeping.specs.declared.domain_record.DomainRecord.{DomainRecord}
use Rattle.record_keeping.specs.KeptPieces.{KeepsPieces}
use Rattle.record_keeping.proofs.Keeping.{both_kept, more_kept, nothing_kept, still_same}
use Rattle.record_keeping.proofs.domain_record.DomainRecord.keep_gained.Goals.{in-None}
use Rattle.record_keeping.proofs.domain_record.DomainRecord.keep_gained.Goals.{in-Some+in_ok-more+then-has_all}
use Rattle.record_keeping.proofs.domain_record.DomainRecord.keep_gained.Goals as goal

pub loop-preserved : goal.loop-preserved
loop-preserved g c =
    let whole = g.S.RecordStore.whole in
    let plan = c.args.service.now.plan in
    let old = c.args.self.now in
    let new = c.keep_piece.new.self in
    record {
      kept =
          both_kept c.journals_add_up.ensures.law whole plan c.args.domain true old c.loop.self new
          c.loop.invariant.same.places
          c.loop.invariant.kept
          (more_kept whole plan c.args.domain c.in_ok-more.more c.loop.self new c.in_ok-more.ensures.kept);
      same = still_same old c.loop.self new c.loop.invariant.same c.keep_piece.ensures.same;
      ready = search rules;
      failed = search rules;
      owes = search rules;
      is_out = search rules;
      can_next = tt;
      is_finite = tt;
    }

pub returns-clause-kept : goal.returns-clause-kept
returns-clause-kept g c = elim c.match-next.branch [
  | in-None w ↦ search rules
  | in-Some+in_ok-more+then-has_all w ↦
      let whole = g.S.RecordStore.whole in
      let plan = c.args.service.now.plan in
      let old = c.args.self.now in
      let new = w.keep_piece.new.self in
      subst (λ (kept : DomainRecord g.row.S.Denot g.S.RecordStore). KeepsPieces whole plan c.args.domain false old kept)
      (sym w.self-is)
      (both_kept c.journals_add_up.ensures.law whole plan c.args.domain false old c.loop.self new
      c.loop.invariant.same.places c.loop.invariant.kept
      (subst (λ (more : Bool). KeepsPieces whole plan c.args.domain more c.loop.self new)
      (w.has_all.ensures w.if-has_all.true).0 w.in_ok-more.ensures.kept))
]

pub returns-in_err-more-clause-err : goal.returns-in_err-more-clause-err
returns-in_err-more-clause-err g c =
    let whole = g.S.RecordStore.whole in
    let plan = c.args.service.now.plan in
    let new = c.keep_piece.new.self in
    let kept : KeepsPieces whole plan c.args.domain true c.args.self.now new =
    both_kept c.journals_add_up.ensures.law whole plan c.args.domain true c.args.self.now c.loop.self new
    c.loop.invariant.same.places
    c.loop.invariant.kept
    (nothing_kept whole plan c.args.domain c.loop.self new c.in_err-more.ensures.err) in
    search rules
