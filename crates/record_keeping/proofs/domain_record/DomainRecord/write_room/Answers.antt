use Rattle.std.proofs.Common.{◌≡◌, ◌+◌, rules, string_bytes}
use Rattle.std.specs.Io.KnownBytes.{Appends}
use Rattle.farm_records.specs.RecordText.{record_text, lines_of}
use Rattle.record_keeping.specs.Counts.{commands_among, saturated}
use Rattle.record_keeping.proofs.Holding.{holds_more}
use Rattle.record_keeping.proofs.domain_record.DomainRecord.write_room.Goals as goal

pub invariant_of-self-2 : goal.invariant_of-self-2
invariant_of-self-2 g c =
    let old = c.args.self.now in
    let whole = g.S.RecordStore.whole in
    let gained : Appends (whole old.store) (whole c.append.new.self) (record_text (lines_of old.room.items)) =
    search rules in
    let counted : c.count_with-self.result ≡ saturated (old.commands + commands_among old.room.items) = search rules in
    record {
      in_range = search rules;
      ready = search rules;
      bare = search rules;
      out = search rules;
      counted =
          λ owed. holds_more c.journals_add_up.ensures.law (whole old.store) (whole c.append.new.self)
          (string_bytes old.head) old.room.items old.commands c.count_with-self.result c.append.ensures.unknown gained
          counted (old.counted owed);
    }
