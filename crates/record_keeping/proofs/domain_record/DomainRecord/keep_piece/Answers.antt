use Rattle.std.proofs.Common.{rules, refl, ◌≡◌, ◌<◌, subst, List, [], ◌∷◌, ℕ, length, vec_capacity}
use Rattle.std.specs.Io.KnownBytes.{Appends}
use Rattle.record_keeping.specs.Pieces.{JournalPiece}
use Rattle.record_keeping.proofs.Pieces.{one_gained, text_of_one, counted_one}
use Rattle.record_keeping.proofs.domain_record.DomainRecord.keep_piece.Goals as goal

pub returns-clause-kept : goal.returns-clause-kept
returns-clause-kept g c =
    let whole = g.S.RecordStore.whole in
    let old = c.args.self.now in
    let written = c.write_room.new.self in
    let piece : JournalPiece = record { entries = c.copy_gained.new.room.items; reached = c.in-Ok.mark } in
    record {
      pieces = piece ∷ [];
      gained =
          one_gained c.args.service.now.plan c.args.domain (vec_capacity old.room) old.mark c.in-Ok.mark _ _ _ _
          c.clear.ensures.items c.clear.ensures.len c.clear.ensures.capacity c.in-Ok.ensures.copied;
      last =
          λ few inside some.
          let same = c.in_ok-write_room.ensures.rest.1 in
          let places : vec_capacity written.room ≡ vec_capacity old.room = search rules in
          let less : length written.room.items < vec_capacity written.room =
          c.is_room_full.ensures few (λ none. some (search rules)) in
          search rules;
      text =
          subst (λ (text : List ℕ). Appends (whole old.store) (whole written.store) text)
          (text_of_one piece) c.in_ok-write_room.ensures.text;
      commands =
          counted_one piece written.room.items old.commands old.commands written.commands (search rules) refl
          (search rules);
    }
