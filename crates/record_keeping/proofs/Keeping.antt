-- What a record kept, piece by piece.
use Rattle.std.proofs.Common.{rules, refl, sym, ap, subst, append-nil, ◌≡◌, ◌∙◌, ◌+◌, inl, inr, ℕ, Bool, true, false}
use Rattle.std.proofs.Common.{List, [], ◌++◌, vec_capacity, Option, None, Some}
use Rattle.std.specs.Io.KnownBytes.{Appends}
use Rattle.std.proofs.KnownBytes.{Appends-trans}
use Rattle.plan_rules.specs.Data.{DomainData}
use Rattle.domain_core.specs.Laws.{JournalsAddUp}
use Rattle.farm_records.specs.RecordText.{record_text, lines_of}
use Rattle.record_keeping.specs.declared.domain_record.DomainRecord.{DomainRecord}
use Rattle.record_keeping.specs.Counts.{commands_among, saturated}
use Rattle.record_keeping.specs.Pieces.{entries_of, AreGained, EndWithRoom}
use Rattle.record_keeping.specs.Keeping.{IsSameRecord, KeepsGained, KeepsSome}
use Rattle.record_keeping.specs.KeptPieces.{KeepsPieces, KeepsNothing}
use Rattle.record_keeping.proofs.Counting.{count_twice, count_stays}
use Rattle.record_keeping.proofs.Pieces.{both_gained, all_end_with_room, text_of_both, commands_of_both}

-- pieces, and pieces after them
pub both_kept : JournalsAddUp
    → {S : Type 0} {g : _} (whole : S → Option (List ℕ)) (plan : List DomainData) (number : ℕ) (more : Bool)
    (old between new : DomainRecord S g) → vec_capacity between.room ≡ vec_capacity old.room
    → KeepsPieces whole plan number true old between → KeepsPieces whole plan number more between new
    → KeepsPieces whole plan number more old new
both_kept law whole plan number more old between new same first second =
    let places = vec_capacity old.room in
    let some = commands_among (entries_of first.pieces) in
    let others = commands_among (entries_of second.pieces) in
    let gained : AreGained plan number places between.mark second.pieces new.mark =
    subst (λ (n : ℕ). AreGained plan number n between.mark second.pieces new.mark) same second.gained in
    record {
      pieces = first.pieces ++ second.pieces;
      gained =
          both_gained plan number places old.mark between.mark new.mark first.pieces second.pieces first.gained
          gained;
      last =
          λ done inside.
          all_end_with_room places first.pieces second.pieces
          (subst (λ (n : ℕ). EndWithRoom n second.pieces) same (second.last done inside));
      text =
          subst (λ (text : List ℕ). Appends (whole old.store) (whole new.store) text)
          (sym (text_of_both first.pieces second.pieces))
          (Appends-trans (whole old.store) (whole between.store)
          (whole new.store) (record_text (lines_of (entries_of first.pieces)))
          (record_text (lines_of (entries_of second.pieces))) first.text second.text);
      commands =
          second.commands ∙ ap (λ (n : ℕ). saturated (n + others)) first.commands
          ∙ count_twice old.commands some others
          ∙ ap (λ (n : ℕ). saturated (old.commands + n)) (sym (commands_of_both law first.pieces second.pieces));
    }

-- pieces after which there is no more are pieces after which there may be more
pub more_kept : {S : Type 0} {g : _} (whole : S → Option (List ℕ)) (plan : List DomainData) (number : ℕ) (more : Bool)
    (old new : DomainRecord S g) → KeepsPieces whole plan number more old new
    → KeepsPieces whole plan number true old new
more_kept whole plan number more old new kept = record {
  pieces = kept.pieces;
  gained = kept.gained;
  last = λ none. absurd (search rules);
  text = kept.text;
  commands = kept.commands;
}

-- one record, and again the same
pub still_same : {S : Type 0} {g : _} (old between new : DomainRecord S g) → IsSameRecord old between
    → IsSameRecord between new → IsSameRecord old new
still_same old between new first second = record {
  head = second.head ∙ first.head;
  places = second.places ∙ first.places;
}

-- what stays gains nothing
pub stays_whole : (before after : Option (List ℕ)) → after ≡ before → Appends before after []
stays_whole None after same = tt
stays_whole (Some xs) after same =
    subst (λ (text : Option (List ℕ)). Appends (Some xs) text []) (sym same) (sym (append-nil xs))

-- a record with nothing more that is whole kept no pieces
pub nothing_kept : {S : Type 0} {g : _} (whole : S → Option (List ℕ)) (plan : List DomainData) (number : ℕ)
    (old new : DomainRecord S g) → KeepsNothing whole old new → KeepsPieces whole plan number true old new
nothing_kept whole plan number old new none = record {
  pieces = [];
  gained = none.mark;
  last = λ more. absurd (search rules);
  text = stays_whole (whole old.store) (whole new.store) none.text;
  commands = none.commands ∙ count_stays old.commands 0 old.in_range refl;
}

-- pieces after the mark of a record that owes no other
pub kept_behind : {S : Type 0} {g : _} (whole : S → Option (List ℕ)) (plan : List DomainData) (number : ℕ) (more : Bool)
    (old new : DomainRecord S g) → new.owes_next ≡ false → KeepsPieces whole plan number more old new
    → KeepsGained whole plan number false more old new
kept_behind whole plan number more old new begun kept = record {
  from = old.mark;
  pieces = kept.pieces;
  beginning = refl;
  gained = kept.gained;
  last = kept.last;
  text = kept.text;
  commands = kept.commands;
  begun = begun;
}

-- a record that stays still owes what it owed
pub still_owed : {S : Type 0} {g : _} (whole : S → Option (List ℕ)) (plan : List DomainData) (number : ℕ) (anew : Bool)
    (old new : DomainRecord S g) → new.owes_next ≡ anew → KeepsNothing whole old new
    → KeepsSome whole plan number anew old new
still_owed whole plan number true old new owed none =
    inl (record { is_anew = refl; owed = owed; mark = none.mark; commands = none.commands; text = none.text })
still_owed whole plan number false old new owed none =
    inr (kept_behind whole plan number true old new owed (nothing_kept whole plan number old new none))
