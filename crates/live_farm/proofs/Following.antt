-- A domain that follows one more piece of its journal: the contract of `JournalReplay::apply_piece`.
use Rattle.std.proofs.Common.{◌≡◌, ◌≤◌, ◌∙◌, ◌+◌, ◌-◌, ◌*◌, ◌++◌, ℕ, List, [], ◌∷◌, take, length, ap, refl, sym, subst}
use Rattle.std.proofs.Common.{append-nil, length-append, arith}
use Rattle.std.proofs.lemmas.Grind.{flat_map-append}
use Rattle.std.proofs.lemmas.List.Elements.{filter_map-append}
use Rattle.plan_rules.specs.Data.{DomainData}
use Rattle.domain_core.specs.declared.copying.Mark.{Mark}
use Rattle.domain_core.specs.declared.journal.Entry.{Entry}
use Rattle.domain_core.specs.declared.event.AnsweredCommand.{AnsweredCommand}
use Rattle.domain_core.specs.Journal.{expanded}
use Rattle.domain_core.specs.Laws.{JournalsAddUp}
use Rattle.domain_core.specs.Moments.{MomentValue}
use Rattle.domain_core.specs.PrivateFarm.{Call}
use Rattle.farm_service.specs.Commands.{command_from, commands_of}
use Rattle.farm_service.specs.Domains.{GainsCopies}
use Rattle.farm_service.specs.Passes.{SessionValue}
use Rattle.record_following.specs.Following.{entry_calls, calls_before, IsMomentAfter, MovesOn, MomentsGoOn}
use Rattle.live_farm.specs.Whys.{FollowedPiece, ArePieces, calls_followed, done_again, entries_copied, IsFollowed}

-- pieces up to a mark, and one from there
pieces_more : (plan : List DomainData) (number : ℕ) (start mark : Mark) (pieces : List FollowedPiece)
    (last : FollowedPiece) → ArePieces plan number start pieces mark
    → GainsCopies plan number mark last.reached [] last.entries 0 last.places
    → ArePieces plan number start (pieces ++ last ∷ []) last.reached
pieces_more plan number start mark [] last gained copies =
    let from : Mark → Type 0 = λ mark. GainsCopies plan number mark last.reached [] last.entries 0 last.places in
    (subst from gained copies, refl)
pieces_more plan number start mark (piece ∷ pieces) last gained copies =
    (gained.0, pieces_more plan number piece.reached mark pieces last gained.1 copies)

-- the calls of pieces, and of one after them
calls_more : (pieces : List FollowedPiece) (last : FollowedPiece)
    → calls_followed (pieces ++ last ∷ []) ≡ calls_followed pieces ++ take last.count (entry_calls last.entries)
calls_more pieces last =
    let made : FollowedPiece → List Call = λ piece. take piece.count (entry_calls piece.entries) in
    flat_map-append made pieces (last ∷ [])
    ∙ ap (λ (calls : List Call). calls_followed pieces ++ calls) (append-nil (made last))

-- the entries of pieces, and of one after them
entries_more : (pieces : List FollowedPiece) (last : FollowedPiece)
    → entries_copied (pieces ++ last ∷ []) ≡ entries_copied pieces ++ last.entries
entries_more pieces last =
    let copied : FollowedPiece → List Entry = λ piece. piece.entries in
    flat_map-append copied pieces (last ∷ [])
    ∙ ap (λ (entries : List Entry). entries_copied pieces ++ entries) (append-nil last.entries)

-- a list that begins with a user's commands in pieces goes on with those in one more
theirs_more : JournalsAddUp
    → (user : ℕ) (told : List AnsweredCommand) (listed n : ℕ) (pieces : List FollowedPiece) (last : FollowedPiece)
    → take listed told ≡ commands_of user (expanded (entries_copied pieces))
    → take n told ≡ take listed told ++ commands_of user (expanded last.entries)
    → take n told ≡ commands_of user (expanded (entries_copied (pieces ++ last ∷ [])))
theirs_more law user told listed n pieces last so_far next =
    let before = entries_copied pieces in
    next ∙ ap (λ (xs : List AnsweredCommand). xs ++ commands_of user (expanded last.entries)) so_far
    ∙ sym
    (ap (λ (xs : List Entry). commands_of user (expanded xs)) (entries_more pieces last)
    ∙ ap (commands_of user) (law before last.entries)
    ∙ filter_map-append (command_from user) (expanded before) (expanded last.entries))

-- how much was done for pieces and one after them
done_more : (pieces : List FollowedPiece) (last : FollowedPiece)
    → done_again (pieces ++ last ∷ [])
    ≡ done_again pieces + (length (take last.count (entry_calls last.entries)) + 64 * length last.entries)
done_more pieces last =
    let calls =
    ap (λ (xs : List Call). length xs) (calls_more pieces last)
    ∙ length-append (calls_followed pieces) (take last.count (entry_calls last.entries)) in
    let entries =
    ap (λ (xs : List Entry). length xs) (entries_more pieces last)
    ∙ length-append (entries_copied pieces) last.entries in
    omega (arith, calls, entries)

-- what was copied to empty room is followed up to a number of events
pub followed_more : MomentsGoOn → JournalsAddUp
    → (plan : List DomainData) (number : ℕ) (session : SessionValue) (mark reached : Mark)
    (held places most listed more left after : ℕ)
    (old new shown : List Entry) (m n : MomentValue) → old ≡ [] → held ≡ 0 → shown ≡ new
    → GainsCopies plan number mark reached old new held places
    → take more session.pass.told
    ≡ take listed session.pass.told ++ commands_of session.pass.user (expanded shown)
    → more ≤ length session.pass.told
    → left ≤ after + ((n.recorded - m.recorded) + 64 * length shown)
    → IsFollowed plan number session mark listed left m → MovesOn m (calls_before most m (entry_calls shown)) n
    → IsFollowed plan number session reached more after n
followed_more law adds plan number session mark reached held places most listed more left after old new shown m n none
    nothing same copies next within spent before on =
    let emptied = subst (λ (xs : List Entry). GainsCopies plan number mark reached xs new held places) none copies in
    let held_none = subst (λ (h : ℕ). GainsCopies plan number mark reached [] new h places) nothing emptied in
    let last : FollowedPiece =
    record { entries = new; reached = reached; places = places; count = most - m.recorded } in
    let made = calls_followed before.pieces in
    let on_new = subst (λ (xs : List Entry). MovesOn m (calls_before most m (entry_calls xs)) n) same on in
    let spent_new =
    subst (λ (xs : List Entry). left ≤ after + ((n.recorded - m.recorded) + 64 * length xs)) same spent in
    let done = done_more before.pieces last in
    let gained = on_new.follows.recorded_is in
    let so_far = before.counts in
    record {
      start = before.start;
      pieces = before.pieces ++ last ∷ [];
      beginning = before.beginning;
      gained = pieces_more plan number before.start mark before.pieces last before.gained held_none;
      after =
          subst (λ (calls : List Call). IsMomentAfter plan number calls n) (sym (calls_more before.pieces last))
          (law plan number made (calls_before most m (entry_calls new)) m n before.after on_new);
      theirs =
          theirs_more adds session.pass.user session.pass.told listed more before.pieces last before.theirs
          (subst
          (λ (xs : List Entry). take more session.pass.told
          ≡ take listed session.pass.told ++ commands_of session.pass.user (expanded xs))
          same next);
      within = within;
      counts = omega (arith, so_far, spent_new, done, gained);
    }
