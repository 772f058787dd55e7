-- Why the nodes of a domain do no more than they do.
use Rattle.std.specs.Prelude.{◌≡◌, ◌≤◌, ◌==◌, ◌++◌, ◌+◌, ◌*◌, ◌^◌, ◌⊎◌, ℕ, List, [], ◌∷◌, Option, Some, codes, is_some, length, nat_lt}
use Rattle.std.specs.Prelude.{slice_get, take, if◌then◌else◌}
use Rattle.std.specs.Fmt.{decimal}
use Rattle.std.specs.List.{flat_map}
use Rattle.plan_rules.specs.Data.{DomainData}
use Rattle.domain_core.specs.declared.copying.Mark.{Mark}
use Rattle.domain_core.specs.declared.journal.Entry.{Entry}
use Rattle.domain_core.specs.Journal.{expanded}
use Rattle.domain_core.specs.Marks.{events_from}
use Rattle.domain_core.specs.PrivateFarm.{Call}
use Rattle.domain_core.specs.Domain.{DomainValue}
use Rattle.domain_core.specs.Moments.{MomentValue}
use Rattle.farm_service.specs.declared.status.DomainStatus.{DomainStatus}
use Rattle.farm_service.specs.Commands.{commands_of}
use Rattle.farm_service.specs.Domains.{IsFound, IsStatusOf, GainsCopies}
use Rattle.farm_service.specs.Passes.{SessionValue}
use Rattle.farm_service.specs.Restarts.{AllListed}
use Rattle.record_following.specs.Following.{entry_calls, IsMomentAfter}
use Rattle.node_causes.specs.Explained.{IsExplained}
use Rattle.live_farm.specs.declared.group.UserGroup.{UserGroup}

-- up to which event a domain was done again, of all that are recorded
abbrev pub after_text : ℕ → ℕ → List ℕ
after_text done recorded =
    if nat_lt done recorded
    then codes "after " ++ decimal done ++ codes " of " ++ decimal recorded
    ++ codes " events: more aren't done again at once\n"
    else codes "after " ++ decimal done ++ codes " events\n"

-- that a domain does nothing more until it begins again, if its journal is full
abbrev pub full_text : DomainStatus → List ℕ
full_text status =
    codes "the journal is full: " ++ decimal status.limit
    ++ codes " events are recorded. Nothing more is done until restart begins the domain anew\n"

-- the same, if this room of it is used up
abbrev pub used_text : DomainStatus → ℕ → List ℕ
used_text status room =
    codes "the domain rests: " ++ decimal status.room.bytes ++ codes " of " ++ decimal room
    ++ codes " bytes of its room are used. No Step and no Move is done until restart begins it anew\n"

-- the same, whatever the reason, or nothing
abbrev pub stop_text : DomainStatus → ℕ → List ℕ
stop_text status room =
    if status.recorded == status.limit then full_text status
    else (if is_some status.room.rests then used_text status room else [])

-- what is said of a domain: up to where it was done again, what its status says, and the causes
abbrev pub moment_text : DomainStatus → ℕ → ℕ → List ℕ → List ℕ
moment_text status room done causes = after_text done status.recorded ++ stop_text status room ++ causes

-- a piece of a domain's journal that was copied where there was room for `places` entries, with the mark after it; and
-- how many of the calls that its entries mean were made again
pub record FollowedPiece : Type 0 where
  pub entries : List Entry
  pub reached : Mark
  pub places : ℕ
  pub count : ℕ

-- the journal of a domain of this number gained these pieces, one after another, from a mark up to another
abbrev pub ArePieces : List DomainData → ℕ → Mark → List FollowedPiece → Mark → Type 0
ArePieces plan number from [] to = to ≡ from
ArePieces plan number from (piece ∷ later) to =
    GainsCopies plan number from piece.reached [] piece.entries 0 piece.places
    × ArePieces plan number piece.reached later to

-- the calls that were made again
abbrev pub calls_followed : List FollowedPiece → List Call
calls_followed pieces = flat_map (λ piece. take piece.count (entry_calls piece.entries)) pieces

-- the entries that were copied
abbrev pub entries_copied : List FollowedPiece → List Entry
entries_copied pieces = flat_map (λ piece. piece.entries) pieces

-- how much was done for pieces: each call counts 1, and each entry 64 more
abbrev pub done_again : List FollowedPiece → ℕ
done_again pieces = length (calls_followed pieces) + 64 * length (entries_copied pieces)

-- the most that is done for one answer, but for a last piece
abbrev pub most_again : ℕ
most_again = 2 ^ 27

-- the domain of this number at the moment after calls of pieces that its journal had, from the journal's beginning on.
-- What the pieces have of the user of a session is the beginning of the user's list, of this length; and with what was
-- done for them, no less than this is left to do of the most for one answer
pub record IsFollowed (plan : List DomainData) (number : ℕ) (session : SessionValue) (mark : Mark) (listed left : ℕ)
    (moment : MomentValue) : Type 0 where
  pub start : Mark
  pub pieces : List FollowedPiece
  pub beginning : (journal : List Entry) → events_from start journal ≡ expanded journal
  pub gained : ArePieces plan number start pieces mark
  pub after : IsMomentAfter plan number (calls_followed pieces) moment
  pub theirs :
      take listed session.pass.told ≡ commands_of session.pass.user (expanded (entries_copied pieces))
  pub within : listed ≤ length session.pass.told
  pub counts : most_again ≤ left + done_again pieces

-- this number of events is recorded at a moment, and all commands of the user were copied; or nothing is left to do
abbrev pub IsFarEnough : ℕ → SessionValue → ℕ → ℕ → MomentValue → Type 0
IsFarEnough end session listed left moment =
    ((end ≤ moment.recorded) × (listed ≡ length session.pass.told)) ⊎ (left ≡ 0)

-- what is said to a user of the domain of these users, and of all its nodes or the one that is asked for: of its
-- status when its journal had of each user exactly the user's list; and of a moment to which calls in its journal lead,
-- as many as the status counts with all that the user was answered, or as are done again for one answer
pub record IsToldOf (group : UserGroup) (user : ℕ) (node : Option ℕ) (told : List ℕ) : Type 0 where
  pub domain : DomainValue
  pub status : DomainStatus
  pub mark : Mark
  pub moment : MomentValue
  pub room : ℕ
  pub causes : List ℕ
  pub session : SessionValue
  pub listed : ℕ
  pub left : ℕ
  pub whose : slice_get group.sessions.items user ≡ Some session
  pub found : IsFound group.service.now.plan group.domain domain
  pub status_of : IsStatusOf group.service.now.room domain status
  pub theirs : AllListed domain.journal group.sessions.items
  pub followed : IsFollowed group.service.now.plan group.domain session mark listed left moment
  pub far : IsFarEnough status.recorded session listed left moment
  pub explained : IsExplained moment node causes
  pub text : told ≡ moment_text status room moment.recorded causes
