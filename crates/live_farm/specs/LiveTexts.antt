-- The answers that a script hasn't. The words are our own.
use Rattle.std.specs.Prelude.{◌≡◌, ◌++◌, ℕ, Bool, List, Some, codes, is_some, if◌then◌else◌}
use Rattle.std.specs.Fmt.{decimal}
use Rattle.std.specs.List.{flat_map}
use Rattle.std.specs.Str.Lines.{lines}
use Rattle.script_lines.specs.Faults.{fault_word}
use Rattle.farm_service.specs.declared.resting.RestCause.TheVariants as cause
use Rattle.farm_service.specs.declared.status.DomainStatus.{DomainStatus}
use Rattle.farm_service.specs.declared.status.RoomStatus.{RoomStatus}
use Rattle.live_farm.specs.declared.texts.RestState.{RestState}
use Rattle.live_farm.specs.declared.texts.RestState.TheVariants as rest
use Rattle.live_farm.specs.declared.texts.RestNote.{RestNote}
use Rattle.live_farm.specs.declared.texts.RestNote.TheVariants as note
use Rattle.live_farm.specs.declared.texts.NotDone.{NotDone}
use Rattle.live_farm.specs.declared.texts.NotDone.TheVariants as why

-- why a line isn't done
abbrev pub reason_word : NotDone → List ℕ
reason_word (why.Fault fault) = fault_word fault
reason_word why.Long = codes "long"
reason_word why.Busy = codes "busy"
reason_word why.Record = codes "record"
reason_word why.Full = codes "full"
reason_word why.Memory = codes "memory"

-- a line of this number isn't done; the operator is called `!`
abbrev pub error_text : List ℕ → ℕ → NotDone → List ℕ
error_text name number w = name ++ codes " error " ++ decimal number ++ codes " " ++ reason_word w ++ codes "\n"

-- the line of this number is no user's
abbrev pub unknown_user_text : ℕ → List ℕ
unknown_user_text number = codes "error " ++ decimal number ++ codes " user" ++ codes "\n"

-- whether a domain is at rest, or its room is used up
abbrev pub rest_word : RestState → List ℕ
rest_word rest.Quiet = codes "quiet"
rest_word rest.Busy = codes "busy"
rest_word rest.Full = codes "full"

-- a domain is quiet, or else its room is used up, or else it is busy
abbrev pub rest_state_of : DomainStatus → RestState
rest_state_of status =
    if status.is_quiet then rest.Quiet else (if is_some status.room.rests then rest.Full else rest.Busy)

-- so it is with a user's domain
abbrev pub rest_text : List ℕ → RestState → List ℕ
rest_text name state = name ++ codes " rest " ++ rest_word state ++ codes "\n"

-- why the domain of a user rests: since `used` of the `room` bytes of its room or of that of its records are used, or
-- since memory ran out
abbrev pub note_text : List ℕ → RestNote → List ℕ
note_text name (note.Room used room) =
    name ++ codes " note rests " ++ decimal used ++ codes " " ++ decimal room ++ codes "\n"
note_text name (note.Records used room) =
    name ++ codes " note rests records " ++ decimal used ++ codes " " ++ decimal room ++ codes "\n"
note_text name note.Memory = name ++ codes " note rests memory\n"
note_text name note.Steps = name ++ codes " note rests steps\n"
note_text name note.Line = name ++ codes " note rests line\n"

-- this is why a domain rests by its status, if its records may take that many bytes
abbrev pub IsNoteOf : RoomStatus → ℕ → RestNote → Type 0
IsNoteOf status record_room (note.Room used room) =
    (status.rests ≡ Some cause.RoomUsedUp) × (used ≡ status.bytes) × (room ≡ status.room_bytes)
IsNoteOf status record_room (note.Records used room) =
    (status.rests ≡ Some cause.RecordsFull) × (room ≡ record_room)
IsNoteOf status record_room note.Memory = status.rests ≡ Some cause.NoMemory
IsNoteOf status record_room note.Steps = status.rests ≡ Some cause.EventsUsedUp
IsNoteOf status record_room note.Line = status.rests ≡ Some cause.NoLine

-- whether a user's domain begins again: if others share it only the operator may ask for that
abbrev pub restart_text : List ℕ → Bool → List ℕ
restart_text name done = name ++ codes " restart " ++ (if done then codes "ok" else codes "operator") ++ codes "\n"

-- one line of an answer to `why`
abbrev pub why_line : List ℕ → List ℕ → List ℕ
why_line name line = name ++ codes " why " ++ line ++ codes "\n"

-- a line for each line of what is said, and after them the last line
abbrev pub why_text : List ℕ → List ℕ → List ℕ
why_text name told = flat_map (why_line name) (lines told) ++ why_line name (codes "end")

-- the domain has no node of this number
abbrev pub no_node_text : List ℕ → ℕ → List ℕ
no_node_text name node = name ++ codes " why " ++ decimal node ++ codes " nosuch" ++ codes "\n"

-- the domain of this user begins again, as the operator asked
abbrev pub operator_restart_text : List ℕ → List ℕ
operator_restart_text name = codes "!restart " ++ name ++ codes " ok" ++ codes "\n"
