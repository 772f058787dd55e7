-- What a script line asks of its user's domain: one event after another, each after the replies to those before it.
use Rattle.std.specs.Prelude.{◌≡◌, ◌++◌, ℕ, Bool, true, false, ◌&&◌, List, [], ◌∷◌, Option, Some, None, length, map, slice_get, nat_lt, nat_le, if◌then◌else◌, ⊤}
use Rattle.std.specs.List.{filter, list_all, list_any}
use Rattle.std.specs.Option.{option_map, option_or}
use Rattle.bootstrap.specs.Messages.{bytes_of_word}
use Rattle.domain_core.specs.declared.event.Event.{Event}
use Rattle.domain_core.specs.declared.event.Event.TheVariants as event
use Rattle.domain_core.specs.declared.event.Reply.{Reply}
use Rattle.domain_core.specs.declared.event.Reply.TheVariants as reply
use Rattle.domain_core.specs.declared.event.AnsweredCommand.{AnsweredCommand}
use Rattle.answer_text.specs.Results.{replies_told}
use Rattle.script_lines.specs.declared.command.Command.{Command}
use Rattle.script_lines.specs.declared.command.Command.TheVariants as command

-- ---- the replies to a line's events so far

-- whether an event puts a byte in a host's queue
abbrev pub is_write : Event → Bool
is_write (event.Write host byte) = true
is_write e = false

-- whether an event takes a byte of a host's queue
abbrev pub is_read : Event → Bool
is_read (event.Read host) = true
is_read e = false

-- the replies to writes, in order
abbrev pub write_replies : List AnsweredCommand → List Reply
write_replies told = replies_told (filter (λ t. is_write t.event) told)

-- the replies to reads, in order
abbrev pub read_replies : List AnsweredCommand → List Reply
read_replies told = replies_told (filter (λ t. is_read t.event) told)

-- whether a host had no room for a byte
abbrev pub had_no_room : Reply → Bool
had_no_room reply.Full = true
had_no_room r = false

-- whether a byte had come to a host
abbrev pub is_byte : Reply → Bool
is_byte (reply.Read (Some byte)) = true
is_byte r = false

-- ---- what is asked next

-- bytes for the switch: all of them
abbrev pub next_config : List ℕ → List AnsweredCommand → Option Event
next_config bytes told = option_map event.Config (slice_get bytes (length told))

-- bytes for a host: each, until the host is full
abbrev pub next_write : ℕ → List ℕ → List AnsweredCommand → Option Event
next_write host bytes told =
    if list_any had_no_room (write_replies told) then None
    else option_map (event.Write host) (slice_get bytes (length (write_replies told)))

-- bytes of a host: up to this number, until none has come
abbrev pub next_read : ℕ → ℕ → List AnsweredCommand → Option Event
next_read host count told =
    if list_all is_byte (read_replies told) && nat_lt (length (read_replies told)) count then Some (event.Read host)
    else None

-- bytes of a host: all, until none has come
abbrev pub next_collect : ℕ → List AnsweredCommand → Option Event
next_collect host told = if list_all is_byte (read_replies told) then Some (event.Read host) else None

-- one event
abbrev pub once : Event → List AnsweredCommand → Option Event
once e [] = Some e
once e told = None

-- code for a host, after its length, if a boot message can hold it
abbrev pub next_boot : ℕ → List ℕ → List AnsweredCommand → Option Event
next_boot host code told =
    if nat_le 2 (length code) && nat_le (length code) 255 then next_write host (length code ∷ code) told else None

-- ---- a line

-- what a line asks next, after the events that were answered, with their replies; nothing at its end
abbrev pub next_event : Command → List AnsweredCommand → Option Event
next_event (command.Config bytes) told = next_config bytes.items told
next_event (command.Write host bytes) told = next_write host bytes.items told
next_event (command.Boot host code) told = next_boot host code.items told
next_event (command.Poke host address word) told =
    next_write host (0 ∷ bytes_of_word address ++ bytes_of_word word) told
next_event (command.Peek host address) told =
    option_or (next_write host (1 ∷ bytes_of_word address) told) (next_read host 4 told)
next_event (command.Collect host) told = next_collect host told
next_event (command.Reset node) told = once (event.Reset node) told
next_event (command.Look node) told = once (event.Look node) told

-- each event is what is asked next, after those before it
abbrev pub AreAsked : (List AnsweredCommand → Option Event) → List AnsweredCommand → List AnsweredCommand → Type 0
AreAsked next before [] = ⊤
AreAsked next before (t ∷ told) = (next before ≡ Some t.event) × AreAsked next (before ++ t ∷ []) told
