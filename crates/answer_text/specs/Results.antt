-- What the output line of a script line shows. The words are our own.
use Rattle.std.specs.Prelude.{◌++◌, ℕ, Bool, true, false, List, [], ◌∷◌, Option, Some, None, Result, Ok, Err, length, map, codes, nat_lt, if◌then◌else◌}
use Rattle.std.specs.List.{filter, filter_map, flat_map, list_any}
use Rattle.std.specs.Option.{unwrap_or, option_map_or}
use Rattle.std.specs.Fmt.{decimal}
use Rattle.bootstrap.specs.declared.messages.BootFault.{BootFault}
use Rattle.bootstrap.specs.Messages.{boot_fault_number, length_fault}
use Rattle.domain_core.specs.declared.event.Refusal.{Refusal}
use Rattle.domain_core.specs.declared.event.Reply.{Reply}
use Rattle.domain_core.specs.declared.event.Reply.TheVariants as reply
use Rattle.domain_core.specs.declared.event.AnsweredCommand.{AnsweredCommand}
use Rattle.virtual_switch.specs.declared.reply.ConfigReply.TheVariants as config
use Rattle.answer_text.specs.Digits.{byte_text}
use Rattle.answer_text.specs.Replies.{reply_text, refusal_text}
use Rattle.script_lines.specs.declared.command.Command.{Command}
use Rattle.script_lines.specs.declared.command.Command.TheVariants as command
use Rattle.script_lines.specs.Verbs.{name_of, verb_of, target_asked}

-- the replies, in order
abbrev pub replies_told : List AnsweredCommand → List Reply
replies_told told = map (λ t. t.reply) told

-- a text after a blank
abbrev pub behind_blank : List ℕ → List ℕ
behind_blank text = codes " " ++ text

-- ---- configuration bytes

-- whether the switch answers a byte
abbrev pub is_shown : Reply → Bool
is_shown (reply.Config config.Nothing) = false
is_shown r = true

-- the replies to configuration bytes other than Nothing, each after a blank, or a hyphen if there are none
abbrev pub shown_text : Reply → List ℕ
shown_text r = if is_shown r then behind_blank (reply_text r) else []

abbrev pub configured_text : List Reply → List ℕ
configured_text replies = if list_any is_shown replies then flat_map shown_text replies else codes " -"

-- ---- bytes for a host

abbrev pub is_written : Reply → Bool
is_written reply.Written = true
is_written r = false

-- how many bytes a host took
abbrev pub taken_text : List Reply → List ℕ
taken_text replies = behind_blank (decimal (length (filter is_written replies)))

-- why code is none that boots, or else what its message came to
abbrev pub refused_or : List ℕ → Option BootFault → List ℕ
refused_or taken (Some fault) = codes " refused " ++ decimal (boot_fault_number fault)
refused_or taken None = taken

-- how many bytes of a boot message a host took, or why code is none that boots
abbrev pub booted_text : List ℕ → List Reply → List ℕ
booted_text code replies = refused_or (taken_text replies) (length_fault (length code))

-- ---- bytes of a host

-- the byte of an answer to Read, if one came
abbrev pub byte_read : Reply → Option ℕ
byte_read (reply.Read answer) = answer
byte_read r = None

-- the bytes that came
abbrev pub bytes_read : List Reply → List ℕ
bytes_read replies = filter_map byte_read replies

abbrev pub bytes_told : List AnsweredCommand → List ℕ
bytes_told told = bytes_read (replies_told told)

-- a word of four bytes, which come with the least significant first; or a hyphen
abbrev pub word_text : List ℕ → List ℕ
word_text (a ∷ b ∷ c ∷ d ∷ more) = behind_blank (byte_text d ++ byte_text c ++ byte_text b ++ byte_text a)
word_text bytes = codes " -"

-- all bytes, or a hyphen
abbrev pub bytes_text : List ℕ → List ℕ
bytes_text [] = codes " -"
bytes_text (byte ∷ bytes) = behind_blank (flat_map byte_text (byte ∷ bytes))

-- ---- a reset, and a look

abbrev pub reset_text : Reply → List ℕ
reset_text reply.Reset = codes " ok"
reset_text r = behind_blank (reply_text r)

abbrev pub look_text : Reply → List ℕ
look_text r = behind_blank (reply_text r)

-- ---- a line

-- what is shown of the replies to what a line asked
abbrev pub result_text : Command → List Reply → List ℕ
result_text (command.Config bytes) replies = configured_text replies
result_text (command.Write host bytes) replies = taken_text replies
result_text (command.Boot host code) replies = booted_text code.items replies
result_text (command.Poke host address word) replies = taken_text replies
result_text (command.Peek host address) replies = word_text (bytes_read replies)
result_text (command.Collect host) replies = bytes_text (bytes_read replies)
result_text (command.Reset node) replies = flat_map reset_text replies
result_text (command.Look node) replies = flat_map look_text replies

-- a refusal takes the result's place
abbrev pub outcome_text : {A : Type 0} → Command → List Reply → Result A Refusal → List ℕ
outcome_text command replies (Ok done) = result_text command replies
outcome_text command replies (Err refusal) = behind_blank (unwrap_or (refusal_text refusal) [])

-- the output line: the user's name, the verb, the number of a host or node, and what came of it
abbrev pub line_text : {A : Type 0} → List ℕ → Command → List Reply → Result A Refusal → List ℕ
line_text name command replies result =
    name ++ behind_blank (name_of (verb_of command))
    ++ option_map_or (λ place. behind_blank (decimal place)) (target_asked command) []
    ++ outcome_text command replies result ++ codes "\n"
