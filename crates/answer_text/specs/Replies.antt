-- What is answered, in words; the words are our own.
use Rattle.std.specs.Prelude.{ℕ, List, [], ◌++◌, codes, false, Option, Some, None}
use Rattle.std.specs.List.{flat_map}
use Rattle.std.specs.Fmt.{decimal, digits}
use Rattle.node_memory.specs.declared.fault.Fault.{Fault}
use Rattle.node_memory.specs.declared.fault.Fault.TheVariants.{UnknownOperation}
use Rattle.node_memory.specs.Faults.{fault_number}
use Rattle.t414_step.specs.declared.stepping.Stepped.{Stepped}
use Rattle.t414_step.specs.declared.stepping.Stepped.TheVariants as stepped
use Rattle.bootstrap.specs.declared.seen.Activity.{Activity}
use Rattle.bootstrap.specs.declared.seen.Activity.TheVariants as activity
use Rattle.bootstrap.specs.declared.seen.Seen.{Seen}
use Rattle.virtual_switch.specs.declared.reply.ConfigReply.{ConfigReply}
use Rattle.virtual_switch.specs.declared.reply.ConfigReply.TheVariants as config
use Rattle.domain_core.specs.declared.event.Moved.{Moved}
use Rattle.domain_core.specs.declared.event.Moved.TheVariants as moved
use Rattle.domain_core.specs.declared.event.Reply.{Reply}
use Rattle.domain_core.specs.declared.event.Reply.TheVariants as reply
use Rattle.domain_core.specs.declared.event.Refusal.{Refusal}
use Rattle.domain_core.specs.declared.event.Refusal.TheVariants as refusal
use Rattle.answer_text.specs.Digits.{byte_text}

-- the switch's reply to a configuration byte
abbrev pub config_reply_text : ConfigReply → List ℕ
config_reply_text config.Nothing = codes "nothing"
config_reply_text (config.Answer byte) = byte_text byte
config_reply_text config.BadCommand = codes "badcommand"
config_reply_text config.BadPort = codes "badport"

-- what follows the number of a fault: the operand that is the code of no operation, in hexadecimal digits
abbrev pub operand_text : Fault → List ℕ
operand_text (UnknownOperation code) = codes " " ++ digits 16 false code
operand_text fault = []

-- a fault, by its number
abbrev pub fault_text : Fault → List ℕ
fault_text fault = decimal (fault_number fault) ++ operand_text fault

-- what a Step came to
abbrev pub stepped_text : Stepped → List ℕ
stepped_text stepped.Ran = codes "ran"
stepped_text stepped.Idle = codes "idle"
stepped_text (stepped.Fault fault) = codes "fault " ++ fault_text fault

-- what a node is seen to do
abbrev pub activity_text : Activity → List ℕ
activity_text activity.Booting = codes "booting"
activity_text activity.Running = codes "running"
activity_text activity.Idle = codes "idle"
activity_text (activity.Halted fault) = codes "halted " ++ fault_text fault

-- numbers, each after a blank
abbrev pub numbers_text : List ℕ → List ℕ
numbers_text numbers = flat_map (λ number. codes " " ++ decimal number) numbers

-- what is seen of a node: what it does, and how many bytes each link dropped
abbrev pub seen_text : Seen → List ℕ
seen_text seen = activity_text seen.state ++ codes " overruns" ++ numbers_text seen.overruns

-- what became of a packet
abbrev pub moved_text : Moved → List ℕ
moved_text moved.Nothing = codes "nothing"
moved_text moved.Lost = codes "lost"
moved_text moved.Stayed = codes "stayed"
moved_text moved.Passed = codes "passed"

-- the reply to an event
abbrev pub reply_text : Reply → List ℕ
reply_text (reply.Config answer) = config_reply_text answer
reply_text reply.Written = codes "written"
reply_text reply.Full = codes "full"
reply_text (reply.Read (Some byte)) = byte_text byte
reply_text (reply.Read None) = codes "none"
reply_text reply.Reset = codes "reset"
reply_text (reply.Look seen) = seen_text seen
reply_text (reply.Stepped answer) = stepped_text answer
reply_text (reply.Moved answer) = moved_text answer

-- why an event isn't answered; that there is no memory has no word
abbrev pub refusal_text : Refusal → Option (List ℕ)
refusal_text refusal.NoSuch = Some (codes "nosuch")
refusal_text refusal.JournalFull = Some (codes "journalfull")
refusal_text refusal.NoMemory = None
