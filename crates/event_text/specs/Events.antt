-- What is asked of a domain, and by whom, in words; the words are our own.
use Rattle.std.specs.Prelude.{List, ℕ, ◌++◌, codes}
use Rattle.std.specs.Fmt.{decimal}
use Rattle.domain_core.specs.declared.event.By.{By}
use Rattle.domain_core.specs.declared.event.By.TheVariants.{User, Farm}
use Rattle.domain_core.specs.declared.event.Event.{Event}
use Rattle.domain_core.specs.declared.event.Event.TheVariants.{Config, Write, Read, Reset, Look, Step, Move}
use Rattle.answer_text.specs.Digits.{byte_text}

-- who asks
abbrev pub user_text : By → List ℕ
user_text (User user) = codes "@" ++ decimal user
user_text Farm = codes "@farm"

-- what is asked: a byte has two hexadecimal digits, a host, node or port decimal ones
abbrev pub event_text : Event → List ℕ
event_text (Config byte) = codes "config " ++ byte_text byte
event_text (Write host byte) = codes "write " ++ decimal host ++ codes " " ++ byte_text byte
event_text (Read host) = codes "read " ++ decimal host
event_text (Reset node) = codes "reset " ++ decimal node
event_text (Look node) = codes "look " ++ decimal node
event_text (Step node) = codes "step " ++ decimal node
event_text (Move port) = codes "move " ++ decimal port
