-- What a domain's configuration messages do to the one switch of the whole farm, which has physical numbers on both
-- sides. IMS C004 data sheet, configuration messages 0 to 6; that messages 3 and 4 touch the sender's outputs alone is
-- our choice.
use Rattle.std.specs.Prelude.{ℕ, Bool, List, [], ◌∷◌, ◌++◌, Option, Some, None, if◌then◌else◌, not, is_some, slice_index_or}
use Rattle.std.specs.FinMap as map
use Rattle.std.specs.FinSet as set
use Rattle.c004_commands.specs.declared.message.Message.{Message}
use Rattle.c004_commands.specs.declared.message.Message.TheVariants.{Connect, ConnectBoth, Enquire, MakeReady, Clear, Disconnect, DisconnectBoth}
use Rattle.c004_commands.specs.Grammar.{Item, Command, Stray, item_of}
use Rattle.crossbar.specs.Switch.{Switch}
use Rattle.crossbar.specs.Row.{number_among}
use Rattle.virtual_switch.specs.declared.reply.ConfigReply.{ConfigReply}
use Rattle.virtual_switch.specs.declared.reply.ConfigReply.TheVariants.{Nothing, BadCommand, BadPort}
use Rattle.virtual_switch.specs.PrivateSwitch.{ports_named, are_below, performed, answer_to, Configured}
use Rattle.whole_farm.specs.Places.{Place}

-- the physical port of a virtual number that is there
abbrev pub raised : List ℕ → ℕ → ℕ
raised ports number = slice_index_or ports number 0

-- a message with the physical ports of the virtual numbers that it names
abbrev pub raised_message : List ℕ → Message → Message
raised_message ports (Connect input output) = Connect (raised ports input) (raised ports output)
raised_message ports (ConnectBoth first second) = ConnectBoth (raised ports first) (raised ports second)
raised_message ports (Enquire output) = Enquire (raised ports output)
raised_message ports MakeReady = MakeReady
raised_message ports Clear = Clear
raised_message ports (Disconnect output) = Disconnect (raised ports output)
raised_message ports (DisconnectBoth first second) = DisconnectBoth (raised ports first) (raised ports second)

-- the physical port is one of these
abbrev pub is_among : List ℕ → ℕ → Bool
is_among ports port = is_some (number_among ports port)

-- each connected output of these ports is ready
abbrev pub readied : List ℕ → Switch → Switch
readied ports s = record {
  pairs = s.pairs;
  ready =
      set.union (set.retain s.ready (λ port. not (is_among ports port)))
      (set.retain (set.from_list (map.keys s.pairs)) (is_among ports));
}

-- the outputs of these ports are disconnected
abbrev pub disconnected_ports : List ℕ → Switch → Switch
disconnected_ports ports s = record {
  pairs = map.retain_keys s.pairs (λ port. not (is_among ports port));
  ready = set.retain s.ready (λ port. not (is_among ports port));
}

-- what a message of the domain with these ports leaves, whose ports are there
abbrev pub performed_in : List ℕ → Switch → Message → Switch
performed_in ports s (Connect input output) = performed s (raised_message ports (Connect input output))
performed_in ports s (ConnectBoth first second) = performed s (raised_message ports (ConnectBoth first second))
performed_in ports s (Enquire output) = performed s (raised_message ports (Enquire output))
performed_in ports s MakeReady = readied ports s
performed_in ports s Clear = disconnected_ports ports s
performed_in ports s (Disconnect output) = performed s (raised_message ports (Disconnect output))
performed_in ports s (DisconnectBoth first second) = performed s (raised_message ports (DisconnectBoth first second))

-- the same of each item. A port that a message names is tested against the domain's count before it is raised
abbrev pub after_item_in : Place → Switch → Item → Switch
after_item_in place s (Command message) =
    if are_below place.part.count (ports_named message) then performed_in place.ports s message else s
after_item_in place s (Stray byte) = s

-- and what it is answered, in physical numbers
abbrev pub reply_in : Place → Switch → Item → ConfigReply
reply_in place s (Command message) =
    if are_below place.part.count (ports_named message) then answer_to s (raised_message place.ports message)
    else BadPort
reply_in place s (Stray byte) = BadCommand

-- what a byte from the domain leaves, by the item that it ends
abbrev pub configured_by_in : Place → Switch → List ℕ → Option Item → Configured
configured_by_in place s bytes None = record { reply = Nothing; switch = s; rest = bytes }
configured_by_in place s bytes (Some item) =
    record { reply = reply_in place s item; switch = after_item_in place s item; rest = [] }

-- a byte from the domain, after the rest of its last message
abbrev pub configured_in : Place → Switch → List ℕ → ℕ → Configured
configured_in place s rest byte = configured_by_in place s (rest ++ byte ∷ []) (item_of (rest ++ byte ∷ []))
