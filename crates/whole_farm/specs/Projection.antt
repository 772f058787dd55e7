-- What one domain is of the whole farm, in its own virtual numbers.
use Rattle.std.specs.Prelude.{ℕ, ◌-◌, ◌==◌, Bool, false, List, length, Option, Some, None, Ok, Err, if◌then◌else◌, slice_get, map, filter}
use Rattle.std.specs.Option.{option_and_then}
use Rattle.std.specs.FinMap as map
use Rattle.std.specs.FinSet as set
use Rattle.crossbar.specs.Switch.{Switch, map_below, set_below}
use Rattle.crossbar.specs.Row.{number_among}
use Rattle.virtual_switch.specs.declared.reply.ConfigReply.{ConfigReply}
use Rattle.virtual_switch.specs.declared.reply.ConfigReply.TheVariants.{Nothing, Answer, BadCommand, BadPort}
use Rattle.virtual_switch.specs.PrivateSwitch.{answer_byte}
use Rattle.domain_core.specs.declared.event.Reply.{Reply}
use Rattle.domain_core.specs.declared.event.Reply.TheVariants as reply
use Rattle.domain_core.specs.PrivateFarm as private
use Rattle.whole_farm.specs.Places.{Place}
use Rattle.whole_farm.specs.Whole.{Farm}

-- what drives a port, by its virtual number among these
abbrev pub driver_at : List ℕ → Switch → Option ℕ → Option ℕ
driver_at ports s None = None
driver_at ports s (Some port) = option_and_then (number_among ports) (map.get s.pairs port)

-- whether a port's output is ready
abbrev pub ready_at : Switch → Option ℕ → Bool
ready_at s None = false
ready_at s (Some port) = set.contains s.ready port

-- the pairs and the ready outputs of these ports, by their virtual numbers
abbrev pub own_switch : List ℕ → Switch → Switch
own_switch ports s = record {
  pairs = map_below (length ports) (λ v. driver_at ports s (slice_get ports v));
  ready = set_below (length ports) (λ v. ready_at s (slice_get ports v));
}

-- the domain as a farm that holds it alone
abbrev pub projected : Place → Farm → ℕ → private.State
projected place farm domain = record {
  machine =
      record { switch = own_switch place.ports farm.switch; rest = farm.rests domain; devices = farm.devices domain };
  recorded = farm.recorded domain;
}

-- the byte that says a virtual number, or else the byte as it is: a port that isn't among the domain's stays in sight
abbrev pub lowered_byte : ℕ → Option ℕ → ℕ
lowered_byte byte None = byte
lowered_byte byte (Some input) = answer_byte (Some input)

-- an enquiry's answer with the input's virtual number; 0 is kept
abbrev pub lowered_config : List ℕ → ConfigReply → ConfigReply
lowered_config ports Nothing = Nothing
lowered_config ports (Answer byte) =
    Answer (if byte == 0 then 0 else lowered_byte byte (number_among ports (byte - 128)))
lowered_config ports BadCommand = BadCommand
lowered_config ports BadPort = BadPort

-- a reply in virtual numbers: only an enquiry's answer has a port in it
abbrev pub lowered_reply : List ℕ → Reply → Reply
lowered_reply ports (reply.Config c) = reply.Config (lowered_config ports c)
lowered_reply ports r = r

-- an answer as the domain gets it
abbrev pub lowered_answer : Place → private.Answer → private.Answer
lowered_answer place (Ok r) = Ok (lowered_reply place.ports r)
lowered_answer place (Err refusal) = Err refusal

-- the same for a domain that may not be there
abbrev pub lowered_for : Option Place → private.Answer → private.Answer
lowered_for None answer = answer
lowered_for (Some place) answer = lowered_answer place answer

-- one domain's own, in order
abbrev pub own : {X : Type 0} → ℕ → List (ℕ × X) → List X
own domain xs = map (λ x. x.1) (filter (λ x. x.0 == domain) xs)
