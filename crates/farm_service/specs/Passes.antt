-- What contracts see of a user's pass and of a user's session.
use Rattle.std.specs.Prelude.{ℕ, zero, suc, Bool, true, false, List, [], ◌∷◌, ◌++◌, ◌≡◌, Result, Ok, Err, length}
use Rattle.plan_rules.specs.Data.{DomainData}
use Rattle.domain_core.specs.declared.event.By.TheVariants.{User}
use Rattle.domain_core.specs.declared.event.Event.{Event}
use Rattle.domain_core.specs.declared.event.Refusal.{Refusal}
use Rattle.domain_core.specs.declared.event.Refusal.TheVariants.{NoSuch, JournalFull, NoMemory}
use Rattle.domain_core.specs.declared.event.Reply.{Reply}
use Rattle.domain_core.specs.PrivateFarm.{Answer, Call}
use Rattle.domain_core.specs.declared.event.AnsweredCommand.{AnsweredCommand}

-- whose it is, by the number of the user's domain in the plan and the user's number there; what the user asked and was
-- answered, in the user's order; whether the journal of the domain was full when the user asked; whether it was nearly
-- full when the domain was to settle for the user; whether there was no memory for what the user asked; and for how
-- many commands in all memory is reserved
pub record UserPassValue : Type 0 where
  pub domain : ℕ
  pub user : ℕ
  pub told : List AnsweredCommand
  pub met_full : Bool
  pub met_nearly_full : Bool
  pub met_no_room : Bool
  pub reserved : ℕ

-- the plan of its service, and the user's pass
pub record SessionValue : Type 0 where
  pub plan : List DomainData
  pub pass : UserPassValue

-- ---- as a service is opened

-- a pass before its user has asked anything
abbrev pub fresh_pass : ℕ → ℕ → UserPassValue
fresh_pass domain user = record {
  domain = domain;
  user = user;
  told = [];
  met_full = false;
  met_nearly_full = false;
  met_no_room = false;
  reserved = 0;
}

-- the pass as it was before its user asked anything
abbrev pub pass_begun_anew : UserPassValue → UserPassValue
pass_begun_anew pass = record pass { told = []; met_full = false; met_nearly_full = false; met_no_room = false }

-- the pass with memory reserved for this number of commands
abbrev pub with_reserved : ℕ → UserPassValue → UserPassValue
with_reserved count pass = record pass { reserved = count }

-- the passes of a domain with this number of users
abbrev pub passes_opened : ℕ → ℕ → List UserPassValue
passes_opened domain zero = []
passes_opened domain (suc count) = passes_opened domain count ++ fresh_pass domain count ∷ []

-- the passes of the users of domains, where the first domain has this number
abbrev pub passes_from : ℕ → List DomainData → List UserPassValue
passes_from number [] = []
passes_from number (d ∷ plan) = passes_opened number (length d.users) ++ passes_from (suc number) plan

-- one pass for each user of a plan, in its order
abbrev pub fresh_passes : List DomainData → List UserPassValue
fresh_passes plan = passes_from 0 plan

-- ---- a command

-- the call that a user's event is in the user's domain
abbrev pub call_of : UserPassValue → Event → Call
call_of pass event = record { by = User pass.user; event = event }

-- the pass with one more answered event at the end of its list
abbrev pub with_told : UserPassValue → Event → Reply → UserPassValue
with_told pass event reply = record pass { told = pass.told ++ record { event = event; reply = reply } ∷ [] }

-- the pass after a refusal: it has met a full journal, or has met no room, if that is why
abbrev pub with_refusal : UserPassValue → Refusal → UserPassValue
with_refusal pass JournalFull = record pass { met_full = true }
with_refusal pass NoSuch = pass
with_refusal pass NoMemory = record pass { met_no_room = true }

-- the pass of a user who has met a journal that is nearly full
abbrev pub with_nearly_full : UserPassValue → UserPassValue
with_nearly_full pass = record pass { met_nearly_full = true }

-- the list gains an answered event with its reply, and nothing else; it gains nothing if the event was refused
abbrev pub Gains : SessionValue → Event → Answer → SessionValue → Type 0
Gains s event (Ok reply) t = t ≡ record s { pass = with_told s.pass event reply }
Gains s event (Err refusal) t = t ≡ record s { pass = with_refusal s.pass refusal }

-- ---- a settling

-- the session stays, but for a settling that was refused since the journal was full or nearly full: the pass notes that
abbrev pub NotesRefusal : {A : Type 0} → SessionValue → Result A Refusal → SessionValue → Type 0
NotesRefusal s (Ok settled) t = t ≡ s
NotesRefusal s (Err NoSuch) t = t ≡ s
NotesRefusal s (Err JournalFull) t = t ≡ record s { pass = with_nearly_full s.pass }
NotesRefusal s (Err NoMemory) t = t ≡ s
