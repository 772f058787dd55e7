-- What the lines of a domain's users do to their sessions, and how they are answered.
use Rattle.std.specs.Prelude.{string_bytes, ◌≡◌, ◌≤◌, ◌⊎◌, ⊤, ℕ, Bool, true, false, List, [], Option, Some, None, IfSome, length, map, slice_get, slice_set, codes, if◌then◌else◌}
use Rattle.plan_rules.specs.Users.{name_at}
use Rattle.domain_core.specs.Domain.{DomainValue}
use Rattle.farm_service.specs.declared.status.DomainStatus.{DomainStatus}
use Rattle.farm_service.specs.Domains.{IsFound, IsStatusOf}
use Rattle.farm_service.specs.Passes.{SessionValue}
use Rattle.script_lines.specs.declared.command.Command.{Command}
use Rattle.line_answers.specs.Sessions.{IsAnswered}
use Rattle.script_lines.specs.declared.fault.LineFault.TheVariants as fault
use Rattle.farm_service.specs.Restarts.{AllListed, AreAllOfOne, begun_anew}
use Rattle.live_lines.specs.declared.asked.WholeRequest.TheVariants as whole
use Rattle.live_lines.specs.declared.asked.LiveRequest.TheVariants as request
use Rattle.live_farm.specs.declared.answering.QueuedAnswer.{QueuedAnswer}
use Rattle.live_farm.specs.declared.group.UserGroup.{UserGroup}
use Rattle.live_farm.specs.declared.queued.QueuedLine.{QueuedLine}
use Rattle.live_farm.specs.declared.queued.QueuedRequest.{QueuedRequest}
use Rattle.live_farm.specs.declared.queued.QueuedRequest.TheVariants as line
use Rattle.live_farm.specs.declared.record.RecordState.{RecordState}
use Rattle.live_farm.specs.declared.record.RecordState.TheVariants as state
use Rattle.live_farm.specs.declared.texts.NotDone.{NotDone}
use Rattle.live_farm.specs.declared.texts.NotDone.TheVariants as why
use Rattle.live_farm.specs.Names.{user_number_of}
use Rattle.live_farm.specs.Whys.{IsToldOf}
use Rattle.live_farm.specs.LiveTexts.{error_text, rest_text, rest_state_of, restart_text, why_text, no_node_text, operator_restart_text}

-- the user of this number in the domain of these users has a session of the user's own, and is called so in the plan
pub record IsNamedSo (group : UserGroup) (user : ℕ) (name : List ℕ) : Type 0 where
  pub session : SessionValue
  pub there : slice_get group.sessions.items user ≡ Some session
  pub whose : user_number_of session.pass ≡ record { domain = group.domain; user = user }
  pub called : name_at group.service.now.plan (user_number_of session.pass) ≡ Some name

-- a line of this user is answered by this text: the user's session gains what the line asked, and no other session
-- changes
pub record AnswersLine (before after : UserGroup) (user : ℕ) (command : Command) (text : List ℕ) : Type 0 where
  pub name : List ℕ
  pub entry : SessionValue
  pub exit : SessionValue
  pub named : IsNamedSo before user name
  pub session : slice_get before.sessions.items user ≡ Some entry
  pub answered : IsAnswered name command entry exit [] text
  pub sessions : after.sessions.items ≡ slice_set before.sessions.items user exit
  pub names : after.names ≡ before.names

-- nobody's session changes
abbrev pub AllStay : UserGroup → UserGroup → Type 0
AllStay before after = after.sessions.items ≡ before.sessions.items

-- they are the users of the same domain of the same service
abbrev pub IsSameDomain : UserGroup → UserGroup → Type 0
IsSameDomain before after = (after.service ≡ before.service) × (after.domain ≡ before.domain)

-- the session of each is that of a user who hasn't asked anything
abbrev pub AllBegin : UserGroup → UserGroup → Type 0
AllBegin before after = after.sessions.items ≡ map begun_anew before.sessions.items

-- all sessions begin again if that is done, else nobody's session changes
abbrev pub BeginsIf : Bool → UserGroup → UserGroup → Type 0
BeginsIf true before after = AllBegin before after
BeginsIf false before after = AllStay before after

-- this was the status of these users' domain when it was looked at: its journal had of each user exactly what the user
-- was answered
abbrev pub IsStatusHere : UserGroup → DomainStatus → Type 0
IsStatusHere group status =
    (d : DomainValue) × IsFound group.service.now.plan group.domain d × IsStatusOf group.service.now.room d status
    × AllListed d.journal group.sessions.items

-- a user is answered whether the user's domain is at rest, as its status says
abbrev pub AnswersRest : UserGroup → ℕ → List ℕ → Type 0
AnswersRest group user text =
    (name : List ℕ) × (status : DomainStatus) × IsNamedSo group user name × IsStatusHere group status
    × (text ≡ rest_text name (rest_state_of status))

-- these aren't the sessions of all users of a domain, in their order
abbrev pub AreNotAll : UserGroup → Type 0
AreNotAll group = ¬ AreAllOfOne group.service.now.plan group.sessions.items

-- a user who is alone in a domain begins it again; or the user is answered that only the operator may
abbrev pub AnswersRestart : UserGroup → UserGroup → ℕ → Bool → List ℕ → Type 0
AnswersRestart before after user done text =
    (name : List ℕ) × IsNamedSo before user name × (text ≡ restart_text name done)
    × BeginsIf done before after
    × (done ≡ true → length before.sessions.items ≡ 1)
    × (done ≡ false → length before.sessions.items ≡ 1 → AreNotAll before)

-- the domain has no node of the number that is asked for
abbrev pub LacksNode : UserGroup → Option ℕ → List ℕ → List ℕ → Type 0
LacksNode group None name text = ⊥
LacksNode group (Some node) name text =
    IfSome (slice_get group.service.now.plan group.domain) (λ d. length d.nodes ≤ node)
    × (text ≡ no_node_text name node)

-- a user is answered why the nodes of the user's domain, or one of them, do no more than they do: each line of that
-- begins with the user's name, and the last says that it is the end. Or the answer is that there is no such node
abbrev pub AnswersWhy : UserGroup → ℕ → Option ℕ → List ℕ → Type 0
AnswersWhy group user node text =
    (name : List ℕ) × IsNamedSo group user name
    × (((told : List ℕ) × IsToldOf group user node told × (text ≡ why_text name told)) ⊎ LacksNode group node name text)

-- the domain of a user begins again, as the operator asked in the line of this number; or nothing changes, and the
-- operator is answered the error `user`
abbrev pub AnswersOperator : UserGroup → UserGroup → ℕ → ℕ → Bool → List ℕ → Type 0
AnswersOperator before after user number done text =
    (name : List ℕ) × IsNamedSo before user name × BeginsIf done before after
    × (text
    ≡ (if done then operator_restart_text name else error_text (codes "!") number (why.Fault fault.User)))
    × (done ≡ false → AreNotAll before)

-- a wrong line asks nothing, and its user is answered why it is wrong
abbrev pub AnswersWrong : UserGroup → UserGroup → ℕ → ℕ → NotDone → List ℕ → Type 0
AnswersWrong before after user number w text =
    (name : List ℕ) × IsNamedSo before user name × (text ≡ error_text name number w)
    × AllStay before after

-- what a line is answered, and whether the domain begins again by it
abbrev pub AnswersRequest : UserGroup → UserGroup → ℕ → ℕ → QueuedRequest → Bool → List ℕ → Type 0
AnswersRequest before after user number (line.Asked (request.Script command)) anew text =
    AnswersLine before after user command text × (anew ≡ false)
AnswersRequest before after user number (line.Asked (request.Domain whole.Rest)) anew text =
    AnswersRest before user text × AllStay before after × (anew ≡ false)
AnswersRequest before after user number (line.Asked (request.Domain whole.Restart)) anew text =
    AnswersRestart before after user anew text
AnswersRequest before after user number (line.Asked (request.Domain (whole.Why node))) anew text =
    AnswersWhy before user node text × AllStay before after × (anew ≡ false)
AnswersRequest before after user number (line.Wrong w) anew text =
    AnswersWrong before after user number w text × (anew ≡ false)
AnswersRequest before after user number line.OperatorRestart anew text =
    AnswersOperator before after user number anew text

-- what a line is answered
abbrev pub AnswersQueued : UserGroup → UserGroup → QueuedLine → QueuedAnswer → Type 0
AnswersQueued before after queued answer =
    AnswersRequest before after queued.user queued.number queued.request answer.begins_anew
    (string_bytes answer.lines.text)

-- after an error nobody's session has changed; but a line of a script may have asked a part of what it says
abbrev pub StaysAfterError : UserGroup → UserGroup → QueuedRequest → Type 0
StaysAfterError before after (line.Asked (request.Script command)) = ⊤
StaysAfterError before after other = AllStay before after

-- as whom a request is answered: the operator is called `!`
abbrev pub asker_name : List ℕ → QueuedRequest → List ℕ
asker_name name (line.Asked request) = name
asker_name name (line.Wrong w) = name
asker_name name line.OperatorRestart = codes "!"

-- a line is answered if what was answered before is recorded. A domain whose record can't be taken is asked only to
-- begin again, for the operator. A domain with something that isn't recorded is asked nothing at all
abbrev pub may_be_answered : RecordState → QueuedRequest → Bool
may_be_answered state.Kept m = true
may_be_answered state.Unrecorded m = false
may_be_answered state.Out (line.Asked request) = false
may_be_answered state.Out (line.Wrong w) = false
may_be_answered state.Out line.OperatorRestart = true

-- who asked is answered that something can't be recorded. The line may have been done or not
abbrev pub TellsUnrecorded : UserGroup → QueuedLine → List ℕ → Type 0
TellsUnrecorded group queued text =
    (name : List ℕ) × IsNamedSo group queued.user name
    × (text ≡ error_text (asker_name name queued.request) queued.number why.Record)

-- a line for which the domain has no room is answered so
abbrev pub TellsFull : UserGroup → QueuedLine → List ℕ → Type 0
TellsFull group queued text =
    (name : List ℕ) × IsNamedSo group queued.user name
    × (text ≡ error_text (asker_name name queued.request) queued.number why.Full)
