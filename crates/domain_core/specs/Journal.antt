-- A journal: what was answered, in order.
use Rattle.std.specs.Prelude.{ℕ, zero, suc, List, [], ◌∷◌, ◌++◌, All, map, length, replicate, Ok, ◌≡◌, ◌<◌, ◌≤◌, ◌⊎◌}
use Rattle.plan_rules.specs.Part.{PartData}
use Rattle.t414_step.specs.declared.stepping.Stepped.{Stepped}
use Rattle.t414_step.specs.declared.stepping.Stepped.TheVariants.{Ran}
use Rattle.domain_core.specs.declared.event.By.{By}
use Rattle.domain_core.specs.declared.event.Event.TheVariants.{Step}
use Rattle.domain_core.specs.declared.event.Reply.{Reply}
use Rattle.domain_core.specs.declared.event.Reply.TheVariants as reply
use Rattle.domain_core.specs.declared.journal.Entry.{Entry}
use Rattle.domain_core.specs.declared.journal.Entry.TheVariants.{One, Run}
use Rattle.domain_core.specs.PrivateFarm.{State, Answer, Call, answers, after, opening}

-- what contracts see of a journal: its entries, and for how many entries in all memory is reserved
pub record JournalValue : Type 0 where
  pub entries : List Entry
  pub reserved : ℕ

-- an event, with who asked and the reply
pub record AnsweredCall : Type 0 where
  pub call : Call
  pub reply : Reply

-- a Step of a node, with its answer
abbrev pub answered_step : By → ℕ → Stepped → AnsweredCall
answered_step by node answer = record { call = record { by = by; event = Step node }; reply = reply.Stepped answer }

-- this number of Steps of a node: the last answered this, all others Ran
abbrev pub steps : By → ℕ → ℕ → Stepped → List AnsweredCall
steps by node zero last = []
steps by node (suc count) last = replicate count (answered_step by node Ran) ++ answered_step by node last ∷ []

-- what the entries stand for
abbrev pub expanded : List Entry → List AnsweredCall
expanded [] = []
expanded (One by event reply ∷ entries) =
    record { call = record { by = by; event = event }; reply = reply } ∷ expanded entries
expanded (Run by node count last ∷ entries) = steps by node count last ++ expanded entries

-- an entry that stands for an event at the least
abbrev pub IsNotEmpty : Entry → Type 0
IsNotEmpty (One by event reply) = Unit {0}
IsNotEmpty (Run by node count last) = 0 < count

-- no entry of a journal is empty, and there are no more than memory is reserved for, if it is reserved for any
pub record IsKeptWithin (entries : List Entry) (reserved : ℕ) : Type 0 where
  pub not_empty : All IsNotEmpty entries
  pub within : (reserved ≡ 0) ⊎ (length entries ≤ reserved)

-- the calls of a history
abbrev pub calls_of : List AnsweredCall → List Call
calls_of history = map (λ a. a.call) history

-- the answers of a history: its replies
abbrev pub replies_of : List AnsweredCall → List Answer
replies_of history = map (λ a. Ok a.reply) history

-- a farm that holds the domain alone gives exactly these answers from its opening, and ends in this state
pub record IsHistory (part : PartData) (history : List AnsweredCall) (s : State) : Type 0 where
  pub state : after part (opening part) (calls_of history) ≡ s
  pub replies : answers part (opening part) (calls_of history) ≡ replies_of history
