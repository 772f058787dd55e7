-- A ticket: a node that was copied, and the Steps that the copy has done since.
use Rattle.std.specs.Prelude.{ℕ, ◌+◌, ◌<◌, ◌≤◌, ◌^◌, ◌≡◌, ◌⊎◌, true, List, [], ◌++◌, Option, Some, None, slice_get}
use Rattle.t414_step.specs.declared.stepping.Stepped.{Stepped}
use Rattle.bootstrap.specs.declared.node.Node.{Node}
use Rattle.bootstrap.specs.Laws.{later_or}
use Rattle.bootstrap.specs.Step.{is_quiet}
use Rattle.bootstrap.specs.Steps.{IsAfter, last_answer}
use Rattle.domain_core.specs.declared.event.By.TheVariants.{Farm}
use Rattle.domain_core.specs.Devices.{with_node}
use Rattle.domain_core.specs.Domain.{DomainValue}
use Rattle.domain_core.specs.Journal.{AnsweredCall, expanded, steps}

-- what contracts see of a ticket
pub record TicketValue : Type 0 where
  -- the numbers of its domain and its node there
  pub domain : ℕ
  pub number : ℕ
  -- the home node at the checkout, and the copy now
  pub start : Node
  pub node : Node
  pub steps : ℕ
  -- what the last Step answered, none if there was none
  pub last : Option Stepped

-- the most Steps of one ticket
abbrev pub most_steps : ℕ
most_steps = 2 ^ 40

-- the copy is its start after this number of Steps, and each of them would be recorded
pub record IsTicket (t : TicketValue) : Type 0 where
  pub node : IsAfter t.start t.steps t.node
  pub last : t.last ≡ last_answer t.steps t.start
  pub most : t.steps ≤ most_steps

-- a ticket at its checkout, with no Step done
abbrev pub fresh_ticket : ℕ → ℕ → Node → TicketValue
fresh_ticket domain number node =
    record { domain = domain; number = number; start = node; node = node; steps = 0; last = None }

-- the copy did exactly the Steps up to the nth, before the first that would not be recorded, or up to a ticket's most
pub record Bursts (n : ℕ) (t u : TicketValue) : Type 0 where
  pub more : ℕ
  pub node : IsAfter t.node more u.node
  pub steps : u.steps ≡ t.steps + more
  pub last : u.last ≡ later_or (last_answer more t.node) t.last
  pub at_most : more ≤ n
  pub ends : more < n → (is_quiet u.node ≡ true) ⊎ (u.steps ≡ most_steps)
  pub domain : u.domain ≡ t.domain
  pub number : u.number ≡ t.number
  pub start : u.start ≡ t.start

-- the home node is there, and is the ticket's start
abbrev pub IsCurrent : DomainValue → TicketValue → Type 0
IsCurrent d t = slice_get d.machine.devices.nodes t.number ≡ Some t.start

-- the ticket's Steps, for which the farm asked
abbrev pub steps_told : ℕ → ℕ → Option Stepped → List AnsweredCall
steps_told node count None = []
steps_told node count (Some last) = steps Farm node count last

-- the copy replaces the node and the journal gains exactly the ticket's Steps; all else stays
pub record Commits (d : DomainValue) (t : TicketValue) (e : DomainValue) : Type 0 where
  pub devices : e.machine.devices ≡ with_node t.number t.node d.machine.devices
  pub journal : expanded e.journal ≡ expanded d.journal ++ steps_told t.number t.steps t.last
  pub switch : e.machine.switch ≡ d.machine.switch
  pub part : e.machine.part ≡ d.machine.part
  pub reserved : e.reserved ≡ d.reserved
