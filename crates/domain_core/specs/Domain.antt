-- A domain: a machine and the journal of what it answered. What holds of every domain.
use Rattle.std.specs.Prelude.{ℕ, ◌+◌, List, [], ◌∷◌, ◌++◌, length, OnErr, ◌≡◌, ◌<◌, ◌≤◌, ◌^◌, Ok, Err, false, if◌then◌else◌, slice_get, Some}
use Rattle.std.specs.List.{AllZip}
use Rattle.crossbar.specs.Word.{CountsChange}
use Rattle.plan_rules.specs.Data.{DomainData}
use Rattle.plan_rules.specs.Part.{PartData, part_of, physical_ports}
use Rattle.domain_core.specs.declared.event.Event.TheVariants.{Step, Move}
use Rattle.domain_core.specs.declared.event.Refusal.TheVariants.{NoSuch, JournalFull, NoMemory}
use Rattle.domain_core.specs.declared.journal.Entry.{Entry}
use Rattle.domain_core.specs.Machine.{Machine, is_recorded}
use Rattle.domain_core.specs.MachineValue.{MachineValue, machine_of}
use Rattle.domain_core.specs.PrivateFarm.{State, Answer, Call, next}
use Rattle.domain_core.specs.Journal.{AnsweredCall, JournalValue, expanded, IsHistory}

-- what contracts see of a domain: its machine, its journal, and for how many entries of the journal in all memory is
-- reserved
pub record DomainValue : Type 0 where
  pub machine : MachineValue
  pub journal : List Entry
  pub reserved : ℕ

-- the domain with this machine and this journal
abbrev pub domain_of : MachineValue → JournalValue → DomainValue
domain_of machine journal = record { machine = machine; journal = journal.entries; reserved = journal.reserved }

-- no memory is reserved for one entry more
abbrev pub IsOutOfRoom : DomainValue → Type 0
IsOutOfRoom d = d.reserved ≤ length d.journal

-- what the domain stands for: its machine, and how many events its journal has
abbrev pub state_of : DomainValue → State
state_of d = record { machine = machine_of d.machine; recorded = length (expanded d.journal) }

-- a domain is its journal: the state is what the journal leads to from the opening, and each reply is the answer there
pub record IsMeant (d : DomainValue) : Type 0 where
  pub history : IsHistory d.machine.part (expanded d.journal) (state_of d)
  pub within_limit : length (expanded d.journal) ≤ d.machine.part.limit
  pub limit : d.machine.part.limit ≤ 2 ^ 40

-- what the journal gains by an answer
abbrev pub gained : PartData → State → Call → Answer → List AnsweredCall
gained part s call (Ok reply) =
    if is_recorded part s.machine call.event then record { call = call; reply = reply } ∷ [] else []
gained part s call (Err refusal) = []

-- a fact, unless memory ran out
abbrev pub UnlessNoMemory : Answer → Type 0 → Type 0
UnlessNoMemory (Ok reply) P = P
UnlessNoMemory (Err NoSuch) P = P
UnlessNoMemory (Err JournalFull) P = P
UnlessNoMemory (Err NoMemory) P = Unit {0}

-- the domain answers as a farm does that holds it alone, with the same refusal if that refuses, becomes what it would
-- become alone, and its journal gains what is recorded
pub record IsCalled (call : Call) (told : Answer) (old new : DomainValue) : Type 0 where
  pub answer : UnlessNoMemory told (told ≡ (next old.machine.part (state_of old) call).1)
  pub state : UnlessNoMemory told (state_of new ≡ (next old.machine.part (state_of old) call).0)
  pub refused : OnErr (next old.machine.part (state_of old) call).1
      (told ≡ (next old.machine.part (state_of old) call).1)
  pub journal : expanded new.journal ≡ expanded old.journal ++ gained old.machine.part (state_of old) call told
  pub counts : AllZip CountsChange old.machine.switch.words new.machine.switch.words

-- this number of further events would pass the limit
abbrev pub IsPastLimit : DomainValue → ℕ → Type 0
IsPastLimit d count = d.machine.part.limit < length (expanded d.journal) + count

-- no Move would be recorded
abbrev pub PortsAreQuiet : PartData → Machine → Type 0
PortsAreQuiet part m = (port : ℕ) → port < part.count → is_recorded part m (Move port) ≡ false

-- no Step and no Move would be recorded
pub record IsQuiet (part : PartData) (m : Machine) : Type 0 where
  pub nodes : (node : ℕ) → node < length part.nodes → is_recorded part m (Step node) ≡ false
  pub ports : PortsAreQuiet part m

-- the domain has the part and the ports of this domain of a plan
pub record Fits (plan : List DomainData) (number : ℕ) (d : DomainValue) : Type 0 where
  pub domain : DomainData
  pub there : slice_get plan number ≡ Some domain
  pub part : part_of domain ≡ d.machine.part
  pub ports : physical_ports domain ≡ d.machine.switch.ports
