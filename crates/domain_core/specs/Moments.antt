-- A domain at a moment of its history, without its journal.
use Rattle.std.specs.Prelude.{ℕ, List, ◌++◌}
use Rattle.plan_rules.specs.Part.{PartData}
use Rattle.domain_core.specs.Journal.{AnsweredCall, IsHistory}
use Rattle.domain_core.specs.MachineValue.{MachineValue, machine_of}
use Rattle.domain_core.specs.PrivateFarm.{State}

-- what contracts see of a moment: the machine, and how many events were recorded till then
pub record MomentValue : Type 0 where
  pub machine : MachineValue
  pub recorded : ℕ

-- the state that it stands for
abbrev pub state_at : MomentValue → State
state_at m = record { machine = machine_of m.machine; recorded = m.recorded }

-- whatever history led to the one state, that history and these answered calls lead to the other
abbrev pub LeadsOn : PartData → State → List AnsweredCall → State → Type 0
LeadsOn part s gain t =
    (history : List AnsweredCall) → IsHistory part history s → IsHistory part (history ++ gain) t
