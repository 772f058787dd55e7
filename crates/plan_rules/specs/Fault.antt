-- The numbers of the faults.
use Rattle.std.specs.Prelude.{ℕ}
use Rattle.plan_rules.specs.declared.fault.PlanFault.{PlanFault}
use Rattle.plan_rules.specs.declared.fault.PlanFault.TheVariants.{Text, Shape, DomainCount, Name, NameTwice, Range, SharedPort, NodeCount, Memory, Port, PortTwice, HostCount, UnwiredNode, Limit, NoMemory, RangeCount, UserCount}

-- the number of a fault
abbrev pub plan_fault_number : PlanFault → ℕ
plan_fault_number Text = 1
plan_fault_number Shape = 2
plan_fault_number DomainCount = 3
plan_fault_number Name = 4
plan_fault_number NameTwice = 5
plan_fault_number Range = 6
plan_fault_number SharedPort = 7
plan_fault_number NodeCount = 8
plan_fault_number Memory = 9
plan_fault_number Port = 10
plan_fault_number PortTwice = 11
plan_fault_number HostCount = 12
plan_fault_number UnwiredNode = 13
plan_fault_number Limit = 14
plan_fault_number NoMemory = 15
plan_fault_number RangeCount = 16
plan_fault_number UserCount = 17
