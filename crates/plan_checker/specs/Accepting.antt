-- Which texts give an accepted plan, and why others don't.
use Rattle.std.specs.Prelude.{◌≢◌, ◌⊎◌, ℕ, List, Err}
use Rattle.plan_rules.specs.Data.{DomainData}
use Rattle.plan_rules.specs.Separate.{IsSeparate, IsSmallestFault}
use Rattle.plan_rules.specs.declared.fault.PlanFault.{PlanFault}
use Rattle.plan_rules.specs.declared.fault.PlanFault.TheVariants.{NoMemory}
use Rattle.plan_checker.specs.Document.{IsPlan, ReadsPlan}

-- a text is this plan's, which breaks no rule
abbrev pub IsAcceptedText : List ℕ → List DomainData → Type 0
IsAcceptedText text plan = IsPlan text plan × IsSeparate plan

-- a text is no plan's, for this fault; or the plan's smallest fault is this
abbrev pub IsPlanFault : List ℕ → PlanFault → Type 0
IsPlanFault text fault =
    ReadsPlan text (Err fault) ⊎ ((plan : List DomainData) × IsPlan text plan × IsSmallestFault plan fault)

-- a text is refused as a plan, for this fault. That memory ran out is no fault of a text
abbrev pub IsRefusedPlan : List ℕ → PlanFault → Type 0
IsRefusedPlan text fault = (fault ≢ NoMemory) × IsPlanFault text fault
