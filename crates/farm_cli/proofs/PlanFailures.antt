-- The failure that a refusal of a plan ends a run by: the contract of `plan_of`.
use Rattle.std.proofs.Common.{◌≡◌, ◌≢◌, ℕ, List, Result, Ok, Err, ap, sym, subst, arith}
use Rattle.std.specs.Prelude.{IfErr}
use Rattle.std.specs.Result.{IsErrAnd}
use Rattle.plan_rules.specs.Fault.{plan_fault_number}
use Rattle.plan_rules.specs.declared.fault.PlanFault.{PlanFault}
use Rattle.plan_rules.specs.declared.fault.PlanFault.TheVariants.{Text, Shape, DomainCount, Name, NameTwice, Range}
use Rattle.plan_rules.specs.declared.fault.PlanFault.TheVariants.{SharedPort, NodeCount, Memory, Port, PortTwice}
use Rattle.plan_rules.specs.declared.fault.PlanFault.TheVariants.{HostCount, UnwiredNode, Limit, NoMemory, RangeCount}
use Rattle.plan_rules.specs.declared.fault.PlanFault.TheVariants.{UserCount}
use Rattle.plan_checker.specs.Accepting.{IsPlanFault, IsRefusedPlan}
use Rattle.farm_cli.specs.Failures.{IsPlanFailure, failure_of_plan}
use Rattle.farm_cli.specs.declared.failure.FarmFailure.{FarmFailure}

-- a fault of another number than that of out of memory is a fault of the text
refused : (text : List ℕ) (fault : PlanFault) → IsPlanFault text fault → plan_fault_number fault ≢ 15
    → IsRefusedPlan text fault
refused text fault is other = (λ same. other (ap plan_fault_number same), is)

-- a run ends by the fault of the text, or since memory ran out
pub plan_failure : (text : List ℕ) (fault : PlanFault) → IsPlanFault text fault
    → IsPlanFailure text (failure_of_plan fault)
plan_failure text NoMemory is = tt
plan_failure text Text is = refused text Text is (λ same. omega (arith, same))
plan_failure text Shape is = refused text Shape is (λ same. omega (arith, same))
plan_failure text DomainCount is = refused text DomainCount is (λ same. omega (arith, same))
plan_failure text Name is = refused text Name is (λ same. omega (arith, same))
plan_failure text NameTwice is = refused text NameTwice is (λ same. omega (arith, same))
plan_failure text Range is = refused text Range is (λ same. omega (arith, same))
plan_failure text SharedPort is = refused text SharedPort is (λ same. omega (arith, same))
plan_failure text NodeCount is = refused text NodeCount is (λ same. omega (arith, same))
plan_failure text Memory is = refused text Memory is (λ same. omega (arith, same))
plan_failure text Port is = refused text Port is (λ same. omega (arith, same))
plan_failure text PortTwice is = refused text PortTwice is (λ same. omega (arith, same))
plan_failure text HostCount is = refused text HostCount is (λ same. omega (arith, same))
plan_failure text UnwiredNode is = refused text UnwiredNode is (λ same. omega (arith, same))
plan_failure text Limit is = refused text Limit is (λ same. omega (arith, same))
plan_failure text RangeCount is = refused text RangeCount is (λ same. omega (arith, same))
plan_failure text UserCount is = refused text UserCount is (λ same. omega (arith, same))

-- so does a result that hands on the refusal
pub refusal_handed_on : {T : Type 0} (result : Result T FarmFailure) (text : List ℕ) (fault : PlanFault)
    → IsErrAnd result (λ failure. failure ≡ failure_of_plan fault) → IsPlanFault text fault
    → IfErr result (IsPlanFailure text)
refusal_handed_on (Ok value) text fault handed is = tt
refusal_handed_on (Err failure) text fault handed is =
    subst (IsPlanFailure text) (sym handed) (plan_failure text fault is)
