-- The rules that each domain of a plan keeps by itself: the contracts of `keeps_alone`, `each_keeps` and `keeps`.
use Rattle.std.proofs.Common.{◌≢◌, ◌↔◌, ◌^◌, pos, List, [], ◌∷◌, length, All, refl}
use Rattle.std.proofs.lemmas.List.Elements.{All-head, All-cons, All-nil}
use Rattle.plan_rules.specs.Data.{DomainData}
use Rattle.plan_rules.specs.Separate.{Rule, IsFrom, Lies, IsName, IsRange, IsPlannedMemory, HasHosts, HasWiredLink}
use Rattle.plan_rules.specs.declared.fault.PlanFault.{PlanFault}
use Rattle.plan_rules.specs.declared.fault.PlanFault.TheVariants.{Text, Shape, DomainCount, Name, NameTwice, Range}
use Rattle.plan_rules.specs.declared.fault.PlanFault.TheVariants.{SharedPort, NodeCount, Memory, Port, PortTwice}
use Rattle.plan_rules.specs.declared.fault.PlanFault.TheVariants.{HostCount, UnwiredNode, Limit}
use Rattle.plan_rules.specs.declared.fault.PlanFault.TheVariants.{NoMemory, RangeCount, UserCount}

-- a test of one element is a test of the list of this element alone
pub of_one : {B X : Type 0} (P : X → Type 0) (x : X) → B ↔ P x → B ↔ All P (x ∷ [])
of_one P x test = (λ b. All-cons P x [] (test.0 b) (All-nil P), λ all. test.1 (All-head P x [] all))

-- a test of the lists of each one element is a test of the list of them all
pub of_each : {B X : Type 0} (P : X → Type 0) (xs : List X) → B ↔ All (λ x. All P (x ∷ [])) xs → B ↔ All P xs
of_each P xs test = (
  λ b k d within. All-head P _ [] (test.0 b k d within),
  λ all. test.1 (λ k d within. All-cons P _ [] (all k d within) (All-nil P)),
)

-- what the rules that look at each domain by itself say of a plan
pub each_rule : {B : Type 0} (rule : PlanFault) (plan : List DomainData)
    → rule ≢ DomainCount → rule ≢ NameTwice → rule ≢ SharedPort → rule ≢ Port → rule ≢ PortTwice
    → B ↔ All (λ d. Rule rule (d ∷ [])) plan
    → B ↔ Rule rule plan
each_rule Text plan count names ranges ports uses test = (λ b. tt, λ t. test.1 (λ k d within. tt))
each_rule Shape plan count names ranges ports uses test = (λ b. tt, λ t. test.1 (λ k d within. tt))
each_rule DomainCount plan count names ranges ports uses test = absurd (count refl)
each_rule Name plan count names ranges ports uses test = of_each (λ d. All (λ u. IsName u.name) d.users) plan test
each_rule NameTwice plan count names ranges ports uses test = absurd (names refl)
each_rule Range plan count names ranges ports uses test = of_each (λ d. All IsRange d.ranges) plan test
each_rule SharedPort plan count names ranges ports uses test = absurd (ranges refl)
each_rule NodeCount plan count names ranges ports uses test = of_each (λ d. IsFrom 1 8 (length d.nodes)) plan test
each_rule Memory plan count names ranges ports uses test =
    of_each (λ d. All (λ n. IsPlannedMemory n.memory) d.nodes) plan test
each_rule Port plan count names ranges ports uses test = absurd (ports refl)
each_rule PortTwice plan count names ranges ports uses test = absurd (uses refl)
each_rule HostCount plan count names ranges ports uses test = of_each HasHosts plan test
each_rule UnwiredNode plan count names ranges ports uses test = of_each (λ d. All HasWiredLink d.nodes) plan test
each_rule Limit plan count names ranges ports uses test = of_each (λ d. Lies (pos 1) (pos (2 ^ 40)) d.limit) plan test
each_rule NoMemory plan count names ranges ports uses test = (λ b. tt, λ t. test.1 (λ k d within. tt))
each_rule RangeCount plan count names ranges ports uses test = of_each (λ d. IsFrom 1 4 (length d.ranges)) plan test
each_rule UserCount plan count names ranges ports uses test = of_each (λ d. IsFrom 1 4 (length d.users)) plan test
