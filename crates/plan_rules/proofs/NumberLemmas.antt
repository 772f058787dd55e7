-- The rules in the order of their numbers: why `smallest_fault` may try them one after another.
use Rattle.std.proofs.Common.{◌≡◌, ◌<◌, ◌+◌, ℕ, zero, suc, List, [], ◌∷◌, get_or, refl, ap, sym, subst, ◌∙◌, arith}
use Rattle.plan_rules.specs.Data.{DomainData}
use Rattle.plan_rules.specs.Fault.{plan_fault_number}
use Rattle.plan_rules.specs.Separate.{Rule, IsSeparate, KeepsBelow}
use Rattle.plan_rules.specs.declared.fault.PlanFault.{PlanFault}
use Rattle.plan_rules.specs.declared.fault.PlanFault.TheVariants.{Text, Shape, DomainCount, Name, NameTwice, Range}
use Rattle.plan_rules.specs.declared.fault.PlanFault.TheVariants.{SharedPort, NodeCount, Memory, Port, PortTwice}
use Rattle.plan_rules.specs.declared.fault.PlanFault.TheVariants.{HostCount, UnwiredNode, Limit}
use Rattle.plan_rules.specs.declared.fault.PlanFault.TheVariants.{NoMemory, RangeCount, UserCount}

-- the fault of a number
abbrev fault_of : ℕ → PlanFault
fault_of (suc zero) = Text
fault_of (suc (suc zero)) = Shape
fault_of (suc (suc (suc zero))) = DomainCount
fault_of (suc (suc (suc (suc zero)))) = Name
fault_of (suc (suc (suc (suc (suc zero))))) = NameTwice
fault_of (suc (suc (suc (suc (suc (suc zero)))))) = Range
fault_of (suc (suc (suc (suc (suc (suc (suc zero))))))) = SharedPort
fault_of (suc (suc (suc (suc (suc (suc (suc (suc zero)))))))) = NodeCount
fault_of (suc (suc (suc (suc (suc (suc (suc (suc (suc zero))))))))) = Memory
fault_of (suc (suc (suc (suc (suc (suc (suc (suc (suc (suc zero)))))))))) = Port
fault_of (suc (suc (suc (suc (suc (suc (suc (suc (suc (suc (suc zero))))))))))) = PortTwice
fault_of (suc (suc (suc (suc (suc (suc (suc (suc (suc (suc (suc (suc zero)))))))))))) = HostCount
fault_of (suc (suc (suc (suc (suc (suc (suc (suc (suc (suc (suc (suc (suc zero))))))))))))) = UnwiredNode
fault_of (suc (suc (suc (suc (suc (suc (suc (suc (suc (suc (suc (suc (suc (suc zero)))))))))))))) = Limit
fault_of (suc (suc (suc (suc (suc (suc (suc (suc (suc (suc (suc (suc (suc (suc (suc zero))))))))))))))) = NoMemory
fault_of (suc (suc (suc (suc (suc (suc (suc (suc (suc (suc (suc (suc (suc (suc (suc (suc zero)))))))))))))))) =
    RangeCount
fault_of (suc (suc (suc (suc (suc (suc (suc (suc (suc (suc (suc (suc (suc (suc (suc (suc (suc zero))))))))))))))))) =
    UserCount
fault_of _ = NoMemory

fault_of-number : (fault : PlanFault) → fault_of (plan_fault_number fault) ≡ fault
fault_of-number Text = refl
fault_of-number Shape = refl
fault_of-number DomainCount = refl
fault_of-number Name = refl
fault_of-number NameTwice = refl
fault_of-number Range = refl
fault_of-number SharedPort = refl
fault_of-number NodeCount = refl
fault_of-number Memory = refl
fault_of-number Port = refl
fault_of-number PortTwice = refl
fault_of-number HostCount = refl
fault_of-number UnwiredNode = refl
fault_of-number Limit = refl
fault_of-number NoMemory = refl
fault_of-number RangeCount = refl
fault_of-number UserCount = refl

-- two faults of one number have one rule
pub same_rule : (plan : List DomainData) (fault other_fault : PlanFault) → plan_fault_number fault
    ≡ plan_fault_number other_fault → Rule fault plan
    → Rule other_fault plan
same_rule plan fault other_fault same kept =
    subst (λ (f : PlanFault). Rule f plan) (sym (fault_of-number fault) ∙ ap fault_of same
    ∙ fault_of-number other_fault) kept

-- the first two faults are no rules of a plan
pub no_rule : (plan : List DomainData) → KeepsBelow plan 3
no_rule plan Text h = tt
no_rule plan Shape h = tt
no_rule plan DomainCount h = absurd (omega arith)
no_rule plan Name h = absurd (omega arith)
no_rule plan NameTwice h = absurd (omega arith)
no_rule plan Range h = absurd (omega arith)
no_rule plan SharedPort h = absurd (omega arith)
no_rule plan NodeCount h = absurd (omega arith)
no_rule plan Memory h = absurd (omega arith)
no_rule plan Port h = absurd (omega arith)
no_rule plan PortTwice h = absurd (omega arith)
no_rule plan HostCount h = absurd (omega arith)
no_rule plan UnwiredNode h = absurd (omega arith)
no_rule plan Limit h = absurd (omega arith)
no_rule plan NoMemory h = tt
no_rule plan RangeCount h = absurd (omega arith)
no_rule plan UserCount h = absurd (omega arith)

-- a plan that keeps the rules of all numbers below 18 is separate
pub every_rule : (plan : List DomainData) → KeepsBelow plan 18 → IsSeparate plan
every_rule plan given Text = tt
every_rule plan given Shape = tt
every_rule plan given DomainCount = given DomainCount (omega arith)
every_rule plan given Name = given Name (omega arith)
every_rule plan given NameTwice = given NameTwice (omega arith)
every_rule plan given Range = given Range (omega arith)
every_rule plan given SharedPort = given SharedPort (omega arith)
every_rule plan given NodeCount = given NodeCount (omega arith)
every_rule plan given Memory = given Memory (omega arith)
every_rule plan given Port = given Port (omega arith)
every_rule plan given PortTwice = given PortTwice (omega arith)
every_rule plan given HostCount = given HostCount (omega arith)
every_rule plan given UnwiredNode = given UnwiredNode (omega arith)
every_rule plan given Limit = given Limit (omega arith)
every_rule plan given NoMemory = tt
every_rule plan given RangeCount = given RangeCount (omega arith)
every_rule plan given UserCount = given UserCount (omega arith)

-- the rules in the order of their numbers
abbrev pub rules_in_order : List PlanFault
rules_in_order =
    DomainCount ∷ Name ∷ NameTwice ∷ Range ∷ SharedPort ∷ NodeCount ∷ Memory ∷ Port ∷ PortTwice ∷ HostCount
    ∷ UnwiredNode ∷ Limit ∷ NoMemory ∷ RangeCount ∷ UserCount ∷ []

-- the fault of the rule at place i has the number i + 3
pub numbered : (i : ℕ) → i < 15 → plan_fault_number (get_or rules_in_order i Text) ≡ i + 3
numbered zero less = refl
numbered (suc zero) less = refl
numbered (suc (suc zero)) less = refl
numbered (suc (suc (suc zero))) less = refl
numbered (suc (suc (suc (suc zero)))) less = refl
numbered (suc (suc (suc (suc (suc zero))))) less = refl
numbered (suc (suc (suc (suc (suc (suc zero)))))) less = refl
numbered (suc (suc (suc (suc (suc (suc (suc zero))))))) less = refl
numbered (suc (suc (suc (suc (suc (suc (suc (suc zero)))))))) less = refl
numbered (suc (suc (suc (suc (suc (suc (suc (suc (suc zero))))))))) less = refl
numbered (suc (suc (suc (suc (suc (suc (suc (suc (suc (suc zero)))))))))) less = refl
numbered (suc (suc (suc (suc (suc (suc (suc (suc (suc (suc (suc zero))))))))))) less = refl
numbered (suc (suc (suc (suc (suc (suc (suc (suc (suc (suc (suc (suc zero)))))))))))) less = refl
numbered (suc (suc (suc (suc (suc (suc (suc (suc (suc (suc (suc (suc (suc zero))))))))))))) less = refl
numbered (suc (suc (suc (suc (suc (suc (suc (suc (suc (suc (suc (suc (suc (suc zero)))))))))))))) less = refl
numbered (suc (suc (suc (suc (suc (suc (suc (suc (suc (suc (suc (suc (suc (suc (suc k))))))))))))))) less =
    absurd (omega arith)
