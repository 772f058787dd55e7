-- Which plans keep their domains apart.
use Rattle.std.specs.Prelude.{◌≡◌, ◌≢◌, ◌⊎◌, ◌<◌, ◌≤◌, ◌++◌, ◌^◌, ℕ, ℤ, pos, negsuc, ◌≤ℤ◌, ◌<ℤ◌, ◌+ℤ◌, ◌-ℤ◌, List, [], ◌∷◌, filter, flat_map, length, All, AllPairs, Bool, not, int_rem}
use Rattle.std.specs.Ordering.{int_eq}
use Rattle.plan_rules.specs.declared.plan.NodePlan.{NodePlan}
use Rattle.plan_rules.specs.declared.plan.RangePlan.{RangePlan}
use Rattle.plan_rules.specs.Data.{UserData, DomainData}
use Rattle.plan_rules.specs.Fault.{plan_fault_number}
use Rattle.plan_rules.specs.declared.fault.PlanFault.{PlanFault}
use Rattle.plan_rules.specs.declared.fault.PlanFault.TheVariants.{DomainCount, Name, NameTwice, Range, SharedPort, NodeCount, Memory, Port, PortTwice, HostCount, UnwiredNode, Limit, RangeCount, UserCount}

-- least ≤ n ≤ greatest, of numbers
abbrev pub IsFrom : ℕ → ℕ → ℕ → Type 0
IsFrom least greatest n = (least ≤ n) × (n ≤ greatest)

-- least ≤ x ≤ greatest, of integers
abbrev pub Lies : ℤ → ℤ → ℤ → Type 0
Lies least greatest x = (least ≤ℤ x) × (x ≤ℤ greatest)

-- no element occurs twice
abbrev pub IsDistinct : {X : Type 0} → List X → Type 0
IsDistinct xs = AllPairs (λ x y. x ≢ y) xs

-- a to z, 0 to 9 or a hyphen
abbrev pub IsNameByte : ℕ → Type 0
IsNameByte b = (IsFrom 97 122 b ⊎ IsFrom 48 57 b) ⊎ (b ≡ 45)

-- 1 to 32 of these bytes
abbrev pub IsName : List ℕ → Type 0
IsName name = IsFrom 1 32 (length name) × All IsNameByte name

-- two users of different names
abbrev pub HaveOtherNames : UserData → UserData → Type 0
HaveOtherNames u v = u.name ≢ v.name

-- a range lies within the 32 ports of the IMS C004, and is not empty
abbrev pub IsRange : RangePlan → Type 0
IsRange r = (pos 0 ≤ℤ r.first) × (r.first ≤ℤ r.last) × (r.last ≤ℤ pos 31)

-- the physical ports of a range
abbrev pub HasPort : RangePlan → ℤ → Type 0
HasPort r port = Lies r.first r.last port

-- no port lies in both ranges
abbrev pub ShareNoPort : RangePlan → RangePlan → Type 0
ShareNoPort r s = (port : ℤ) → HasPort r port → HasPort s port → ⊥

-- the number of ports of a range
abbrev pub length_of : RangePlan → ℤ
length_of r = (r.last -ℤ r.first) +ℤ pos 1

-- the number of ports of a list of ranges
abbrev pub port_count : List RangePlan → ℤ
port_count [] = pos 0
port_count (r ∷ rs) = length_of r +ℤ port_count rs

-- a virtual port is one of the domain's
abbrev pub IsVirtualPort : List RangePlan → ℤ → Type 0
IsVirtualPort ranges port = (pos 0 ≤ℤ port) × (port <ℤ port_count ranges)

-- a multiple of 4 from 2,048 to 65,536
abbrev pub IsPlannedMemory : ℤ → Type 0
IsPlannedMemory bytes = Lies (pos 2048) (pos 65536) bytes × (int_rem bytes (pos 4) ≡ pos 0)

-- whether the value of a link wires it to a port
abbrev pub is_wired : ℤ → Bool
is_wired link = not (int_eq link (negsuc 0))

-- the virtual ports of a node's wired links
abbrev pub wired_links : NodePlan → List ℤ
wired_links n = filter is_wired n.links

-- at least one link is wired
abbrev pub HasWiredLink : NodePlan → Type 0
HasWiredLink n = 1 ≤ length (wired_links n)

-- the virtual ports of a domain's hosts, through the lists of its users
abbrev pub hosts_of : DomainData → List ℤ
hosts_of d = flat_map (λ u. u.hosts) d.users

-- each user of the domain has a host, and together they have four at most
abbrev pub HasHosts : DomainData → Type 0
HasHosts d = All (λ u. 1 ≤ length u.hosts) d.users × (length (hosts_of d) ≤ 4)

-- the virtual ports that a domain uses
abbrev pub used_ports : DomainData → List ℤ
used_ports d = hosts_of d ++ flat_map wired_links d.nodes

-- all users of a plan
abbrev pub users_of : List DomainData → List UserData
users_of plan = flat_map (λ d. d.users) plan

-- all ranges of a plan
abbrev pub ranges_of : List DomainData → List RangePlan
ranges_of plan = flat_map (λ d. d.ranges) plan

-- the rule whose breach each fault is
abbrev pub Rule : PlanFault → List DomainData → Type 0
Rule DomainCount plan = IsFrom 1 16 (length plan)
Rule Name plan = All (λ d. All (λ u. IsName u.name) d.users) plan
Rule NameTwice plan = AllPairs HaveOtherNames (users_of plan)
Rule Range plan = All (λ d. All IsRange d.ranges) plan
Rule SharedPort plan = AllPairs ShareNoPort (ranges_of plan)
Rule NodeCount plan = All (λ d. IsFrom 1 8 (length d.nodes)) plan
Rule Memory plan = All (λ d. All (λ n. IsPlannedMemory n.memory) d.nodes) plan
Rule Port plan = All (λ d. All (IsVirtualPort d.ranges) (used_ports d)) plan
Rule PortTwice plan = All (λ d. IsDistinct (used_ports d)) plan
Rule HostCount plan = All HasHosts plan
Rule UnwiredNode plan = All (λ d. All HasWiredLink d.nodes) plan
Rule Limit plan = All (λ d. Lies (pos 1) (pos (2 ^ 40)) d.limit) plan
Rule RangeCount plan = All (λ d. IsFrom 1 4 (length d.ranges)) plan
Rule UserCount plan = All (λ d. IsFrom 1 4 (length d.users)) plan
Rule _ plan = Unit {0}

-- no rule is broken
abbrev pub IsSeparate : List DomainData → Type 0
IsSeparate plan = (fault : PlanFault) → Rule fault plan

-- the plan keeps the rules of the faults of smaller numbers
abbrev pub KeepsBelow : List DomainData → ℕ → Type 0
KeepsBelow plan number = (other : PlanFault) → plan_fault_number other < number → Rule other plan

-- the rule is broken, and no rule of a smaller number
abbrev pub IsSmallestFault : List DomainData → PlanFault → Type 0
IsSmallestFault plan fault = (¬ Rule fault plan) × KeepsBelow plan (plan_fault_number fault)
