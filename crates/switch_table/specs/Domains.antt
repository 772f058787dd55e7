-- The domains of a plan, each as the list of its physical ports in the order of their virtual numbers.
use Rattle.std.specs.Prelude.{◌≡◌, ℕ, List, map, Some, slice_get, Contains}
use Rattle.plan_rules.specs.Data.{DomainData}
use Rattle.plan_rules.specs.Part.{physical_ports}

-- the physical ports of each domain of a plan
abbrev pub domains_of : List DomainData → List (List ℕ)
domains_of plan = map physical_ports plan

-- no two of the domains have a port in common
abbrev pub AreDisjoint : List (List ℕ) → Type 0
AreDisjoint domains =
    (m n port : ℕ) (d e : List ℕ) → slice_get domains m ≡ Some d → slice_get domains n ≡ Some e
    → Contains d port → Contains e port → m ≡ n
