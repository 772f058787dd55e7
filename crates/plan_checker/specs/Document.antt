-- The document that a plan is written as. The three versions of the text are our own.
use Rattle.std.specs.Prelude.{◌≡◌, ℕ, ℤ, pos, List, [], ◌∷◌, map, codes, length, All, Result, Ok, Err, Some, IsUtf8}
use Rattle.std.specs.Borrow.{Bor}
use Rattle.toml.specs.Data.{Data, string, integer, array, table, Members, no_members, member}
use Rattle.toml.specs.View.{items_of}
use Rattle.toml.specs.Parse.{parse_document}
use Rattle.plan_rules.specs.declared.plan.NodePlan.{NodePlan}
use Rattle.plan_rules.specs.declared.plan.RangePlan.{RangePlan}
use Rattle.plan_checker.specs.declared.version.PlanVersion.{PlanVersion}
use Rattle.plan_checker.specs.declared.version.PlanVersion.TheVariants.{One, Two, Three}
use Rattle.plan_rules.specs.Data.{UserData, DomainData}
use Rattle.plan_checker.specs.Version.{version_number}
use Rattle.plan_checker.specs.Fields.{keys_of}
use Rattle.plan_rules.specs.declared.fault.PlanFault.{PlanFault}
use Rattle.plan_rules.specs.declared.fault.PlanFault.TheVariants.{Text, Shape, NoMemory}

-- an array of values
abbrev pub list : {X : Type 0} → (X → Data) → List X → Data
list spelling xs = array (items_of (map spelling xs))

-- A table has its fields in the order of their names, and no others.
abbrev pub node : NodePlan → Data
node n =
    table (member (codes "links") (list integer n.links)
    (member (codes "memory") (integer n.memory) no_members))

-- a range is an array of its first port and its last
abbrev pub range : RangePlan → Data
range r = list integer (r.first ∷ r.last ∷ [])

-- a user is a table of the user's name and the ports of the user's hosts
abbrev pub user : UserData → Data
user u =
    table (member (codes "host") (list integer u.hosts)
    (member (codes "name") (string u.name) no_members))

-- the first port of the only range
abbrev pub first_of : List RangePlan → ℤ
first_of [] = pos 0
first_of (r ∷ _) = r.first

-- the last port of the only range
abbrev pub last_of : List RangePlan → ℤ
last_of [] = pos 0
last_of (r ∷ _) = r.last

-- the hosts of the only user
abbrev pub hosts_of_first : List UserData → List ℤ
hosts_of_first [] = []
hosts_of_first (u ∷ _) = u.hosts

-- the name of the only user
abbrev pub name_of_first : List UserData → List ℕ
name_of_first [] = []
name_of_first (u ∷ _) = u.name

-- a domain in each version
abbrev pub domain : PlanVersion → DomainData → Data
domain One d =
    table (member (codes "first") (integer (first_of d.ranges))
    (member (codes "host") (list integer (hosts_of_first d.users))
    (member (codes "last") (integer (last_of d.ranges))
    (member (codes "limit") (integer d.limit)
    (member (codes "name") (string (name_of_first d.users))
    (member (codes "node") (list node d.nodes) no_members))))))
domain Two d =
    table (member (codes "host") (list integer (hosts_of_first d.users))
    (member (codes "limit") (integer d.limit)
    (member (codes "name") (string (name_of_first d.users))
    (member (codes "node") (list node d.nodes)
    (member (codes "range") (list range d.ranges) no_members)))))
domain Three d =
    table (member (codes "limit") (integer d.limit)
    (member (codes "node") (list node d.nodes)
    (member (codes "range") (list range d.ranges)
    (member (codes "user") (list user d.users) no_members))))

-- the document of a plan in a version
abbrev pub document : PlanVersion → List DomainData → Members
document version plan =
    member (codes "domain") (list (domain version) plan)
    (member (codes "version") (integer (version_number version)) no_members)

-- each node has four links
abbrev pub HasFourLinks : NodePlan → Type 0
HasFourLinks n = length n.links ≡ 4

-- the domains that a version can write: version 1 has one range and one user, version 2 one user
abbrev pub HasForm : PlanVersion → DomainData → Type 0
HasForm One d = (length d.ranges ≡ 1) × (length d.users ≡ 1)
HasForm Two d = length d.users ≡ 1
HasForm Three d = Unit {0}

-- the version can write the domain, and each node has four links
abbrev pub IsWhole : PlanVersion → DomainData → Type 0
IsWhole version d = HasForm version d × All HasFourLinks d.nodes

-- the plan is spelled by the document, in the version
abbrev pub IsSpelled : PlanVersion → Members → List DomainData → Type 0
IsSpelled version members plan = (members ≡ document version plan) × All (IsWhole version) plan

-- the bytes are the text of a document
abbrev pub IsDocument : List ℕ → Members → Type 0
IsDocument bytes members = IsUtf8 bytes × (parse_document bytes ≡ Some members)

-- the bytes are the text of a plan, in one of the versions
abbrev pub IsPlan : List ℕ → List DomainData → Type 0
IsPlan bytes plan = (version : PlanVersion) × IsDocument bytes (document version plan) × All (IsWhole version) plan

-- what each answer of the reader says of the bytes
abbrev pub ReadsPlan : List ℕ → Result (List DomainData) PlanFault → Type 0
ReadsPlan bytes (Ok plan) = IsPlan bytes plan
ReadsPlan bytes (Err Text) = (members : Members) → ¬ IsDocument bytes members
ReadsPlan bytes (Err Shape) =
    ((members : Members) × IsDocument bytes members) × ((plan : List DomainData) → ¬ IsPlan bytes plan)
ReadsPlan bytes (Err NoMemory) = Unit {0}
ReadsPlan bytes (Err _) = ⊥

-- what each answer of the document's reader says of its fields
abbrev pub ReadsDocument : Members → Result (List DomainData) PlanFault → Type 0
ReadsDocument fields (Ok plan) = (version : PlanVersion) × IsSpelled version fields plan
ReadsDocument fields (Err Shape) = (version : PlanVersion) (plan : List DomainData) → ¬ IsSpelled version fields plan
ReadsDocument fields (Err NoMemory) = Unit {0}
ReadsDocument fields (Err _) = ⊥

-- What a function that reads a part answers: a value that the data spells, or that nothing whole is spelled so.
abbrev pub ReadsValue : {X Y D : Type 0} → (Y → Type 0) → (Y → D) → (X → Y) → D → Result X PlanFault
    → Type 0
ReadsValue Whole spelling shown value (Ok x) = (value ≡ spelling (shown x)) × Whole (shown x)
ReadsValue {X} {Y} Whole spelling shown value (Err Shape) = (y : Y) → Whole y → ¬ (value ≡ spelling y)
ReadsValue Whole spelling shown value (Err NoMemory) = Unit {0}
ReadsValue Whole spelling shown value (Err _) = ⊥

-- the data is a table with exactly the fields of these names
abbrev pub IsTomlTable : Data → List (Bor (List ℕ)) → Members → Type 0
IsTomlTable value names members = (value ≡ table members) × (keys_of members ≡ map (λ n. n.now) names)
