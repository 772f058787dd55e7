-- What holds of the domains of a plan that breaks no rule, for the law `faultless_plans_are_separate`, the parts and
-- rows that are made of a plan, and `AcceptedPlan`.
use Rattle.std.proofs.Common.{◌≡◌, ◌≢◌, ◌<◌, ◌≤◌, ◌+◌, ◌-◌, ◌%◌, ◌++◌, ◌^◌, ◌∙◌, ℕ, zero, suc, ℤ, pos, negsuc}
use Rattle.std.proofs.Common.{unsigned_abs, ◌≤ℤ◌, ◌<ℤ◌, Bool, true, false, List, [], ◌∷◌, Some, None, length, get_or}
use Rattle.std.proofs.Common.{map, filter, flat_map, replicate, All, AllPairs, refl, ap, sym, subst, arith, append-nil}
use Rattle.std.proofs.Common.{length-append, append_assoc, take, ◌*◌}
use Rattle.std.specs.List.{Contains, filter_map}
use Rattle.std.proofs.lemmas.Int.{ints}
use Rattle.std.proofs.lemmas.Bool.{false≢true}
use Rattle.std.proofs.lemmas.List.{map-append, length-map}
use Rattle.std.proofs.lemmas.List.Concat.{flat_map-cons}
use Rattle.std.proofs.lemmas.List.Elements.{All-head, All-tail, All-cons, All-nil, All-append, All-map}
use Rattle.std.proofs.lemmas.List.Kept.{AllPairs-cons}
use Rattle.plan_rules.specs.Data.{UserData, DomainData}
use Rattle.plan_rules.specs.declared.plan.NodePlan.{NodePlan}
use Rattle.plan_rules.specs.declared.plan.RangePlan.{RangePlan}
use Rattle.plan_rules.specs.declared.part.NodePart.{NodePart}
use Rattle.plan_rules.specs.declared.part.HostPart.{HostPart}
use Rattle.plan_rules.specs.declared.fault.PlanFault.TheVariants.{Text, Shape, DomainCount, Name, NameTwice, Range}
use Rattle.plan_rules.specs.declared.fault.PlanFault.TheVariants.{SharedPort, NodeCount, Memory, Port, PortTwice}
use Rattle.plan_rules.specs.declared.fault.PlanFault.TheVariants.{HostCount, UnwiredNode, Limit}
use Rattle.plan_rules.specs.declared.fault.PlanFault.TheVariants.{NoMemory, RangeCount, UserCount}
use Rattle.plan_rules.specs.Separate.{IsSeparate, IsFrom, Lies, IsName, HaveOtherNames, IsRange, ShareNoPort}
use Rattle.plan_rules.specs.Separate.{HasWiredLink, IsPlannedMemory, IsVirtualPort, IsDistinct, length_of, port_count}
use Rattle.plan_rules.specs.Separate.{is_wired, wired_links, hosts_of, used_ports}
use Rattle.plan_rules.specs.Part.{IsPart, part_with, IsNodePart, part_of, node_part, port_at, host_part, host_parts}
use Rattle.plan_rules.specs.Part.{wired_ports, ports_used, IsNumbered, AreSeparate}
use Rattle.plan_rules.specs.Part.{physical_ports, range_at, port_range}
use Rattle.crossbar.specs.Ranges.{IsNumbering}
use Rattle.plan_rules.proofs.ListLemmas.{all_left, all_right, all_lists, pairs_head, pairs_tail, pairs_nil, lists_each}
use Rattle.plan_rules.proofs.ListLemmas.{lists_across, pairs_alone, pairs_of_one}
use Rattle.plan_rules.proofs.RuleLemmas.{count_more}
use Rattle.plan_rules.proofs.PortLemmas.{abs_is, length_all, count_from, all_ports, ports_in_row}
use Rattle.plan_rules.proofs.PortLemmas.{are_ranges, numbering, no_common}

-- ---- the parts in numbers

abs_wired_at : (integer : ℤ) (ls : List ℤ) (wired : Bool) → is_wired integer ≡ wired
    → filter_map (λ link. link) (map port_at ls) ≡ map unsigned_abs (filter is_wired ls)
    → filter_map (λ link. link) (map port_at (integer ∷ ls)) ≡ map unsigned_abs (filter is_wired (integer ∷ ls))
abs_wired_at integer ls true is same = rw is (ap (λ ps. unsigned_abs integer ∷ ps) same)
abs_wired_at integer ls false is same = rw is same

abs_wired : (ls : List ℤ) → filter_map (λ link. link) (map port_at ls) ≡ map unsigned_abs (filter is_wired ls)
abs_wired [] = refl
abs_wired (l ∷ ls) = abs_wired_at l ls (is_wired l) refl (abs_wired ls)

abs_links : (ns : List NodePlan) → flat_map wired_ports (map node_part ns) ≡ map unsigned_abs (flat_map wired_links ns)
abs_links [] = refl
abs_links (n ∷ ns) =
    rw (
      flat_map-cons wired_ports (node_part n) (map node_part ns),
      flat_map-cons wired_links n ns,
      map-append unsigned_abs (wired_links n) (flat_map wired_links ns),
      abs_wired n.links,
      abs_links ns,
    )
    refl

owned : (user : ℕ) (ports : List ℤ)
    → map (λ (h : HostPart). h.port) (map (host_part user) ports) ≡ map unsigned_abs ports
owned user [] = refl
owned user (p ∷ ports) = ap (λ ps. unsigned_abs p ∷ ps) (owned user ports)

abs_hosts : (user : ℕ) (us : List UserData)
    → map (λ (h : HostPart). h.port) (host_parts user us) ≡ map unsigned_abs (flat_map (λ u. u.hosts) us)
abs_hosts user [] = refl
abs_hosts user (u ∷ us) =
    rw (
      flat_map-cons (λ (u : UserData). u.hosts) u us,
      map-append unsigned_abs u.hosts (flat_map (λ u. u.hosts) us),
      map-append (λ (h : HostPart). h.port) (map (host_part user) u.hosts) (host_parts (user + 1) us),
      owned user u.hosts,
      abs_hosts (user + 1) us,
    )
    refl

-- the virtual ports that a domain's part uses are those that the plan names
pub abs_used : (d : DomainData) → ports_used (part_of d) ≡ map unsigned_abs (used_ports d)
abs_used d =
    rw (map-append unsigned_abs (hosts_of d) (flat_map wired_links d.nodes), abs_hosts 0 d.users, abs_links d.nodes)
    refl

length_hosts : (user : ℕ) (us : List UserData) → length (host_parts user us) ≡ length (flat_map (λ u. u.hosts) us)
length_hosts user us =
    sym (length-map (host_parts user us) (λ (h : HostPart). h.port)) ∙ ap length (abs_hosts user us)
    ∙ length-map (flat_map (λ u. u.hosts) us) unsigned_abs

owners_at : (user most : ℕ) (ports : List ℤ) → user < most
    → All (λ (h : HostPart). h.user < most) (map (host_part user) ports)
owners_at user most ports less = All-map (λ (h : HostPart). h.user < most) (host_part user) ports (λ k d below. less)

owners : (user most : ℕ) (us : List UserData) → user + length us ≤ most
    → All (λ (h : HostPart). h.user < most) (host_parts user us)
owners user most [] less = All-nil (λ (h : HostPart). h.user < most)
owners user most (u ∷ us) less =
    All-append (λ (h : HostPart). h.user < most) (map (host_part user) u.hosts) (host_parts (user + 1) us)
    (owners_at user most u.hosts (omega (arith, less))) (owners (user + 1) most us (omega (arith, less)))

abs_distinct : (xs : List ℤ) → All (λ x. pos 0 ≤ℤ x) xs → AllPairs (λ x y. x ≢ y) xs
    → AllPairs (λ x y. x ≢ y) (map unsigned_abs xs)
abs_distinct [] low distinct = pairs_nil (λ x y. x ≢ y)
abs_distinct (x ∷ xs) low distinct =
    let here = All-head (λ x. pos 0 ≤ℤ x) x xs low in
    let later = All-tail (λ x. pos 0 ≤ℤ x) x xs low in
    AllPairs-cons (λ x y. x ≢ y) (unsigned_abs x) (map unsigned_abs xs)
    (All-map (λ n. unsigned_abs x ≢ n) unsigned_abs xs
    (λ k d less same.
    pairs_head (λ x y. x ≢ y) x xs distinct k d less
    (sym (abs_is x here) ∙ ap pos same ∙ abs_is (get_or xs k d) (later k d less))))
    (abs_distinct xs later (pairs_tail (λ x y. x ≢ y) x xs distinct))

some_host : (us : List UserData) → 1 ≤ length us → All (λ u. 1 ≤ length u.hosts) us
    → 1 ≤ length (flat_map (λ u. u.hosts) us)
some_host [] some less = absurd (omega (arith, some))
some_host (u ∷ us) some less =
    let here = All-head (λ (u : UserData). 1 ≤ length u.hosts) u us less in
    let whole =
    ap length (flat_map-cons (λ (u : UserData). u.hosts) u us) ∙ length-append u.hosts (flat_map (λ u. u.hosts) us) in
    omega (arith, here, whole)

-- a size of memory that is a multiple of 4
size_is : (integer : ℤ) → IsPlannedMemory integer → (2048 ≤ unsigned_abs integer) × (unsigned_abs integer ≤ 65536)
    × (unsigned_abs integer % 4 ≡ 0)
size_is (pos n) given =
    let least = given.0.0 in
    let most = given.0.1 in
    let rest = given.1 in
    (omega (arith, ints, least), omega (arith, ints, most), cc)
size_is (negsuc n) given = let least = given.0.0 in absurd (omega (arith, ints, least))

node_is : (n : NodePlan) → IsPlannedMemory n.memory → HasWiredLink n → IsNodePart (node_part n)
node_is n size wired =
    let s = size_is n.memory size in
    let links = ap length (abs_wired n.links) ∙ length-map (wired_links n) unsigned_abs in
    ((s.0, s.1), s.2, omega (arith, links, wired))

limit_is : (integer : ℤ) → Lies (pos 1) (pos (2 ^ 40)) integer → (1 ≤ unsigned_abs integer)
    × (unsigned_abs integer ≤ 2 ^ 40)
limit_is integer given = let least = given.0 in let most = given.1 in
    (omega (arith, ints, least), omega (arith, ints, least, most))

abs_below : (x count : ℤ) → pos 0 ≤ℤ x → x <ℤ count → unsigned_abs x < unsigned_abs count
abs_below x count low less = grind (arith, ints)

-- the part of a domain that breaks no rule is within its bounds
pub is_part : (d : DomainData) → IsSeparate (d ∷ []) → IsPart (part_of d)
is_part d sep =
    let ranges = All-head (λ (d : DomainData). All IsRange d.ranges) d [] (sep Range) in
    let apart = pairs_of_one ShareNoPort (λ (d : DomainData). d.ranges) d (sep SharedPort) in
    let range_count = All-head (λ (d : DomainData). IsFrom 1 4 (length d.ranges)) d [] (sep RangeCount) in
    let user_count = All-head (λ (d : DomainData). IsFrom 1 4 (length d.users)) d [] (sep UserCount) in
    let node_count = All-head (λ (d : DomainData). IsFrom 1 8 (length d.nodes)) d [] (sep NodeCount) in
    let sizes = All-head (λ (d : DomainData). All (λ n. IsPlannedMemory n.memory) d.nodes) d [] (sep Memory) in
    let ports = All-head (λ (d : DomainData). All (IsVirtualPort d.ranges) (used_ports d)) d [] (sep Port) in
    let twice = All-head (λ (d : DomainData). IsDistinct (used_ports d)) d [] (sep PortTwice) in
    let hosts =
    All-head (λ (d : DomainData). All (λ u. 1 ≤ length u.hosts) d.users × (length (hosts_of d) ≤ 4)) d []
    (sep HostCount) in
    let wired = All-head (λ (d : DomainData). All HasWiredLink d.nodes) d [] (sep UnwiredNode) in
    let limit = All-head (λ (d : DomainData). Lies (pos 1) (pos (2 ^ 40)) d.limit) d [] (sep Limit) in
    let few = count_from d.ranges range_count.0 ranges apart in
    let size = ap unsigned_abs (sym (length_all d.ranges ranges)) in
    let own_hosts = length_hosts 0 d.users in
    let some = some_host d.users user_count.0 hosts.0 in
    let nodes = length-map d.nodes node_part in
    record {
      count = (omega (arith, size, few.0), omega (arith, size, few.1));
      limit = limit_is d.limit limit;
      users = user_count;
      nodes = rw nodes node_count;
      hosts = (omega (arith, own_hosts, some), omega (arith, own_hosts, hosts.1));
      each_node =
          All-map IsNodePart node_part d.nodes
          (λ k n less. node_is (get_or d.nodes k n) (sizes k n less) (wired k n less));
      below =
          rw (abs_used d)
          (All-map (λ port. port < unsigned_abs (port_count d.ranges)) unsigned_abs (used_ports d)
          (λ k x less.
          abs_below (get_or (used_ports d) k x) (port_count d.ranges) (ports k x less).0 (ports k x less).1));
      distinct = rw (abs_used d) (abs_distinct (used_ports d) (λ k x less. (ports k x less).0) twice);
      owners = owners 0 (length d.users) d.users (omega arith);
    }

only : {X : Type 0} (P : X → Type 0) (x : X) → P x → All P (x ∷ [])
only P x value = All-cons P x [] value (All-nil P)

-- a domain of a separate plan is separate by itself
pub alone : (plan : List DomainData) → IsSeparate plan → All (λ d. IsSeparate (d ∷ [])) plan
alone plan sep k e less DomainCount = (omega arith, omega arith)
alone plan sep k e less Name = only (λ d. All (λ u. IsName u.name) d.users) (get_or plan k e) (sep Name k e less)
alone plan sep k e less NameTwice =
    pairs_alone HaveOtherNames (λ d. d.users) (get_or plan k e)
    (lists_each HaveOtherNames (λ d. d.users) plan (sep NameTwice) k e less)
alone plan sep k e less Range = only (λ d. All IsRange d.ranges) (get_or plan k e) (sep Range k e less)
alone plan sep k e less SharedPort =
    pairs_alone ShareNoPort (λ d. d.ranges) (get_or plan k e)
    (lists_each ShareNoPort (λ d. d.ranges) plan (sep SharedPort) k e less)
alone plan sep k e less NodeCount = only (λ d. IsFrom 1 8 (length d.nodes)) (get_or plan k e) (sep NodeCount k e less)
alone plan sep k e less Memory =
    only (λ d. All (λ n. IsPlannedMemory n.memory) d.nodes) (get_or plan k e) (sep Memory k e less)
alone plan sep k e less Port =
    only (λ d. All (IsVirtualPort d.ranges) (used_ports d)) (get_or plan k e) (sep Port k e less)
alone plan sep k e less PortTwice = only (λ d. IsDistinct (used_ports d)) (get_or plan k e) (sep PortTwice k e less)
alone plan sep k e less HostCount =
    only (λ d. All (λ u. 1 ≤ length u.hosts) d.users × (length (hosts_of d) ≤ 4)) (get_or plan k e)
    (sep HostCount k e less)
alone plan sep k e less UnwiredNode = only (λ d. All HasWiredLink d.nodes) (get_or plan k e) (sep UnwiredNode k e less)
alone plan sep k e less Limit = only (λ d. Lies (pos 1) (pos (2 ^ 40)) d.limit) (get_or plan k e) (sep Limit k e less)
alone plan sep k e less RangeCount =
    only (λ d. IsFrom 1 4 (length d.ranges)) (get_or plan k e) (sep RangeCount k e less)
alone plan sep k e less UserCount = only (λ d. IsFrom 1 4 (length d.users)) (get_or plan k e) (sep UserCount k e less)
alone plan sep k e less Text = tt
alone plan sep k e less Shape = tt
alone plan sep k e less NoMemory = tt

-- ---- the physical ports

-- a domain that breaks no rule numbers its ports one to one
pub is_numbered : (d : DomainData) → IsSeparate (d ∷ []) → IsNumbered d
is_numbered d sep =
    let ranges = All-head (λ (d : DomainData). All IsRange d.ranges) d [] (sep Range) in
    let apart = pairs_of_one ShareNoPort (λ (d : DomainData). d.ranges) d (sep SharedPort) in
    let whole : physical_ports d ≡ all_ports d.ranges = ports_in_row d.ranges (4 - length d.ranges) in
    record {
      ranges = are_ranges d.ranges (4 - length d.ranges) ranges apart;
      ports = subst IsNumbering (sym whole) (numbering d.ranges ranges apart);
      count = ap length whole ∙ ap unsigned_abs (length_all d.ranges ranges);
    }

-- each domain of a separate plan has a part within its bounds
pub all_parts : (plan : List DomainData) → IsSeparate plan → All (λ d. IsPart (part_of d)) plan
all_parts plan sep k e less = is_part (get_or plan k e) (alone plan sep k e less)

-- each domain of a separate plan numbers its ports one to one
pub all_numbered : (plan : List DomainData) → IsSeparate plan → All IsNumbered plan
all_numbered plan sep k e less = is_numbered (get_or plan k e) (alone plan sep k e less)

-- no two domains of a separate plan have a port in common
pub all_separate : (plan : List DomainData) → IsSeparate plan → AllPairs AreSeparate plan
all_separate plan sep i j e less within port in_i in_j =
    let across = lists_across ShareNoPort (λ (d : DomainData). d.ranges) plan (sep SharedPort) i j e less within in
    let one = get_or plan i e in
    let two = get_or plan j e in
    no_common one.ranges two.ranges (sep Range i e (omega (arith, less, within))) (sep Range j e within) across port
    (subst (λ (ps : List ℕ). Contains ps port) (ports_in_row one.ranges (4 - length one.ranges)) in_i)
    (subst (λ (ps : List ℕ). Contains ps port) (ports_in_row two.ranges (4 - length two.ranges)) in_j)

-- ---- what the makers of parts require

-- the ports that a separate domain uses, as ports of the crossbar
pub used_small : (d : DomainData) → IsSeparate (d ∷ []) → All (Lies (pos 0) (pos 31)) (used_ports d)
used_small d sep k x less =
    let ranges = All-head (λ (d : DomainData). All IsRange d.ranges) d [] (sep Range) in
    let apart = pairs_of_one ShareNoPort (λ (d : DomainData). d.ranges) d (sep SharedPort) in
    let range_count = All-head (λ (d : DomainData). IsFrom 1 4 (length d.ranges)) d [] (sep RangeCount) in
    let ports = All-head (λ (d : DomainData). All (IsVirtualPort d.ranges) (used_ports d)) d [] (sep Port) in
    let few = count_from d.ranges range_count.0 ranges apart in
    let size = length_all d.ranges ranges in
    let here = ports k x less in
    (here.0, omega (arith, ints, few.1, size, here.1))

-- the ports of hosts are below 32
pub hosts_small : (d : DomainData) → IsSeparate (d ∷ [])
    → All (λ (u : UserData). All (Lies (pos 0) (pos 31)) u.hosts) d.users
hosts_small d sep =
    all_lists (Lies (pos 0) (pos 31)) (λ (u : UserData). u.hosts) d.users
    (all_left (Lies (pos 0) (pos 31)) (hosts_of d) (flat_map wired_links d.nodes) (used_small d sep))

-- the ports of wired links are below 32
pub links_small : (d : DomainData) → IsSeparate (d ∷ [])
    → All (λ n. All (Lies (pos 0) (pos 31)) (wired_links n)) d.nodes
links_small d sep =
    all_lists (Lies (pos 0) (pos 31)) wired_links d.nodes
    (all_right (Lies (pos 0) (pos 31)) (hosts_of d) (flat_map wired_links d.nodes) (used_small d sep))

-- the hosts of one user more come after those of the users before, with the user's number
pub hosts_more : (number : ℕ) (us : List UserData) (u : UserData)
    → host_parts number (us ++ u ∷ []) ≡ host_parts number us ++ map (host_part (number + length us)) u.hosts
hosts_more number [] u =
    let same : number + 0 ≡ number = omega arith in rw (same, append-nil (map (host_part number) u.hosts)) refl
hosts_more number (v ∷ us) u =
    let same : number + suc (length us) ≡ number + 1 + length us = omega arith in
    rw (
      same,
      append_assoc (map (host_part number) v.hosts) (host_parts (number + 1) us)
          (map (host_part (number + 1 + length us)) u.hosts),
      hosts_more (number + 1) us u,
    )
    refl

-- the number of ports of one range more is the sum, and is at most 32 a range
pub counted : (rs : List RangePlan) (i : ℕ) (range : RangePlan) (count size : ℕ)
    → i < 4 → All IsRange rs → i < length rs → pos count ≡ port_count (take i rs) → count ≤ 32 * i
    → pos size ≡ length_of (get_or rs i range)
    → (pos (count + size) ≡ port_count (take (i + 1) rs)) × (count + size ≤ 32 * (i + 1))
counted rs i range count size few ranges within is below len =
    let more = count_more rs i range within in
    let here = ranges i range within in
    (omega (arith, ints, more, is, len), omega (arith, ints, here, len, below))

filter_on : (integer : ℤ) (ls : List ℤ) (P : ℤ → Type 0) (wired : Bool)
    → is_wired integer ≡ wired → All P (filter is_wired (integer ∷ ls))
    → (is_wired integer ≡ true → P integer) × All P (filter is_wired ls)
filter_on integer ls P true is given =
    let h' = rw is at given in (
      λ t. All-head P integer (filter is_wired ls) h',
      All-tail P integer
          (filter is_wired ls) h',
    )
filter_on integer ls P false is given = let h' = rw is at given in (λ t. absurd (false≢true (sym is ∙ t)), h')

-- what holds of the wired links holds of a link that is wired
pub wired_at : (P : ℤ → Type 0) (ls : List ℤ) (k : ℕ) (integer : ℤ)
    → All P (filter is_wired ls) → k < length ls → is_wired (get_or ls k integer) ≡ true
    → P (get_or ls k integer)
wired_at P [] k integer given less same = absurd (omega (arith, less))
wired_at P (l ∷ ls) zero integer given less same = (filter_on l ls P (is_wired l) refl given).0 same
wired_at P (l ∷ ls) (suc k) integer given less same =
    wired_at P ls k integer (filter_on l ls P (is_wired l) refl given).1 (omega (arith, less)) same

-- the ports of four links are those of the first, the second, the third and the fourth
pub four_links : (ls : List ℤ) (integer : ℤ) → length ls ≡ 4
    → map port_at ls
    ≡ port_at (get_or ls 0 integer) ∷ port_at (get_or ls 1 integer) ∷ port_at (get_or ls 2 integer)
    ∷ port_at (get_or ls 3 integer) ∷ []
four_links (a ∷ b ∷ c ∷ e ∷ []) integer four = refl
four_links _ integer four = absurd (omega (arith, four))

-- ---- the rules of one domain

-- each node has a size of memory that a plan may give
pub sizes_of : (d : DomainData) → IsSeparate (d ∷ []) → All (λ n. IsPlannedMemory n.memory) d.nodes
sizes_of d sep = All-head (λ (d : DomainData). All (λ n. IsPlannedMemory n.memory) d.nodes) d [] (sep Memory)

-- a domain has 4 users at most
pub users_few : (d : DomainData) → IsSeparate (d ∷ []) → length d.users ≤ 4
users_few d sep = (All-head (λ (d : DomainData). IsFrom 1 4 (length d.users)) d [] (sep UserCount)).1

-- a domain has 8 nodes at most
pub nodes_few : (d : DomainData) → IsSeparate (d ∷ []) → length d.nodes ≤ 8
nodes_few d sep = (All-head (λ (d : DomainData). IsFrom 1 8 (length d.nodes)) d [] (sep NodeCount)).1

-- a domain has 4 ranges at most
pub ranges_few : (d : DomainData) → IsSeparate (d ∷ []) → length d.ranges ≤ 4
ranges_few d sep = (All-head (λ (d : DomainData). IsFrom 1 4 (length d.ranges)) d [] (sep RangeCount)).1

-- each range of a domain lies within the 32 ports
pub are_all_ranges : (d : DomainData) → IsSeparate (d ∷ []) → All IsRange d.ranges
are_all_ranges d sep = All-head (λ (d : DomainData). All IsRange d.ranges) d [] (sep Range)

-- the limit of a journal is from 1 to 2^40
pub limit_of : (d : DomainData) → IsSeparate (d ∷ []) → Lies (pos 1) (pos (2 ^ 40)) d.limit
limit_of d sep = All-head (λ (d : DomainData). Lies (pos 1) (pos (2 ^ 40)) d.limit) d [] (sep Limit)

-- a part made of these numbers and lists
pub part_is : (d : DomainData) (count limit users : ℕ) (nodes : List NodePart) (hosts : List HostPart)
    → pos count ≡ port_count d.ranges → limit ≡ unsigned_abs d.limit → users ≡ length d.users
    → nodes ≡ map node_part d.nodes → hosts ≡ host_parts 0 d.users
    → part_with count limit users nodes hosts ≡ part_of d
part_is d count limit users nodes hosts equal agrees alike matches other_same =
    let same : count ≡ unsigned_abs (port_count d.ranges) = ap unsigned_abs equal in cc

-- the four places of a row have the ranges in their order, and then none
pub row_places : (rs : List RangePlan) → length rs ≤ 4
    → range_at rs 0 ∷ range_at rs 1 ∷ range_at rs 2 ∷ range_at rs 3 ∷ []
    ≡ map (λ r. Some (port_range r)) rs ++ replicate (4 - length rs) None
row_places [] few = refl
row_places (a ∷ []) few = refl
row_places (a ∷ b ∷ []) few = refl
row_places (a ∷ b ∷ c ∷ []) few = refl
row_places (a ∷ b ∷ c ∷ d ∷ []) few = refl
row_places (a ∷ b ∷ c ∷ d ∷ e ∷ rs) few = absurd (omega (arith, few))
