-- The device that is joined to a port is the one for which the part names the port, for the law
-- `devices_are_where_named`.
use Rattle.std.proofs.Common.{◌≡◌, ◌≢◌, ◌⊎◌, inl, inr, ℕ, zero, suc, ◌+◌, ◌==◌, true, false, List, [], ◌∷◌, ◌++◌}
use Rattle.std.proofs.Common.{length, map, flat_map, Option, Some, None, slice_get, All, AllPairs, refl, ap, sym, ◌∙◌}
use Rattle.std.proofs.Common.{subst, arith}
use Rattle.std.specs.List.{cons_option, filter_map}
use Rattle.std.proofs.lemmas.Bool.{cases_eq, eq-eqb, ne_eqb}
use Rattle.std.proofs.lemmas.List.Elements.{All-head, All-tail}
use Rattle.std.proofs.lemmas.Option.{same_Some, none-some}
use Rattle.link_channels.specs.declared.number.LinkNumber.{LinkNumber}
use Rattle.link_channels.specs.declared.number.LinkNumber.TheVariants.{Zero, One, Two, Three}
use Rattle.plan_rules.specs.declared.part.HostPart.{HostPart}
use Rattle.plan_rules.specs.declared.part.NodePart.{NodePart}
use Rattle.plan_rules.specs.Part.{PartData, wired_ports, ports_used}
use Rattle.domain_core.specs.declared.device.Device.{Device}
use Rattle.domain_core.specs.declared.device.Device.TheVariants.{Host, Link}
use Rattle.domain_core.specs.Devices.{or_else, is_wired_to, host_at_port, link_at_port, link_of_four, device_at}
use Rattle.domain_core.specs.Wiring.{link_index, Names, DevicesAreWhereNamed}

-- ---- numbers of a list that occur there once each

abbrev Has : List ℕ → ℕ → Type 0
Has [] x = ⊥
Has (y ∷ ys) x = (y ≡ x) ⊎ Has ys x

abbrev Apart : List ℕ → Type 0
Apart [] = Unit {0}
Apart (x ∷ xs) = (Has xs x → ⊥) × Apart xs

has_left : (xs ys : List ℕ) (x : ℕ) → Has xs x → Has (xs ++ ys) x
has_left [] ys x has = absurd has
has_left (y ∷ xs) ys x (inl same) = inl same
has_left (y ∷ xs) ys x (inr has) = inr (has_left xs ys x has)

has_right : (xs ys : List ℕ) (x : ℕ) → Has ys x → Has (xs ++ ys) x
has_right [] ys x has = has
has_right (y ∷ xs) ys x has = inr (has_right xs ys x has)

apart_left : (xs ys : List ℕ) → Apart (xs ++ ys) → Apart xs
apart_left [] ys given = tt
apart_left (x ∷ xs) ys given = (λ has. given.0 (has_left xs ys x has), apart_left xs ys given.1)

apart_right : (xs ys : List ℕ) → Apart (xs ++ ys) → Apart ys
apart_right [] ys given = given
apart_right (x ∷ xs) ys given = apart_right xs ys given.1

apart_across : (xs ys : List ℕ) (x : ℕ) → Apart (xs ++ ys) → Has xs x → Has ys x → ⊥
apart_across [] ys x given one two = one
apart_across (y ∷ xs) ys x given (inl same) two = given.0 (has_right xs ys y (subst (Has ys) (sym same) two))
apart_across (y ∷ xs) ys x given (inr one) two = apart_across xs ys x given.1 one two

not_among : (x : ℕ) (ys : List ℕ) → All (λ y. x ≢ y) ys → Has ys x → ⊥
not_among x [] all has = has
not_among x (y ∷ ys) all (inl same) = All-head (λ z. x ≢ z) y ys all (sym same)
not_among x (y ∷ ys) all (inr has) = not_among x ys (All-tail (λ z. x ≢ z) y ys all) has

each_once : (xs : List ℕ) → AllPairs (λ x y. x ≢ y) xs → Apart xs
each_once [] unlike = tt
each_once (x ∷ xs) unlike = (
  not_among x xs (λ k d less. unlike 0 (suc k) d (omega arith) (omega arith)),
  each_once xs (λ i j d less within. unlike (suc i) (suc j) d (omega arith) (omega arith)),
)

-- ---- hosts

abbrev host_ports : List HostPart → List ℕ
host_ports hosts = map (λ h. h.port) hosts

-- a host of hosts whose first has a number
record FoundHost (first : ℕ) (hosts : List HostPart) (port : ℕ) (device : Device) : Type 0 where
  number : ℕ
  host : HostPart
  is : device ≡ Host (first + number)
  there : slice_get hosts number ≡ Some host
  port_is : host.port ≡ port

host_named : (first : ℕ) (hosts : List HostPart) (port : ℕ) (device : Device)
    → host_at_port first hosts port ≡ Some device
    → FoundHost first hosts port device
host_named first [] port device is = absurd (none-some device is)
host_named first (h ∷ hosts) port device is =
    elim (cases_eq h.port port) [
      | inl same ↦
          let test : (h.port == port) ≡ true = eq-eqb _ _ same in
          let here : Some (Host first) ≡ Some device = rw test at is in
          let none : first ≡ first + 0 = omega arith in
          record {
            number = 0;
            host = h;
            is = sym (same_Some _ _ here) ∙ ap (λ (n : ℕ). Host n) none;
            there = refl;
            port_is = same;
          }
      | inr ne ↦
          let test : (h.port == port) ≡ false = ne_eqb _ _ ne in
          let rest = host_named (first + 1) hosts port device (rw test at is) in
          let more : first + 1 + rest.number ≡ first + suc rest.number = omega arith in
          record {
            number = suc rest.number;
            host = rest.host;
            is = rest.is ∙ ap (λ (n : ℕ). Host n) more;
            there = rest.there;
            port_is = rest.port_is;
          }
    ]

has_host : (hosts : List HostPart) (number : ℕ) (host : HostPart) → slice_get hosts number ≡ Some host
    → Has (host_ports hosts) host.port
has_host [] number host at = absurd (none-some host at)
has_host (x ∷ hosts) zero host at = inl (ap (λ (g : HostPart). g.port) (same_Some _ _ at))
has_host (x ∷ hosts) (suc number) host at = inr (has_host hosts number host at)

host_found : (first : ℕ) (hosts : List HostPart) (port number : ℕ) (host : HostPart)
    → Apart (host_ports hosts) → slice_get hosts number ≡ Some host
    → host.port ≡ port
    → host_at_port first hosts port ≡ Some (Host (first + number))
host_found first [] port number host apart at is = absurd (none-some host at)
host_found first (x ∷ hosts) port zero host apart at is =
    let test : (x.port == port) ≡ true = eq-eqb _ _ (ap (λ (g : HostPart). g.port) (same_Some _ _ at) ∙ is) in
    let none : first ≡ first + 0 = omega arith in
    rw test (ap (λ (n : ℕ). Some (Host n)) none)
host_found first (x ∷ hosts) port (suc number) host apart at is =
    let test : (x.port == port) ≡ false =
    ne_eqb _ _ (λ e. apart.0 (subst (Has (host_ports hosts)) (is ∙ sym e) (has_host hosts number host at))) in
    let more : first + 1 + number ≡ first + suc number = omega arith in
    rw test (host_found (first + 1) hosts port number host apart.1 at is ∙ ap (λ (n : ℕ). Some (Host n)) more)

no_host : (first : ℕ) (hosts : List HostPart) (port : ℕ) → (Has (host_ports hosts) port → ⊥)
    → host_at_port first hosts port ≡ None
no_host first [] port none = refl
no_host first (x ∷ hosts) port none =
    let test : (x.port == port) ≡ false = ne_eqb _ _ (λ e. none (inl e)) in
    rw test (no_host (first + 1) hosts port (λ has. none (inr has)))

-- ---- the links of one node

abbrev ranged_ports : List (Option ℕ) → List ℕ
ranged_ports links = filter_map (λ link. link) links

wired_here : (wired : Option ℕ) (port : ℕ) (device other : Option Device) → wired ≡ Some port
    → is_wired_to wired port device other ≡ device
wired_here None port device other is = absurd (none-some port is)
wired_here (Some w) port device other is = let test : (w == port) ≡ true = eq-eqb _ _ (same_Some _ _ is) in rw test refl

wired_on : (wired : Option ℕ) (port : ℕ) (device other : Option Device) → (wired ≡ Some port → ⊥)
    → is_wired_to wired port device other ≡ other
wired_on None port device other ne = refl
wired_on (Some w) port device other ne =
    let test : (w == port) ≡ false = ne_eqb _ _ (λ e. ne (ap (λ (n : ℕ). Some n) e)) in rw test refl

has_port : (links : List (Option ℕ)) (place port : ℕ) → slice_get links place ≡ Some (Some port)
    → Has (ranged_ports links) port
has_port [] place port at = absurd (none-some (Some port) at)
has_port (l ∷ links) zero port at =
    subst (λ (x : Option ℕ). Has (cons_option x (ranged_ports links)) port) (sym (same_Some _ _ at)) (inl refl)
has_port (None ∷ links) (suc place) port at = has_port links place port at
has_port (Some w ∷ links) (suc place) port at = inr (has_port links place port at)

not_wired : (wired : Option ℕ) (links : List (Option ℕ)) (port : ℕ)
    → Apart (ranged_ports (wired ∷ links)) → Has (ranged_ports links) port → wired ≡ Some port
    → ⊥
not_wired None links port apart has same = none-some port same
not_wired (Some w) links port apart has same = apart.0 (subst (Has (ranged_ports links)) (sym (same_Some _ _ same)) has)

apart_rest : (wired : Option ℕ) (links : List (Option ℕ)) → Apart (ranged_ports (wired ∷ links))
    → Apart (ranged_ports links)
apart_rest None links apart = apart
apart_rest (Some w) links apart = apart.1

four_found : (number : ℕ) (links : List (Option ℕ)) (port : ℕ) (link : LinkNumber)
    → length links ≡ 4 → Apart (ranged_ports links)
    → slice_get links (link_index link) ≡ Some (Some port)
    → link_of_four number links port ≡ Some (Link number link)
four_found number (a ∷ b ∷ c ∷ d ∷ []) port Zero four apart at = wired_here a port _ _ (same_Some _ _ at)
four_found number (a ∷ b ∷ c ∷ d ∷ []) port One four apart at =
    wired_on a port _ _ (not_wired a (b ∷ c ∷ d ∷ []) port apart (has_port (b ∷ c ∷ d ∷ []) 0 port at))
    ∙ wired_here b port _ _ (same_Some _ _ at)
four_found number (a ∷ b ∷ c ∷ d ∷ []) port Two four apart at =
    let later = apart_rest a (b ∷ c ∷ d ∷ []) apart in
    wired_on a port _ _ (not_wired a (b ∷ c ∷ d ∷ []) port apart (has_port (b ∷ c ∷ d ∷ []) 1 port at))
    ∙ wired_on b port _ _ (not_wired b (c ∷ d ∷ []) port later (has_port (c ∷ d ∷ []) 0 port at))
    ∙ wired_here c port _ _ (same_Some _ _ at)
four_found number (a ∷ b ∷ c ∷ d ∷ []) port Three four apart at =
    let later = apart_rest a (b ∷ c ∷ d ∷ []) apart in
    let last = apart_rest b (c ∷ d ∷ []) later in
    wired_on a port _ _ (not_wired a (b ∷ c ∷ d ∷ []) port apart (has_port (b ∷ c ∷ d ∷ []) 2 port at))
    ∙ wired_on b port _ _ (not_wired b (c ∷ d ∷ []) port later (has_port (c ∷ d ∷ []) 1 port at))
    ∙ wired_on c port _ _ (not_wired c (d ∷ []) port last (has_port (d ∷ []) 0 port at))
    ∙ wired_here d port _ _ (same_Some _ _ at)
four_found number _ port link four apart at = absurd (omega (arith, four))

no_link_of_four : (number : ℕ) (links : List (Option ℕ)) (port : ℕ) → (Has (ranged_ports links) port → ⊥)
    → link_of_four number links port ≡ None
no_link_of_four number (a ∷ b ∷ c ∷ d ∷ []) port none =
    let links : List (Option ℕ) = a ∷ b ∷ c ∷ d ∷ [] in
    let some : (w : Option ℕ) → w ≡ Some port → Some w ≡ Some (Some port) = λ w e. ap (λ (x : Option ℕ). Some x) e in
    wired_on a port _ _ (λ e. none (has_port links 0 port (some a e)))
    ∙ wired_on b port _ _ (λ e. none (has_port links 1 port (some b e)))
    ∙ wired_on c port _ _ (λ e. none (has_port links 2 port (some c e)))
    ∙ wired_on d port _ _ (λ e. none (has_port links 3 port (some d e)))
no_link_of_four number [] port none = refl
no_link_of_four number (a ∷ []) port none = refl
no_link_of_four number (a ∷ b ∷ []) port none = refl
no_link_of_four number (a ∷ b ∷ c ∷ []) port none = refl
no_link_of_four number (a ∷ b ∷ c ∷ d ∷ e ∷ rest) port none = refl

-- a link of a node
record FoundLink (links : List (Option ℕ)) (number port : ℕ) (device : Device) : Type 0 where
  link : LinkNumber
  is : device ≡ Link number link
  port_is : slice_get links (link_index link) ≡ Some (Some port)

one_wired : (wired : Option ℕ) (port : ℕ) (one : Device) (other : Option Device) (device : Device)
    → is_wired_to wired port (Some one) other ≡ Some device
    → ((wired ≡ Some port) × (device ≡ one)) ⊎ (other ≡ Some device)
one_wired None port one other device is = inr is
one_wired (Some w) port one other device is =
    elim (cases_eq w port) [
      | inl same ↦
          let test : (w == port) ≡ true = eq-eqb _ _ same in
          let here : Some one ≡ Some device = rw test at is in
          inl (ap (λ (n : ℕ). Some n) same, sym (same_Some _ _ here))
      | inr ne ↦ let test : (w == port) ≡ false = ne_eqb _ _ ne in inr (rw test at is)
    ]

four_named : (number : ℕ) (links : List (Option ℕ)) (port : ℕ) (device : Device)
    → link_of_four number links port ≡ Some device
    → FoundLink links number port device
four_named number (a ∷ b ∷ c ∷ d ∷ []) port device is =
    elim (one_wired a port (Link number Zero) _ device is) [
      | inl here ↦ record { link = Zero; is = here.1; port_is = ap (λ (x : Option ℕ). Some x) here.0 }
      | inr later ↦
          elim (one_wired b port (Link number One) _ device later) [
            | inl here ↦ record { link = One; is = here.1; port_is = ap (λ (x : Option ℕ). Some x) here.0 }
            | inr later ↦
                elim (one_wired c port (Link number Two) _ device later) [
                  | inl here ↦ record { link = Two; is = here.1; port_is = ap (λ (x : Option ℕ). Some x) here.0 }
                  | inr later ↦
                      elim (one_wired d port (Link number Three) None device later) [
                        | inl here ↦
                            record { link = Three; is = here.1; port_is = ap (λ (x : Option ℕ). Some x) here.0 }
                        | inr none ↦ absurd (none-some device none)
                      ]
                ]
          ]
    ]
four_named number [] port device is = absurd (none-some device is)
four_named number (a ∷ []) port device is = absurd (none-some device is)
four_named number (a ∷ b ∷ []) port device is = absurd (none-some device is)
four_named number (a ∷ b ∷ c ∷ []) port device is = absurd (none-some device is)
four_named number (a ∷ b ∷ c ∷ d ∷ e ∷ rest) port device is = absurd (none-some device is)

-- ---- the links of all nodes

-- a link of nodes whose first has a number
record FoundNode (first : ℕ) (nodes : List NodePart) (port : ℕ) (device : Device) : Type 0 where
  number : ℕ
  node : NodePart
  there : slice_get nodes number ≡ Some node
  found : FoundLink node.links (first + number) port device

abbrev AllFour : List NodePart → Type 0
AllFour nodes = All (λ n. length n.links ≡ 4) nodes

link_named_by : (first : ℕ) (n : NodePart) (nodes : List NodePart) (port : ℕ) (device : Device) (found : Option Device)
    → link_of_four first n.links port ≡ found
    → (link_at_port (first + 1) nodes port ≡ Some device → FoundNode (first + 1) nodes port device)
    → or_else found (link_at_port (first + 1) nodes port) ≡ Some device
    → FoundNode first (n ∷ nodes) port device
link_named_by first n nodes port device None at later is =
    let rest = later is in
    let more : first + 1 + rest.number ≡ first + suc rest.number = omega arith in
    record {
      number = suc rest.number;
      node = rest.node;
      there = rest.there;
      found = subst (λ (k : ℕ). FoundLink rest.node.links k port device) more rest.found;
    }
link_named_by first n nodes port device (Some d) at later is =
    let none : first ≡ first + 0 = omega arith in
    record {
      number = 0;
      node = n;
      there = refl;
      found = subst (λ (k : ℕ). FoundLink n.links k port device) none (four_named first n.links port device (at ∙ is));
    }

link_named : (first : ℕ) (nodes : List NodePart) (port : ℕ) (device : Device)
    → link_at_port first nodes port ≡ Some device
    → FoundNode first nodes port device
link_named first [] port device is = absurd (none-some device is)
link_named first (n ∷ nodes) port device is =
    link_named_by first n nodes port device (link_of_four first n.links port) refl
    (link_named (first + 1) nodes port device) is

has_link : (nodes : List NodePart) (number : ℕ) (n : NodePart) (port : ℕ)
    → slice_get nodes number ≡ Some n → Has (wired_ports n) port
    → Has (flat_map wired_ports nodes) port
has_link [] number n port at has = absurd (none-some n at)
has_link (x ∷ nodes) zero n port at has =
    has_left (wired_ports x) (flat_map wired_ports nodes) port
    (subst (λ (m : NodePart). Has (wired_ports m) port) (sym (same_Some _ _ at)) has)
has_link (x ∷ nodes) (suc number) n port at has =
    has_right (wired_ports x) (flat_map wired_ports nodes) port (has_link nodes number n port at has)

link_found : (first : ℕ) (nodes : List NodePart) (port number : ℕ) (n : NodePart) (link : LinkNumber)
    → AllFour nodes → Apart (flat_map wired_ports nodes)
    → slice_get nodes number ≡ Some n
    → slice_get n.links (link_index link) ≡ Some (Some port)
    → link_at_port first nodes port ≡ Some (Link (first + number) link)
link_found first [] port number n link four apart at is = absurd (none-some n at)
link_found first (x ∷ nodes) port zero n link four apart at is =
    let same : x ≡ n = same_Some _ _ at in
    let mine : slice_get x.links (link_index link) ≡ Some (Some port) =
    ap (λ (m : NodePart). slice_get m.links (link_index link)) same ∙ is in
    let found : link_of_four first x.links port ≡ Some (Link first link) =
    four_found first x.links port link (All-head (λ (m : NodePart). length m.links ≡ 4) x nodes four)
    (apart_left (wired_ports x) (flat_map wired_ports nodes) apart) mine in
    let none : first ≡ first + 0 = omega arith in
    ap (λ (f : Option Device). or_else f (link_at_port (first + 1) nodes port)) found
    ∙ ap (λ (k : ℕ). Some (Link k link)) none
link_found first (x ∷ nodes) port (suc number) n link four apart at is =
    let away : Has (wired_ports x) port → ⊥ =
    λ has.
    apart_across (wired_ports x) (flat_map wired_ports nodes) port apart has
    (has_link nodes number n port at (has_port n.links (link_index link) port is)) in
    let more : first + 1 + number ≡ first + suc number = omega arith in
    ap (λ (f : Option Device). or_else f (link_at_port (first + 1) nodes port))
    (no_link_of_four first x.links port away)
    ∙ link_found (first + 1) nodes port number n link (All-tail (λ (m : NodePart). length m.links ≡ 4) x nodes four)
    (apart_right (wired_ports x) (flat_map wired_ports nodes) apart) at is
    ∙ ap (λ (k : ℕ). Some (Link k link)) more

-- ---- both

either : (first rest : Option Device) (device : Device) → or_else first rest ≡ Some device
    → (first ≡ Some device) ⊎ (rest ≡ Some device)
either None rest device is = inr is
either (Some d) rest device is = inl is

zero_more : (n : ℕ) → 0 + n ≡ n
zero_more n = omega arith

named : (part : PartData) (port : ℕ) (device : Device) → device_at part port ≡ Some device → Names part device port
named part port device is =
    elim (either (host_at_port 0 part.hosts port) (link_at_port 0 part.nodes port) device is) [
      | inl first ↦
          let h = host_named 0 part.hosts port device first in
          subst (λ (d : Device). Names part d port) (sym (h.is ∙ ap (λ (n : ℕ). Host n) (zero_more h.number)))
          (record { host = h.host; there = h.there; port_is = h.port_is })
      | inr rest ↦
          let n = link_named 0 part.nodes port device rest in
          subst (λ (d : Device). Names part d port)
          (sym (n.found.is ∙ ap (λ (k : ℕ). Link k n.found.link) (zero_more n.number)))
          (record { node = n.node; there = n.there; port_is = n.found.port_is })
    ]

found : (part : PartData) (port : ℕ) (device : Device)
    → Apart (ports_used part) → AllFour part.nodes → Names part device port
    → device_at part port ≡ Some device
found part port (Host number) apart four at =
    ap (λ (f : Option Device). or_else f (link_at_port 0 part.nodes port))
    (host_found 0 part.hosts port number at.host
    (apart_left (host_ports part.hosts) (flat_map wired_ports part.nodes) apart) at.there at.port_is)
    ∙ ap (λ (n : ℕ). Some (Host n)) (zero_more number)
found part port (Link number link) apart four at =
    let has =
    has_link part.nodes number at.node port at.there (has_port at.node.links (link_index link) port at.port_is) in
    ap (λ (f : Option Device). or_else f (link_at_port 0 part.nodes port))
    (no_host 0 part.hosts port
    (λ here. apart_across (host_ports part.hosts) (flat_map wired_ports part.nodes) port apart here has))
    ∙ link_found 0 part.nodes port number at.node link four
    (apart_right (host_ports part.hosts) (flat_map wired_ports part.nodes) apart) at.there at.port_is
    ∙ ap (λ (n : ℕ). Some (Link n link)) (zero_more number)

-- a device is joined to a port exactly if an accepted domain's part names the port for it
pub devices_are_where_named : DevicesAreWhereNamed
devices_are_where_named part port device is four =
    (named part port device, found part port device (each_once (ports_used part) is.distinct) four)
