-- A Move of a domain in the whole farm is a Move of the domain alone, and no packet comes to another domain, for the
-- call `Move` in `each_call_is_private`.
use Rattle.std.proofs.Common.{◌≡◌, ◌≢◌, inl, inr, ℕ, zero, suc, ◌<◌, ◌≤◌, ◌+◌, Bool, true, false, cond, ◌&&◌, Option}
use Rattle.std.proofs.Common.{Some, None, List, [], ◌∷◌, ◌++◌, length, slice_get, map, filter, refl, sym, ap, ◌∙◌}
use Rattle.std.proofs.Common.{subst, arith, ◌==◌}
use Rattle.std.proofs.lemmas.Bool.{cases_eq, cases_Bool, eq-eqb, ne_eqb, cond-true, cond-false}
use Rattle.std.proofs.lemmas.Option.{same_Some, none-some, slice_get_within}
use Rattle.std.proofs.lemmas.List.Elements.{filter-append}
use Rattle.std.specs.List.{AllByRecursion, range_with_len}
use Rattle.std.specs.Option.{option_and_then}
use Rattle.std.specs.FinMap as fin
use Rattle.os_link.specs.declared.latch.Packet.{Packet}
use Rattle.crossbar.specs.Switch.{Switch, drives, names}
use Rattle.crossbar.specs.Ranges.{IsOneToOne}
use Rattle.crossbar.specs.Row.{number_among}
use Rattle.crossbar.specs.Laws.{SwitchLaws}
use Rattle.plan_rules.specs.Part.{PartData}
use Rattle.domain_core.specs.declared.device.Device.{Device}
use Rattle.domain_core.specs.declared.event.Moved.{Moved}
use Rattle.domain_core.specs.declared.event.Moved.TheVariants.{Nothing, Lost, Stayed, Passed}
use Rattle.domain_core.specs.Devices.{DeviceStates, device_at, packet_waiting, taken_from_device}
use Rattle.domain_core.specs.Moves.{driven, are_ready, delivered_at, copies_arrived, outcome, moved_by, sent}
use Rattle.domain_core.specs.Moves.{moved_from, joining_of, moved}
use Rattle.whole_farm.specs.Places.{Place, put_at, AreSeparatePlaces, joined_to, device_or}
use Rattle.whole_farm.specs.Places.{device_from, device_in, all_ports}
use Rattle.whole_farm.specs.Messages.{raised}
use Rattle.whole_farm.specs.Packets.{AllDevices, joining_in, moved_in}
use Rattle.whole_farm.specs.Projection.{own_switch, driver_at, ready_at}
use Rattle.whole_farm.specs.Domains.{EachDrivesItself}
use Rattle.whole_farm.proofs.OneOutputSet.{contains_at, at_contained}
use Rattle.whole_farm.proofs.OneOutputSet.{get-own_switch, contains-own_switch, number_among-none}
use Rattle.whole_farm.proofs.Messages.{port_at, never_both}

-- ---- which device is joined to a port

-- no place but this one has the port
abbrev pub IsOnlyAt : List Place → ℕ → ℕ → Type 0
IsOnlyAt plan domain port =
    (e : ℕ) (place : Place) (w : ℕ) → domain ≢ e → slice_get plan e ≡ Some place → slice_get place.ports w ≡ Some port
    → ⊥

-- a port of one of separate places is of no other
pub only_at : (plan : List Place) (domain : ℕ) (place : Place) (v port : ℕ)
    → AreSeparatePlaces plan → slice_get plan domain ≡ Some place → slice_get place.ports v ≡ Some port
    → IsOnlyAt plan domain port
only_at plan domain place v port separate there at e other w ne is here =
    never_both place.ports other.ports v w port (separate.apart domain e place other ne there is) at here

device-at : SwitchLaws → (first : ℕ) (plan : List Place) (d : ℕ) (place : Place) (v port number : ℕ)
    → slice_get plan d ≡ Some place → IsOneToOne place.ports
    → slice_get place.ports v ≡ Some port
    → IsOnlyAt plan d port → number ≡ first + d
    → device_from first plan port ≡ joined_to number (device_at place.part v)
device-at laws first [] d place v port number there one at only is = absurd (none-some place there)
device-at laws first (head ∷ plan) zero place v port number there one at only is =
    let same : place ≡ head = sym (same_Some _ _ there) in
    let first_is : number ≡ first = omega arith in
    ap (λ n. device_or first head n (device_from (first + 1) plan port))
    (laws.number head.ports v port (subst (λ (p : Place). IsOneToOne p.ports) same one)
    (subst (λ (p : Place). slice_get p.ports v ≡ Some port) same at))
    ∙ (λ i. joined_to (sym first_is i) (device_at (sym same i).part v))
device-at laws first (head ∷ plan) (suc d) place v port number there one at only is =
    let out : number_among head.ports port ≡ None =
    number_among-none head.ports port (λ w. only 0 head w (λ e. omega arith) refl) in
    ap (λ n. device_or first head n (device_from (first + 1) plan port)) out
    ∙ device-at laws (first + 1) plan d place v port number there one at
    (λ e other w ne. only (suc e) other w (λ same. ne (omega arith))) (omega arith)

-- the device of the whole farm at a domain's port is the domain's at the port's number
pub device_own : SwitchLaws → (plan : List Place) (domain : ℕ) (place : Place) (v port : ℕ) → AreSeparatePlaces plan
    → slice_get plan domain ≡ Some place
    → slice_get place.ports v ≡ Some port
    → device_in plan port ≡ joined_to domain (device_at place.part v)
device_own laws plan domain place v port separate there at =
    device-at laws 0 plan domain place v port domain there (separate.each domain place there).ports.one_to_one at
    (only_at plan domain place v port separate there at) (omega arith)

-- ---- which outputs a port drives

filter-none : (p : ℕ → Bool) (ports : List ℕ) → ((v port : ℕ) → slice_get ports v ≡ Some port → p port ≡ false)
    → filter p ports ≡ []
filter-none p [] none = refl
filter-none p (port ∷ ports) none = rw (none 0 port refl) (filter-none p ports (λ v. none (suc v)))

filter-nowhere : (p : ℕ → Bool) (plan : List Place)
    → ((e : ℕ) (place : Place) (v port : ℕ) → slice_get plan e ≡ Some place → slice_get place.ports v ≡ Some port
    → p port ≡ false)
    → filter p (all_ports plan) ≡ []
filter-nowhere p [] none = refl
filter-nowhere p (place ∷ plan) none =
    filter-append p place.ports (all_ports plan)
    ∙ (λ i. filter-none p place.ports (λ v port. none 0 place v port refl) i
    ++ filter-nowhere p plan (λ e. none (suc e)) i)

append-none : (xs : List ℕ) → xs ++ [] ≡ xs
append-none [] = refl
append-none (x ∷ xs) = ap (λ ys. x ∷ ys) (append-none xs)

filter-only : (p : ℕ → Bool) (plan : List Place) (d : ℕ) (place : Place) → slice_get plan d ≡ Some place
    → ((e : ℕ) (other : Place) (v port : ℕ) → d ≢ e → slice_get plan e ≡ Some other
    → slice_get other.ports v ≡ Some port → p port ≡ false)
    → filter p (all_ports plan) ≡ filter p place.ports
filter-only p [] d place there none = absurd (none-some place there)
filter-only p (head ∷ plan) zero place there none =
    let rest = filter-nowhere p plan (λ e other v port. none (suc e) other v port (λ same. omega arith)) in
    filter-append p head.ports (all_ports plan) ∙ ap (λ ys. filter p head.ports ++ ys) rest
    ∙ append-none (filter p head.ports)
    ∙ ap (λ (q : Place). filter p q.ports) (same_Some _ _ there)
filter-only p (head ∷ plan) (suc d) place there none =
    let rest =
    filter-only p plan d place there (λ e other v port ne. none (suc e) other v port (λ same. ne (omega arith))) in
    filter-append p head.ports (all_ports plan)
    ∙ ap (λ ys. ys ++ filter p (all_ports plan))
    (filter-none p head.ports (λ v port. none 0 head v port (λ same. omega arith) refl))
    ∙ rest

-- the ports that pass a test are the raised numbers that pass another, where both tests agree
filter-raised : (raise : ℕ → ℕ) (p test : ℕ → Bool) (ports : List ℕ) (start : ℕ)
    → ((v port : ℕ) → slice_get ports v ≡ Some port → (raise (start + v) ≡ port) × (p port ≡ test (start + v)))
    → filter p ports ≡ map raise (filter test (range_with_len start (length ports)))
filter-raised raise p test [] start agree = refl
filter-raised raise p other_test (port ∷ ports) start agree =
    let from : start + 0 ≡ start = omega arith in
    let head = agree 0 port refl in
    let is : raise start ≡ port = ap raise (sym from) ∙ head.0 in
    let test : p port ≡ other_test start = head.1 ∙ ap other_test from in
    let rest = filter-raised raise p other_test ports (start + 1) (λ v next at.
    let later = agree (suc v) next at in
    let e : start + suc v ≡ start + 1 + v = omega arith in
    (ap raise (sym e) ∙ later.0, later.1 ∙ ap other_test e)) in
    elim (cases_Bool (other_test start)) [
      | inl pass ↦
          let passes : p port ≡ true = test ∙ pass in
          rw passes (rw pass (λ i. sym is i ∷ rest i))
      | inr fail ↦
          let fails : p port ≡ false = test ∙ fail in
          rw fails (rw fail rest)
    ]

not-driven : (found : Option ℕ) (input : ℕ) → (found ≡ Some input → ⊥) → names found input ≡ false
not-driven None input not = refl
not-driven (Some driver) input not = ne_eqb driver input (λ e. not (ap (λ (x : ℕ). Some x) e))

same-test : (a b c d : ℕ) → (a ≡ b → c ≡ d) → (c ≡ d → a ≡ b) → (a == b) ≡ (c == d)
same-test a b c d to from =
    elim (cases_eq a b) [
      | inl e ↦ eq-eqb a b e ∙ sym (eq-eqb c d (to e))
      | inr ne ↦ ne_eqb a b ne ∙ sym (ne_eqb c d (λ e. ne (from e)))
    ]

driven-alike : SwitchLaws → (ports : List ℕ) (found : Option ℕ) (w port : ℕ) → IsOneToOne ports
    → slice_get ports w ≡ Some port
    → ((input : ℕ) → found ≡ Some input → (u : ℕ) × (slice_get ports u ≡ Some input))
    → names found port ≡ names (option_and_then (number_among ports) found) w
driven-alike laws ports None w port one at own = refl
driven-alike laws ports (Some input) w port one at own =
    let u = own input refl in
    same-test input port u.0 w (λ e. one u.0 w port (u.1 ∙ ap (λ (x : ℕ). Some x) e) at)
    (λ e. same_Some _ _ (sym u.1 ∙ ap (slice_get ports) e ∙ at))
    ∙ ap (λ n. names n w) (sym (laws.number ports u.0 input one u.1))

-- the outputs that a domain's port drives in the whole farm are those that its number drives, raised
pub driven_own : SwitchLaws → (plan : List Place) (s : Switch) (domain : ℕ) (place : Place) (w port : ℕ)
    → AreSeparatePlaces plan → EachDrivesItself plan s → slice_get plan domain ≡ Some place
    → slice_get place.ports w ≡ Some port
    → driven (joining_in plan) s port
    ≡ map (raised place.ports) (driven (joining_of place.part) (own_switch place.ports s) w)
driven_own laws plan s domain place w port separate own there at =
    let is = separate.each domain place there in
    filter-only (drives s port) plan domain place there (λ e other v output ne here is_output.
    not-driven (fin.get s.pairs output) port (λ driven.
    separate.apart domain e place other ne there here port (contains_at place.ports w port at)
    (own e other here output port (contains_at other.ports v output is_output) driven)))
    ∙ filter-raised (raised place.ports) (drives s port) (drives (own_switch place.ports s) w) place.ports 0
    (λ v output is_output.
    let from : 0 + v ≡ v = omega arith in
    let inside = slice_get_within place.ports v output is_output in (
      ap (raised place.ports) from ∙ same_Some _ _ (sym (port_at place.ports v inside) ∙ is_output),
      driven-alike laws place.ports (fin.get s.pairs output) w port is.ports.one_to_one at
          (λ input driven.
          at_contained place.ports input
          (own domain place there output input (contains_at place.ports v output is_output) driven))
          ∙ ap (λ n. names n w) (sym (get-own_switch laws place.ports s v ∙ ap (driver_at place.ports s) is_output))
          ∙ ap (drives (own_switch place.ports s) w) (sym from),
    ))
    ∙ ap (λ n. map (raised place.ports) (filter (drives (own_switch place.ports s) w) (range_with_len 0 n))) is.count

-- ---- ready outputs

-- each of the numbers is one of this many ports
abbrev pub AreBelow : ℕ → List ℕ → Type 0
AreBelow count numbers = AllByRecursion (λ v. v < count) numbers

below-filtered : (p : ℕ → Bool) (a n most : ℕ) → a + n ≤ most → AreBelow most (filter p (range_with_len a n))
below-filtered p a zero most less = tt
below-filtered p a (suc n) most less =
    let rest = below-filtered p (a + 1) n most (omega arith) in
    let here : a < most = omega arith in
    elim (cases_Bool (p a)) [
      | inl pass ↦ rw pass (here, rest)
      | inr fail ↦ rw fail rest
    ]

-- an input of a part drives outputs of the part alone
pub driven-below : (part : PartData) (s : Switch) (input : ℕ) → AreBelow part.count (driven (joining_of part) s input)
driven-below part s input = below-filtered (drives s input) 0 part.count part.count (omega arith)

ready_alike : SwitchLaws → (ports : List ℕ) (s : Switch) (outputs : List ℕ) → AreBelow (length ports) outputs
    → are_ready s (map (raised ports) outputs) ≡ are_ready (own_switch ports s) outputs
ready_alike laws ports s [] below = refl
ready_alike laws ports s (output ∷ outputs) below =
    let head = contains-own_switch laws ports s output ∙ ap (ready_at s) (port_at ports output below.0) in
    λ i. sym head i && ready_alike laws ports s outputs below.1 i

-- what becomes of a packet at raised outputs is what becomes of it at their numbers
pub outcome_alike : SwitchLaws → (ports : List ℕ) (s : Switch) (outputs : List ℕ) → AreBelow (length ports) outputs
    → outcome s (map (raised ports) outputs) ≡ outcome (own_switch ports s) outputs
outcome_alike laws ports s [] below = refl
outcome_alike laws ports s (output ∷ outputs) below =
    ap (λ t. cond t Passed Stayed) (ready_alike laws ports s (output ∷ outputs) below)

-- ---- the devices of all domains

-- devices that are put at a domain are the domain's
pub put-own : {X : Type 0} (domain : ℕ) (x : X) (all : ℕ → X) → put_at domain x all domain ≡ x
put-own domain x all = cond-true _ _ _ (eq-eqb domain domain refl)

-- devices that are put at one domain leave those of another
pub put-other : {X : Type 0} (domain : ℕ) (x : X) (all : ℕ → X) (d : ℕ) → d ≢ domain → put_at domain x all d ≡ all d
put-other domain x all d ne = cond-false _ _ _ (ne_eqb d domain ne)

-- one domain's nodes and hosts become these, and all others stay
pub record Changes (domain : ℕ) (old new : AllDevices) (devices : DeviceStates) : Type 0 where
  pub own : new domain ≡ devices
  pub others : (d : ℕ) → d ≢ domain → new d ≡ old d

-- devices that all stay are a change of one domain to what it has
pub unchanged : (domain : ℕ) (all : AllDevices) → Changes domain all all (all domain)
unchanged domain all = record { own = refl; others = λ d ne. refl }

changes_at : (domain : ℕ) (devices : DeviceStates) (all : AllDevices)
    → Changes domain all (put_at domain devices all) devices
changes_at domain devices all = record { own = put-own domain devices all; others = put-other domain devices all }

arrives_at : (plan : List Place) (domain : ℕ) (part : PartData) (packet : Packet) (device : Option Device)
    (all : AllDevices)
    → Changes domain all (delivered_at (joining_in plan) packet (joined_to domain device) all)
    (delivered_at (joining_of part) packet device (all domain))
arrives_at plan domain part packet None all = unchanged domain all
arrives_at plan domain part packet (Some device) all = changes_at domain _ all

-- in this plan the devices at these physical ports are those at the domain's virtual ones
abbrev pub HasDevices : List Place → ℕ → Place → Type 0
HasDevices plan domain place =
    (v : ℕ) → v < length place.ports → device_in plan (raised place.ports v) ≡ joined_to domain (device_at place.part v)

copies_to : (plan : List Place) (domain : ℕ) (place : Place) (packet : Packet) (outputs : List ℕ)
    (old all : AllDevices) (devices : DeviceStates)
    → HasDevices plan domain place
    → AreBelow (length place.ports) outputs
    → Changes domain old all devices
    → Changes domain old (copies_arrived (joining_in plan) packet (map (raised place.ports) outputs) all)
    (copies_arrived (joining_of place.part) packet outputs devices)
copies_to plan domain place packet [] old all devices has below so_far = so_far
copies_to plan domain place packet (output ∷ outputs) old all devices has below so_far =
    let device = device_at place.part output in
    let one = arrives_at plan domain place.part packet device all in
    rw (copies_arrived, has output below.0)
    (copies_to plan domain place packet outputs old _ _ has below.1 (record {
      own = one.own ∙ ap (delivered_at (joining_of place.part) packet device) so_far.own;
      others = λ d ne. one.others d ne ∙ so_far.others d ne;
    }))

moves_by : (other_moved : Moved) (plan : List Place) (domain : ℕ) (place : Place) (device : Device) (packet : Packet)
    (outputs : List ℕ) (all : AllDevices)
    → HasDevices plan domain place
    → AreBelow (length place.ports) outputs
    → Changes domain all
    (moved_by other_moved (joining_in plan) (record { domain = domain; device = device }) packet
    (map (raised place.ports) outputs) all)
    (moved_by other_moved (joining_of place.part) device packet outputs (all domain))
moves_by Nothing plan domain place device packet outputs all has below = unchanged domain all
moves_by Lost plan domain place device packet outputs all has below = changes_at domain _ all
moves_by Stayed plan domain place device packet outputs all has below = unchanged domain all
moves_by Passed plan domain place device packet outputs all has below =
    copies_to plan domain place packet outputs all _ _ has below
    (changes_at domain (taken_from_device device (all domain)) all)

-- a Move of the domain: the same answer as alone, and nothing but its own devices changed
pub record MovesAlone (domain : ℕ) (all : AllDevices) (whole : AllDevices × Moved)
    (alone : DeviceStates × Moved) : Type 0 where
  pub answer : whole.1 ≡ alone.1
  pub devices : Changes domain all whole.0 alone.0

moves_from : SwitchLaws
    → (plan : List Place) (s : Switch) (domain : ℕ) (place : Place) (outputs : List ℕ) (device : Option Device)
    (all : AllDevices)
    → HasDevices plan domain place
    → AreBelow (length place.ports) outputs
    → MovesAlone domain all
    (moved_from (joining_in plan) s all (map (raised place.ports) outputs) (joined_to domain device))
    (moved_from (joining_of place.part) (own_switch place.ports s) (all domain) outputs device)
moves_from laws plan s domain place outputs None all has below =
    record { answer = refl; devices = unchanged domain all }
moves_from laws plan s domain place outputs (Some device) all has below =
    sends (packet_waiting (all domain) device)
  where
    sends : (packet : Option Packet)
        → MovesAlone domain all
        (sent (joining_in plan) s all (map (raised place.ports) outputs) (record { domain = domain; device = device })
        packet)
        (sent (joining_of place.part) (own_switch place.ports s) (all domain) outputs device packet)
    sends None = record { answer = refl; devices = unchanged domain all }
    sends (Some packet) =
        rw (outcome_alike laws place.ports s outputs below) (record {
          answer = refl;
          devices =
              moves_by (outcome (own_switch place.ports s) outputs) plan domain place device packet outputs all has
              below;
        })

-- a Move of a domain's port has the answer that it has alone, and changes the domain's own devices alone
pub moves_alone : SwitchLaws
    → (plan : List Place) (s : Switch) (all : AllDevices) (domain : ℕ) (place : Place) (port : ℕ)
    → AreSeparatePlaces plan → EachDrivesItself plan s
    → slice_get plan domain ≡ Some place
    → port < place.part.count
    → MovesAlone domain all (moved_in plan s all (raised place.ports port))
    (moved place.part (own_switch place.ports s) (all domain) port)
moves_alone laws plan s all domain place port separate own there inside =
    let is = separate.each domain place there in
    let has : HasDevices plan domain place =
    λ v below.
    device_own laws plan domain place v (raised place.ports v) separate there (port_at place.ports v below) in
    let outputs = driven (joining_of place.part) (own_switch place.ports s) port in
    let below : AreBelow (length place.ports) outputs =
    subst (λ n. AreBelow n outputs) (sym is.count) (driven-below place.part (own_switch place.ports s) port) in
    let within : port < length place.ports = omega (arith, is.count) in
    rw (
      driven_own laws plan s domain place port (raised place.ports port) separate own there
          (port_at place.ports port within),
      has port within,
    )
    (moves_from laws plan s domain place outputs (device_at place.part port) all has below)
