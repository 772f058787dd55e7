-- What becomes of a packet, output by output, for the clauses of `fate_of`, `copy_to` and `RunningMachine::route`.
use Rattle.std.proofs.Common.{◌≡◌, ◌≢◌, ℕ, zero, suc, ◌+◌, ◌*◌, ◌/◌, ◌^◌, ◌<◌, ◌≤◌, ◌==◌, Bool, true, false, not, ◌&&◌}
use Rattle.std.proofs.Common.{List, [], ◌∷◌, ◌++◌, length, get_or, Option, Some, None, refl, ap, sym, ◌∙◌, arith}
use Rattle.std.proofs.Common.{if◌then◌else◌}
use Rattle.std.specs.Int.{bit_at, trailing_zeros, w32}
use Rattle.std.specs.List.{range_with_len}
use Rattle.std.specs.FinSet as set
use Rattle.std.proofs.Math.Nat.{div-lt_iff_lt-mul}
use Rattle.std.proofs.lemmas.Nat.{pow_pos}
use Rattle.std.proofs.lemmas.Nat.Bits.{bit_at_above, bit_at-trailing_zeros}
use Rattle.std.proofs.lemmas.List.{length-map, append-nil}
use Rattle.std.proofs.lemmas.List.Elements.{filter-append}
use Rattle.std.proofs.lemmas.List.Folds.{list_all-append}
use Rattle.os_link.specs.declared.latch.Packet.{Packet}
use Rattle.crossbar.specs.Switch.{Switch}
use Rattle.plan_rules.specs.Part.{PartData}
use Rattle.domain_core.specs.declared.device.Device.{Device}
use Rattle.domain_core.specs.declared.event.Moved.{Moved}
use Rattle.domain_core.specs.declared.event.Moved.TheVariants.{Nothing, Lost, Stayed, Passed}
use Rattle.domain_core.specs.Devices.{DeviceStates, HasDevice, device_at, packet_waiting}
use Rattle.domain_core.specs.Moves.{Joining, driven, are_ready, packet_at, delivered_at, copies_arrived, outcome}
use Rattle.domain_core.specs.Moves.{moved_by, sent, moved_from, joining_of, moved}
use Rattle.domain_core.specs.Machine.{has_moved}
use Rattle.domain_core.specs.MachineValue.{MachineValue, IsOfPart, AreJoined}
use Rattle.domain_core.specs.Routes.{marked_by}
use Rattle.domain_core.proofs.Joined.{joined_holds}

-- ---- marks

-- an output whose bit is set is the one that is marked of itself
pub one_marked : (mask q : ℕ) → (bit_at mask q == 1) ≡ true → marked_by mask (q ∷ []) ≡ q ∷ []
one_marked mask q is = rw is refl

-- an output whose bit isn't set isn't marked
pub none_marked : (mask q : ℕ) → (bit_at mask q == 1) ≡ false → marked_by mask (q ∷ []) ≡ []
none_marked mask q is = rw is refl

range_on : (first i : ℕ) → range_with_len first (suc i) ≡ range_with_len first i ++ (first + i) ∷ []
range_on first zero = ap (λ (p : ℕ). p ∷ []) (let e : first ≡ first + 0 = omega arith in e)
range_on first (suc i) =
    ap (λ (ps : List ℕ). first ∷ ps) (range_on (first + 1) i)
    ∙ ap (λ (p : ℕ). first ∷ (range_with_len (first + 1) i ++ p ∷ []))
    (let e : first + 1 + i ≡ first + suc i = omega arith in e)

range_more : (i : ℕ) → range_with_len 0 (i + 1) ≡ range_with_len 0 i ++ i ∷ []
range_more i =
    ap (range_with_len 0) (let e : i + 1 ≡ suc i = omega arith in e) ∙ range_on 0 i
    ∙ ap (λ (p : ℕ). range_with_len 0 i ++ p ∷ []) (let e : 0 + i ≡ i = omega arith in e)

-- the outputs that are marked below i + 1 are those below i, and then i if it is
pub marked_more : (mask i : ℕ)
    → marked_by mask (range_with_len 0 (i + 1)) ≡ marked_by mask (range_with_len 0 i) ++ marked_by mask (i ∷ [])
marked_more mask i =
    ap (marked_by mask) (range_more i) ∙ filter-append (λ q. bit_at mask q == 1) (range_with_len 0 i) (i ∷ [])

not_set : (bit : ℕ) → bit ≡ 0 → (bit == 1) ≡ false
not_set bit is = rw is refl

-- if what is left of a mask after its first bits is 0, the outputs after them aren't marked
pub none_behind : (mask i : ℕ) → mask / 2 ^ i ≡ 0 → (more : ℕ)
    → marked_by mask (range_with_len 0 (i + more)) ≡ marked_by mask (range_with_len 0 i)
none_behind mask i nothing zero =
    ap (λ (count : ℕ). marked_by mask (range_with_len 0 count)) (let e : i + 0 ≡ i = omega arith in e)
none_behind mask i nothing (suc more) =
    let below : mask < 1 * 2 ^ i = (div-lt_iff_lt-mul (pow_pos i)).0 (omega (arith, nothing)) in
    let unset : bit_at mask (i + more) ≡ 0 = bit_at_above mask i (i + more) (omega (arith, below)) (omega arith) in
    ap (λ (count : ℕ). marked_by mask (range_with_len 0 count)) (let e : i + suc more ≡ i + more + 1 = omega arith in e)
    ∙ marked_more mask (i + more)
    ∙ ap (λ (qs : List ℕ). marked_by mask (range_with_len 0 (i + more)) ++ qs)
    (none_marked mask (i + more) (not_set (bit_at mask (i + more)) unset))
    ∙ append-nil (marked_by mask (range_with_len 0 (i + more)))
    ∙ none_behind mask i nothing more

-- no output is marked below the lowest bit of a mask
none_below : (mask bound : ℕ) → ((i : ℕ) → i < bound → bit_at mask i ≡ 0) → (i : ℕ) → i ≤ bound
    → marked_by mask (range_with_len 0 i) ≡ []
none_below mask bound zeros zero few = refl
none_below mask bound zeros (suc i) few =
    ap (λ (count : ℕ). marked_by mask (range_with_len 0 count)) (let e : suc i ≡ i + 1 = omega arith in e)
    ∙ marked_more mask i
    ∙ ap (λ (qs : List ℕ). qs ++ marked_by mask (i ∷ [])) (none_below mask bound zeros i (omega (arith, few)))
    ∙ none_marked mask i (not_set (bit_at mask i) (zeros i (omega (arith, few))))

-- nor below any output that isn't after it
pub none_before : (mask first : ℕ) → 0 < mask → mask < 2 ^ 32 → first ≤ trailing_zeros w32 mask
    → marked_by mask (range_with_len 0 first) ≡ []
none_before mask first some fits low =
    none_below mask (trailing_zeros w32 mask) (bit_at-trailing_zeros w32 mask some fits).2 first low

-- ---- what becomes of the packet

passed_or_stayed : (ready : Bool) → (if ready then Passed else Stayed) ≡ Stayed → ready ≡ false
passed_or_stayed true is = absurd cc
passed_or_stayed false is = refl

unready : (s : Switch) (xs : List ℕ) → outcome s xs ≡ Stayed → are_ready s xs ≡ false
unready s [] is = absurd cc
unready s (x ∷ xs) is = passed_or_stayed (are_ready s (x ∷ xs)) is

ready_so_far : (s : Switch) (xs : List ℕ) → outcome s xs ≢ Stayed → are_ready s xs ≡ true
ready_so_far s [] other = refl
ready_so_far s (x ∷ xs) other = case_ready s (x ∷ xs) (are_ready s (x ∷ xs)) other
  where
    case_ready : (s : Switch) (xs : List ℕ) (ready : Bool) → (if ready then Passed else Stayed) ≢ Stayed → ready ≡ true
    case_ready s xs true other = refl
    case_ready s xs false other = absurd (other refl)

must_be_stayed : (s : Switch) (xs : List ℕ) → are_ready s xs ≡ false → outcome s xs ≡ Stayed
must_be_stayed s [] not = absurd cc
must_be_stayed s (x ∷ xs) not = rw not refl

must_pass : (s : Switch) (x : ℕ) (xs : List ℕ) → are_ready s (x ∷ xs) ≡ true → outcome s (x ∷ xs) ≡ Passed
must_pass s x xs ready = rw ready refl

passes_all : (s : Switch) (xs : List ℕ) (q : ℕ) → are_ready s (xs ++ q ∷ []) ≡ true → outcome s (xs ++ q ∷ []) ≡ Passed
passes_all s [] q ready = must_pass s q [] ready
passes_all s (x ∷ xs) q ready = must_pass s x (xs ++ q ∷ []) ready

false-and-false : (flag other_flag third_flag : Bool) → third_flag ≡ (flag && other_flag) → flag ≡ false
    → third_flag ≡ false
false-and-false flag other_flag third_flag is first = rw (is, first) refl

all_two : (flag other_flag third_flag : Bool) → third_flag ≡ (flag && other_flag) → flag ≡ true → other_flag ≡ true
    → third_flag ≡ true
all_two flag other_flag third_flag is one two = rw (is, one, two) refl

last_not : (flag other_flag third_flag : Bool) → third_flag ≡ (flag && other_flag) → flag ≡ true → other_flag ≡ false
    → third_flag ≡ false
last_not flag other_flag third_flag is one two = rw (is, one, two) refl

one_ready : (s : Switch) (q : ℕ) (is : Bool) → set.contains s.ready q ≡ is → are_ready s (q ∷ []) ≡ is
one_ready s q true is = rw is refl
one_ready s q false is = rw is refl

-- an output that the input doesn't drive leaves the outcome as it is
pub not_marked : (s : Switch) (before : Moved) (mask q : ℕ) (xs : List ℕ)
    → (bit_at mask q == 1) ≡ false → before ≡ outcome s xs
    → before ≡ outcome s (xs ++ marked_by mask (q ∷ []))
not_marked s before mask q xs none is =
    is ∙ ap (outcome s) (sym (append-nil xs) ∙ ap (λ (ys : List ℕ). xs ++ ys) (sym (none_marked mask q none)))

-- once one output wasn't ready the packet stays, whatever the others are
pub stays : (s : Switch) (before : Moved) (xs ys : List ℕ) → before ≡ Stayed → before ≡ outcome s xs
    → before ≡ outcome s (xs ++ ys)
stays s before xs ys stayed is =
    stayed
    ∙ sym (must_be_stayed s (xs ++ ys)
    (false-and-false (are_ready s xs) (are_ready s ys) (are_ready s (xs ++ ys))
    (list_all-append (set.contains s.ready) xs ys) (unready s xs (sym is ∙ stayed))))

-- if no output before a driven one made the packet stay, and it is ready, the packet passes
pub passes : (s : Switch) (before : Moved) (mask q : ℕ) (xs : List ℕ)
    → (bit_at mask q == 1) ≡ true → before ≢ Stayed → set.contains s.ready q ≡ true → before ≡ outcome s xs
    → Passed ≡ outcome s (xs ++ marked_by mask (q ∷ []))
passes s before mask q xs marked other ready is =
    sym (ap (λ (ys : List ℕ). outcome s (xs ++ ys)) (one_marked mask q marked)
    ∙ passes_all s xs q (all_two (are_ready s xs) (are_ready s (q ∷ [])) (are_ready s (xs ++ q ∷ []))
    (list_all-append (set.contains s.ready) xs (q ∷ [])) (ready_so_far s xs (λ e. other (is ∙ e)))
    (one_ready s q true ready)))

-- if a driven output isn't ready, the packet stays
pub must_stay : (s : Switch) (before : Moved) (mask q : ℕ) (xs : List ℕ)
    → (bit_at mask q == 1) ≡ true → before ≢ Stayed → set.contains s.ready q ≡ false → before ≡ outcome s xs
    → Stayed ≡ outcome s (xs ++ marked_by mask (q ∷ []))
must_stay s before mask q xs marked other ready is =
    sym (ap (λ (ys : List ℕ). outcome s (xs ++ ys)) (one_marked mask q marked)
    ∙ must_be_stayed s (xs ++ q ∷ [])
    (last_not (are_ready s xs) (are_ready s (q ∷ [])) (are_ready s (xs ++ q ∷ []))
    (list_all-append (set.contains s.ready) xs (q ∷ [])) (ready_so_far s xs (λ e. other (is ∙ e)))
    (one_ready s q false ready)))

-- ---- copies

-- a packet that arrives at two lists of outputs arrives at the first and then at the second
pub copied_append : {S D : Type 0} (j : Joining S D) (packet : Packet) (xs ys : List ℕ) (all : S)
    → copies_arrived j packet (xs ++ ys) all ≡ copies_arrived j packet ys (copies_arrived j packet xs all)
copied_append j packet [] ys all = refl
copied_append j packet (x ∷ xs) ys all = copied_append j packet xs ys (delivered_at j packet (j.joined x) all)

-- ---- the device of a port

-- a machine of a part has as many nodes as the part
pub of_part_nodes : (v : MachineValue) → IsOfPart v → length v.devices.nodes ≡ length v.part.nodes
of_part_nodes v of =
    sym (length-map v.devices.nodes (λ n. length n.memory)) ∙ ap length of.memories
    ∙ length-map v.part.nodes (λ n. n.memory)

-- the device in the table at a port is the one that the part has there
pub joined_is : (part : PartData) (table : List (Option Device)) (port : ℕ) (device : Option Device)
    → AreJoined part table → port < part.count → get_or table port None ≡ device
    → device_at part port ≡ device
joined_is part table port device joined there at = sym (joined port there) ∙ at

-- a device in the table is there, if there are as many nodes and hosts as the part has
pub held_at : (part : PartData) (d : DeviceStates) (table : List (Option Device)) (port : ℕ) (device : Device)
    → AreJoined part table → length d.nodes ≡ length part.nodes → length d.hosts ≡ length part.hosts → port < part.count
    → get_or table port None ≡ Some device
    → HasDevice d device
held_at part d table port device joined nodes hosts there at =
    joined_holds part d port device nodes hosts (joined_is part table port (Some device) joined there at)

-- a device in the table is there in a machine of the part
pub holds_at : (v : MachineValue) (table : List (Option Device)) (port : ℕ) (device : Device)
    → IsOfPart v → AreJoined v.part table → port < v.part.count → get_or table port None ≡ Some device
    → HasDevice v.devices device
holds_at v table port device of joined there at =
    held_at v.part v.devices table port device joined (of_part_nodes v of) of.hosts there at

-- a packet that arrives at a driven output's device arrived at the outputs that are marked of it alone
pub copied_one : {S D : Type 0} (j : Joining S D) (packet : Packet) (mask q : ℕ) (to : Option D) (all : S)
    → (bit_at mask q == 1) ≡ true → j.joined q ≡ to
    → delivered_at j packet to all ≡ copies_arrived j packet (marked_by mask (q ∷ [])) all
copied_one {D = D} j packet mask q to all marked is =
    ap (λ (found : Option D). delivered_at j packet found all) (sym is)
    ∙ ap (λ (xs : List ℕ). copies_arrived j packet xs all) (sym (one_marked mask q marked))

-- a packet that arrived at the marked outputs below i, and then at i if it is marked, arrived at those below i + 1
pub copied_more : {S D : Type 0} (j : Joining S D) (packet : Packet) (mask i : ℕ) (d e f : S)
    → e ≡ copies_arrived j packet (marked_by mask (range_with_len 0 i)) d
    → f ≡ copies_arrived j packet (marked_by mask (i ∷ [])) e
    → f ≡ copies_arrived j packet (marked_by mask (range_with_len 0 (i + 1))) d
copied_more j packet mask i d e f before is =
    is ∙ ap (copies_arrived j packet (marked_by mask (i ∷ []))) before
    ∙ sym (copied_append j packet (marked_by mask (range_with_len 0 i)) (marked_by mask (i ∷ [])) d)
    ∙ ap (λ (xs : List ℕ). copies_arrived j packet xs d) (sym (marked_more mask i))

-- ---- the whole Move

still_by : {S D : Type 0} (other_moved : Moved) (j : Joining S D) (from : D) (packet : Packet)
    (outputs : List ℕ) (all : S)
    → has_moved other_moved ≡ false
    → moved_by other_moved j from packet outputs all ≡ all
still_by Nothing j from packet outputs all no_move = refl
still_by Lost j from packet outputs all no_move = absurd cc
still_by Stayed j from packet outputs all no_move = refl
still_by Passed j from packet outputs all no_move = absurd cc

still_sent : {S D : Type 0} (j : Joining S D) (s : Switch) (all : S) (outputs : List ℕ) (from : D)
    (packet : Option Packet)
    → has_moved (sent j s all outputs from packet).1 ≡ false
    → (sent j s all outputs from packet).0 ≡ all
still_sent j s all outputs from None no_move = refl
still_sent j s all outputs from (Some packet) no_move = still_by (outcome s outputs) j from packet outputs all no_move

still_from : {S D : Type 0} (j : Joining S D) (s : Switch) (all : S) (outputs : List ℕ) (from : Option D)
    → has_moved (moved_from j s all outputs from).1 ≡ false
    → (moved_from j s all outputs from).0 ≡ all
still_from j s all outputs None no_move = refl
still_from j s all outputs (Some from) no_move = still_sent j s all outputs from (packet_at j all from) no_move

-- a Move that answers Nothing or Stayed changes nothing
pub still : (part : PartData) (s : Switch) (d : DeviceStates) (port : ℕ) → has_moved (moved part s d port).1 ≡ false
    → (moved part s d port).0 ≡ d
still part s d port no_move =
    still_from (joining_of part) s d (driven (joining_of part) s port) (device_at part port) no_move

-- a Move of a port that has no device
pub moved_nowhere : (part : PartData) (s : Switch) (d : DeviceStates) (port : ℕ) → device_at part port ≡ None
    → moved part s d port ≡ (d, Nothing)
moved_nowhere part s d port none =
    ap (λ (from : Option Device). moved_from (joining_of part) s d (driven (joining_of part) s port) from) none

-- and of one at whose device no packet waits
pub moved_nothing : (part : PartData) (s : Switch) (d : DeviceStates) (port : ℕ) (device : Device)
    → device_at part port ≡ Some device → packet_waiting d device ≡ None
    → moved part s d port ≡ (d, Nothing)
moved_nothing part s d port device is none =
    let j : Joining DeviceStates Device = joining_of part in
    ap (λ (from : Option Device). moved_from j s d (driven j s port) from) is
    ∙ ap (λ (packet : Option Packet). sent j s d (driven j s port) device packet) none

-- the table at a port where it has no device
pub none_of : (device : Option Device) → ((x : Device) → device ≢ Some x) → device ≡ None
none_of None other = refl
none_of (Some x) other = absurd (other x refl)
