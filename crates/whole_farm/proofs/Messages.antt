-- What an item of one domain does to what each domain sees of the switch:
-- its own sees it done, the others see nothing, for `each_call_is_private`.
use Rattle.std.proofs.Common.{◌≡◌, ◌⊎◌, inl, inr, ℕ, ◌<◌, ◌+◌, ◌-◌, Bool, true, false, cond, Option, Some, None, List}
use Rattle.std.proofs.Common.{[], ◌∷◌, length, slice_get, is_some, Contains, refl, sym, ap, ◌∙◌, subst}
use Rattle.std.proofs.Common.{arith, ◌==◌, if◌then◌else◌}
use Rattle.std.proofs.lemmas.Bool.{cases_Bool, ne_eqb, ltb-true, and_parts, cond-true, cond-false}
use Rattle.std.proofs.lemmas.Option.{none-some, slice_get-get_or}
use Rattle.std.specs.Option.{option_and_then}
use Rattle.std.specs.FinMap as map
use Rattle.std.specs.FinSet as set
use Rattle.std.specs.Ordering.{nat_cmp}
use Rattle.c004_commands.specs.declared.message.Message.{Message}
use Rattle.c004_commands.specs.declared.message.Message.TheVariants.{Connect, ConnectBoth, Enquire, MakeReady, Clear}
use Rattle.c004_commands.specs.declared.message.Message.TheVariants.{Disconnect, DisconnectBoth}
use Rattle.c004_commands.specs.Grammar.{Item, Command, Stray}
use Rattle.crossbar.specs.Switch.{Switch, connected, disconnected, all_ready, cleared}
use Rattle.crossbar.specs.Ranges.{IsOneToOne}
use Rattle.crossbar.specs.Row.{number_among}
use Rattle.crossbar.specs.Laws.{SwitchLaws}
use Rattle.virtual_switch.specs.declared.reply.ConfigReply.TheVariants.{Answer}
use Rattle.virtual_switch.specs.PrivateSwitch.{ports_named, are_below, answer_byte, performed}
use Rattle.virtual_switch.specs.PrivateSwitch.{answer_to, after_item, reply_to}
use Rattle.whole_farm.specs.Places.{Place, AreApart}
use Rattle.whole_farm.specs.Messages.{readied, disconnected_ports, is_among, raised, raised_message, performed_in}
use Rattle.whole_farm.specs.Messages.{after_item_in, reply_in}
use Rattle.whole_farm.specs.Projection.{own_switch, driver_at, ready_at, lowered_byte, lowered_config}
use Rattle.whole_farm.specs.Domains.{DrivesItself}
use Rattle.whole_farm.proofs.OneOutputSet.{SetsOutput, contains_at, at_contained, sets_connected, sets_disconnected}
use Rattle.whole_farm.proofs.OneOutputSet.{one_set, get-own_switch, contains-own_switch, same_own_switch}
use Rattle.whole_farm.proofs.OneOutputSet.{own_switch_sets, untouched, still_drives, number_among-none, keys_of}
use Rattle.whole_farm.proofs.OneOutputSet.{contains-readied, get-emptied, contains-emptied}

-- below the number of ports the raised number is in their list
pub port_at : (ports : List ℕ) (v : ℕ) → v < length ports → slice_get ports v ≡ Some (raised ports v)
port_at ports v less = slice_get-get_or ports v 0 less

one_below : (n a : ℕ) → are_below n (a ∷ []) ≡ true → a < n
one_below n a same = ltb-true a n (and_parts _ _ same).0

two_below : (n a b : ℕ) → are_below n (a ∷ b ∷ []) ≡ true → (a < n) × (b < n)
two_below n a b same = let parts = and_parts _ _ same in (ltb-true a n parts.0, one_below n b parts.1)

-- ---- the domain's own message

-- if a domain's ports are connected in the whole switch, the domain sees its numbers connected
pub own_connected : SwitchLaws → (ports : List ℕ) (s : Switch) (input output : ℕ) → IsOneToOne ports
    → input < length ports
    → output < length ports
    → own_switch ports (connected s (raised ports input) (raised ports output))
    ≡ connected (own_switch ports s) input output
own_connected laws ports s input output one less below =
    let seen =
    own_switch_sets laws ports s _ output (raised ports output) (Some (raised ports input)) one
    (port_at ports output below)
    (sets_connected s (raised ports input) (raised ports output)) in
    one_set laws (own_switch ports s) _ _ output (Some input)
    (subst (SetsOutput (own_switch ports s) (own_switch ports (connected s (raised ports input) (raised ports output)))
    output)
    (laws.number ports input (raised ports input) one (port_at ports input less)) seen)
    (sets_connected (own_switch ports s) input output)

-- if a domain's output is disconnected in the whole switch, the domain sees its number disconnected
pub own_disconnected : SwitchLaws → (ports : List ℕ) (s : Switch) (output : ℕ) → IsOneToOne ports
    → output < length ports
    → own_switch ports (disconnected s (raised ports output)) ≡ disconnected (own_switch ports s) output
own_disconnected laws ports s output one less =
    one_set laws (own_switch ports s) _ _ output None
    (own_switch_sets laws ports s _ output (raised ports output) None one (port_at ports output less)
    (sets_disconnected s (raised ports output)))
    (sets_disconnected (own_switch ports s) output)

known_driver : SwitchLaws → (ports : List ℕ) (found : Option ℕ)
    → ((input : ℕ) → found ≡ Some input → (w : ℕ) × (slice_get ports w ≡ Some input))
    → is_some found ≡ is_some (option_and_then (number_among ports) found)
known_driver laws ports None own = refl
known_driver laws ports (Some input) own = let at = own input refl in sym (laws.numbered ports input at.0 at.1)

own_readied : SwitchLaws → (ports : List ℕ) (s : Switch) → DrivesItself ports s
    → own_switch ports (readied ports s) ≡ all_ready (own_switch ports s)
own_readied laws ports s own =
    laws.same _ _
    (λ q. get-own_switch laws ports (readied ports s) q ∙ drivers (slice_get ports q)
    ∙ sym (get-own_switch laws ports s q))
    (λ q.
    contains-own_switch laws ports (readied ports s) q ∙ readies q (slice_get ports q) refl
    ∙ ap is_some (sym (get-own_switch laws ports s q)) ∙ sym (keys_of (own_switch ports s) q))
  where
    drivers : (found : Option ℕ) → driver_at ports (readied ports s) found ≡ driver_at ports s found
    drivers None = refl
    drivers (Some port) = refl

    readies : (q : ℕ) (found : Option ℕ) → slice_get ports q ≡ found
        → ready_at (readied ports s) found ≡ is_some (driver_at ports s found)
    readies q None e = refl
    readies q (Some port) e =
        contains-readied ports s port ∙ cond-true _ _ _ (laws.numbered ports port q e)
        ∙ known_driver laws ports (map.get s.pairs port)
        (λ input is. at_contained ports input (own port input (contains_at ports q port e) is))

own_emptied : SwitchLaws → (ports : List ℕ) (s : Switch) → own_switch ports (disconnected_ports ports s) ≡ cleared
own_emptied laws ports s =
    laws.same _ _
    (λ q. get-own_switch laws ports (disconnected_ports ports s) q ∙ drivers q (slice_get ports q) refl
    ∙ sym (map.get-empty nat_cmp q))
    (λ q.
    contains-own_switch laws ports (disconnected_ports ports s) q ∙ readies q (slice_get ports q) refl
    ∙ sym (set.contains-empty nat_cmp q))
  where
    drivers : (q : ℕ) (found : Option ℕ) → slice_get ports q ≡ found
        → driver_at ports (disconnected_ports ports s) found ≡ None
    drivers q None e = refl
    drivers q (Some port) e =
        ap (option_and_then (number_among ports))
        (get-emptied ports s port ∙ cond-true _ _ _ (laws.numbered ports port q e))

    readies : (q : ℕ) (found : Option ℕ) → slice_get ports q ≡ found
        → ready_at (disconnected_ports ports s) found ≡ false
    readies q None e = refl
    readies q (Some port) e = contains-emptied ports s port ∙ cond-true _ _ _ (laws.numbered ports port q e)

own_performed : SwitchLaws → (ports : List ℕ) (s : Switch) (message : Message) → IsOneToOne ports → DrivesItself ports s
    → are_below (length ports) (ports_named message) ≡ true
    → own_switch ports (performed_in ports s message) ≡ performed (own_switch ports s) message
own_performed laws ports s (Connect input output) one own below =
    let h = two_below _ input output below in own_connected laws ports s input output one h.0 h.1
own_performed laws ports s (ConnectBoth first second) one own below =
    let h = two_below _ first second below in
    own_connected laws ports (connected s (raised ports first) (raised ports second)) second first one h.1 h.0
    ∙ ap (λ s. connected s second first) (own_connected laws ports s first second one h.0 h.1)
own_performed laws ports s (Enquire output) one own below = refl
own_performed laws ports s MakeReady one own below = own_readied laws ports s own
own_performed laws ports s Clear one own below = own_emptied laws ports s
own_performed laws ports s (Disconnect output) one own below =
    own_disconnected laws ports s output one (one_below _ output below)
own_performed laws ports s (DisconnectBoth first second) one own below =
    let h = two_below _ first second below in
    own_disconnected laws ports (disconnected s (raised ports first)) second one h.1
    ∙ ap (λ s. disconnected s second) (own_disconnected laws ports s first one h.0)

as_answered : (byte : ℕ) (found : Option ℕ) → is_some found ≡ true → lowered_byte byte found ≡ answer_byte found
as_answered byte None none = absurd cc
as_answered byte (Some input) some = refl

lowered_enquiry : SwitchLaws → (ports : List ℕ) (found : Option ℕ)
    → ((input : ℕ) → found ≡ Some input → (w : ℕ) × (slice_get ports w ≡ Some input))
    → (if answer_byte found == 0 then 0
    else lowered_byte (answer_byte found) (number_among ports (answer_byte found - 128)))
    ≡ answer_byte (option_and_then (number_among ports) found)
lowered_enquiry laws ports None own = refl
lowered_enquiry laws ports (Some input) own =
    let some : (128 + input == 0) ≡ false = ne_eqb _ _ (λ e. omega arith) in
    let back : 128 + input - 128 ≡ input = omega arith in
    let at = own input refl in
    rw some (ap (λ n. lowered_byte (128 + input) (number_among ports n)) back
    ∙ as_answered (128 + input) (number_among ports input) (laws.numbered ports input at.0 at.1))

own_answer : SwitchLaws → (ports : List ℕ) (s : Switch) (message : Message) → DrivesItself ports s
    → are_below (length ports) (ports_named message) ≡ true
    → lowered_config ports (answer_to s (raised_message ports message)) ≡ answer_to (own_switch ports s) message
own_answer laws ports s (Connect input output) own below = refl
own_answer laws ports s (ConnectBoth first second) own below = refl
own_answer laws ports s (Enquire output) own below =
    let at = port_at ports output (one_below _ output below) in
    ap (λ (byte : ℕ). Answer byte) (
    lowered_enquiry laws ports (map.get s.pairs (raised ports output))
    (λ input is.
    at_contained ports input (own (raised ports output) input (contains_at ports output (raised ports output) at) is))
    ∙ ap answer_byte (sym (get-own_switch laws ports s output ∙ ap (driver_at ports s) at)))
own_answer laws ports s MakeReady own below = refl
own_answer laws ports s Clear own below = refl
own_answer laws ports s (Disconnect output) own below = refl
own_answer laws ports s (DisconnectBoth first second) own below = refl

-- the domain sees of its item in the whole switch what the item does to its private switch
pub own_item : SwitchLaws → (place : Place) (s : Switch) (item : Item) → IsOneToOne place.ports
    → length place.ports ≡ place.part.count
    → DrivesItself place.ports s
    → own_switch place.ports (after_item_in place s item) ≡ after_item place.part.count (own_switch place.ports s) item
own_item laws place s (Stray byte) one count own = refl
own_item laws place s (Command message) one count own =
    elim (cases_Bool (are_below place.part.count (ports_named message))) [
      | inl below ↦
          rw below (own_performed laws place.ports s message one own
          (ap (λ n. are_below n (ports_named message)) count ∙ below))
      | inr not_below ↦ rw not_below refl
    ]

-- the reply to an item, lowered, is the reply of the private switch
pub own_reply : SwitchLaws → (place : Place) (s : Switch) (item : Item) → length place.ports ≡ place.part.count
    → DrivesItself place.ports s
    → lowered_config place.ports (reply_in place s item) ≡ reply_to place.part.count (own_switch place.ports s) item
own_reply laws place s (Stray byte) count own = refl
own_reply laws place s (Command message) count own =
    elim (cases_Bool (are_below place.part.count (ports_named message))) [
      | inl below ↦
          rw below (own_answer laws place.ports s message own
          (ap (λ n. are_below n (ports_named message)) count ∙ below))
      | inr not_below ↦ rw not_below refl
    ]

-- ---- another domain's message

-- two domains with no port in common have none at any two numbers
pub never_both : (ports others : List ℕ) (v w port : ℕ)
    → AreApart ports others → slice_get ports v ≡ Some port → slice_get others w ≡ Some port
    → ⊥
never_both ports others v w port apart at there =
    apart port (contains_at ports v port at) (contains_at others w port there)

not_theirs : (ports others : List ℕ) (v : ℕ)
    → AreApart ports others → v < length ports → (w : ℕ) → slice_get others w ≡ Some (raised ports v)
    → ⊥
not_theirs ports others v apart less w at = never_both ports others v w (raised ports v) apart (port_at ports v less) at

other_readied : SwitchLaws → (ports others : List ℕ) (s : Switch) → AreApart ports others
    → own_switch others (readied ports s) ≡ own_switch others s
other_readied laws ports others s apart =
    same_own_switch laws others s (readied ports s) (λ v port at. refl) (λ v port at.
    contains-readied ports s port
    ∙ cond-false _ _ _
    (ap is_some (number_among-none ports port (λ w is. never_both ports others w v port apart is at))))

other_emptied : SwitchLaws → (ports others : List ℕ) (s : Switch) → AreApart ports others
    → own_switch others (disconnected_ports ports s) ≡ own_switch others s
other_emptied laws ports others s apart =
    same_own_switch laws others s (disconnected_ports ports s) (λ v port at.
    get-emptied ports s port
    ∙ cond-false _ _ _
    (ap is_some (number_among-none ports port (λ w is. never_both ports others w v port apart is at))))
    (λ v port at.
    contains-emptied ports s port
    ∙ cond-false _ _ _
    (ap is_some (number_among-none ports port (λ w is. never_both ports others w v port apart is at))))

other_connected : SwitchLaws → (ports others : List ℕ) (s : Switch) (input output : ℕ) → AreApart ports others
    → output < length ports
    → own_switch others (connected s (raised ports input) (raised ports output)) ≡ own_switch others s
other_connected laws ports others s input output apart less =
    untouched laws others s _ (raised ports output) (Some (raised ports input))
    (not_theirs ports others output apart less)
    (sets_connected s (raised ports input) (raised ports output))

other_disconnected : SwitchLaws → (ports others : List ℕ) (s : Switch) (output : ℕ) → AreApart ports others
    → output < length ports
    → own_switch others (disconnected s (raised ports output)) ≡ own_switch others s
other_disconnected laws ports others s output apart less =
    untouched laws others s _ (raised ports output) None (not_theirs ports others output apart less)
    (sets_disconnected s (raised ports output))

other_performed : SwitchLaws → (ports others : List ℕ) (s : Switch) (message : Message) → AreApart ports others
    → are_below (length ports) (ports_named message) ≡ true
    → own_switch others (performed_in ports s message) ≡ own_switch others s
other_performed laws ports others s (Connect input output) apart below =
    other_connected laws ports others s input output apart (two_below _ input output below).1
other_performed laws ports others s (ConnectBoth first second) apart below =
    let h = two_below _ first second below in
    other_connected laws ports others (connected s (raised ports first) (raised ports second)) second first apart h.0
    ∙ other_connected laws ports others s first second apart h.1
other_performed laws ports others s (Enquire output) apart below = refl
other_performed laws ports others s MakeReady apart below = other_readied laws ports others s apart
other_performed laws ports others s Clear apart below = other_emptied laws ports others s apart
other_performed laws ports others s (Disconnect output) apart below =
    other_disconnected laws ports others s output apart (one_below _ output below)
other_performed laws ports others s (DisconnectBoth first second) apart below =
    let h = two_below _ first second below in
    other_disconnected laws ports others (disconnected s (raised ports first)) second apart h.1
    ∙ other_disconnected laws ports others s first apart h.0

-- an item of one domain leaves what a domain beside it sees
pub other_item : SwitchLaws → (place : Place) (others : List ℕ) (s : Switch) (item : Item)
    → length place.ports ≡ place.part.count
    → AreApart place.ports others
    → own_switch others (after_item_in place s item) ≡ own_switch others s
other_item laws place others s (Stray byte) count apart = refl
other_item laws place others s (Command message) count apart =
    elim (cases_Bool (are_below place.part.count (ports_named message))) [
      | inl below ↦
          rw below (other_performed laws place.ports others s message apart
          (ap (λ n. are_below n (ports_named message)) count ∙ below))
      | inr not_below ↦ rw not_below refl
    ]

-- ---- each domain's outputs are driven by its own inputs

-- the same domain, or another
abbrev pub Beside : List ℕ → List ℕ → Type 0
Beside ports others = (ports ≡ others) ⊎ AreApart ports others

drives_connected : (ports others : List ℕ) (s : Switch) (input output : ℕ)
    → Beside ports others → DrivesItself others s → input < length ports
    → output < length ports
    → DrivesItself others (connected s (raised ports input) (raised ports output))
drives_connected ports others s input output beside own less below =
    still_drives others s _ (raised ports output) (Some (raised ports input)) own
    (sets_connected s (raised ports input) (raised ports output)) (λ from at is.
    elim beside [
      | inl same ↦ subst (λ ps. Contains ps from) same (contains_at ports input from (port_at ports input less ∙ is))
      | inr apart ↦
          absurd (apart (raised ports output)
          (contains_at ports output (raised ports output) (port_at ports output below)) at)
    ])

drives_disconnected : (others : List ℕ) (s : Switch) (port : ℕ) → DrivesItself others s
    → DrivesItself others (disconnected s port)
drives_disconnected others s port own =
    still_drives others s _ port None own (sets_disconnected s port) (λ from at is. absurd (none-some from is))

from_cond : (b : Bool) (found : Option ℕ) (from : ℕ) → cond b None found ≡ Some from → found ≡ Some from
from_cond true found from is = absurd (none-some from is)
from_cond false found from is = is

drives_performed : (ports others : List ℕ) (s : Switch) (message : Message)
    → Beside ports others → DrivesItself others s
    → are_below (length ports) (ports_named message) ≡ true
    → DrivesItself others (performed_in ports s message)
drives_performed ports others s (Connect input output) beside own below =
    let h = two_below _ input output below in drives_connected ports others s input output beside own h.0 h.1
drives_performed ports others s (ConnectBoth first second) beside own below =
    let h = two_below _ first second below in
    drives_connected ports others (connected s (raised ports first) (raised ports second)) second first beside
    (drives_connected ports others s first second beside own h.0 h.1) h.1 h.0
drives_performed ports others s (Enquire output) beside own below = own
drives_performed ports others s MakeReady beside own below = λ port from at is. own port from at is
drives_performed ports others s Clear beside own below =
    λ port from at is. own port from at (from_cond (is_among ports port) _ from (sym (get-emptied ports s port) ∙ is))
drives_performed ports others s (Disconnect output) beside own below =
    drives_disconnected others s (raised ports output) own
drives_performed ports others s (DisconnectBoth first second) beside own below =
    drives_disconnected others (disconnected s (raised ports first)) (raised ports second)
    (drives_disconnected others s (raised ports first) own)

-- after an item of a domain that is the same or beside it, a domain's outputs are still driven from inside it
pub drives_item : (place : Place) (others : List ℕ) (s : Switch) (item : Item)
    → length place.ports ≡ place.part.count → Beside place.ports others
    → DrivesItself others s
    → DrivesItself others (after_item_in place s item)
drives_item place others s (Stray byte) count beside own = own
drives_item place others s (Command message) count beside own =
    elim (cases_Bool (are_below place.part.count (ports_named message))) [
      | inl below ↦
          subst (DrivesItself others) (sym (cond-true _ _ _ below)) (
          drives_performed place.ports others s message beside own
          (ap (λ n. are_below n (ports_named message)) count ∙ below))
      | inr not_below ↦ subst (DrivesItself others) (sym (cond-false _ _ _ not_below)) own
    ]
