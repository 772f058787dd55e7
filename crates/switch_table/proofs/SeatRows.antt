-- The words of a seat's outputs are a row of its domain's ports, for
-- `take_first_domain` and for the contracts of `Outputs` that a seat meets.
use Rattle.std.proofs.Common.{◌≡◌, ℕ, zero, suc, ◌<◌, List, [], ◌∷◌, map, take, replicate, length, set, Some, slice_get}
use Rattle.std.proofs.Common.{slice_index, All, Contains, get_or, refl, sym, ap, ◌∙◌, subst, arith}
use Rattle.std.proofs.lemmas.Option.{none-some, same_Some, slice_get-get_or}
use Rattle.std.proofs.lemmas.Option.{slice_get-map, get_or_from_slice_get, slice_get_within}
use Rattle.std.specs.Option.{option_map}
use Rattle.std.proofs.lemmas.List.{length-set}
use Rattle.std.proofs.lemmas.List.Elements.{All-replicate}
use Rattle.atomic_table.specs.Seated.{TableId}
use Rattle.atomic_table.specs.Table.{Me}
use Rattle.crossbar.specs.Ranges.{IsNumbering}
use Rattle.crossbar.specs.Row.{Row, IsRow, IsWordOf, switch_of}
use Rattle.crossbar.specs.Changed.{row_with}
use Rattle.crossbar.specs.Switch.{cleared}
use Rattle.crossbar.specs.Laws.{NumberingsAreFew, RowTakesAWord, UnusedIsCleared}
use Rattle.switch_table.specs.declared.view.View.{View}
use Rattle.switch_table.specs.Rule.{word_of, view_row, with_view_word, StoresAlone}
use Rattle.switch_table.specs.SeatStates.{SeatState, IsSeated}
use Rattle.switch_table.specs.Seats.{clear_row, seat_row}
use Rattle.switch_table.proofs.Ports.{bits_of, bits_of-clear, port_set, port_held, port_own}

map-replicate : (n : ℕ) → map word_of (replicate n 0) ≡ replicate n (word_of 0)
map-replicate zero = refl
map-replicate (suc n) = ap (λ ws. word_of 0 ∷ ws) (map-replicate n)

-- a view that has seen 0 everywhere has a clear word for each port
pub clear_view : (view : View) (ports : List ℕ) → view.words ≡ replicate 32 0 → view_row view ports ≡ clear_row ports
clear_view view ports clear =
    let words =
    ap (λ (ws : List ℕ). map word_of (map (slice_index ws) ports)) clear ∙ ap (map word_of) (bits_of-clear 32 ports)
    ∙ map-replicate (length ports) in
    λ i. record { ports = ports; words = words i }

length-clear : (n : ℕ) → length (replicate n (word_of 0)) ≡ n
length-clear zero = refl
length-clear (suc n) = ap suc (length-clear n)

unused_row : NumberingsAreFew → (ports : List ℕ) → IsNumbering ports → IsRow (clear_row ports)
unused_row few ports given = record {
  length_is = length-clear (length ports);
  few = few ports given;
  below = given.below;
  one_to_one = given.one_to_one;
  each = All-replicate (IsWordOf ports) (length ports) (word_of 0) (record { proper = refl; within = tt });
}

first_held : (held : List (List ℕ)) (ports : List ℕ) → slice_get held 0 ≡ Some ports → take 1 held ≡ ports ∷ []
first_held [] ports is = absurd (none-some ports is)
first_held (d ∷ held) ports is = ap (λ (p : List ℕ). p ∷ []) (same_Some d ports is)

-- a seat that has just been dealt holds its domain alone, takes no slot, and its words are a row of the domain's ports
pub dealt : NumberingsAreFew → (shared_words seat : TableId) (view : View) (me : Me (Unit {0}) View) (ports : List ℕ)
    → seat ≡ shared_words → seat.words ≡ 32 → view.words ≡ replicate 32 0 → slice_get view.held 0 ≡ Some ports
    → IsNumbering ports
    → me.0 ≡ record view { held = take 1 view.held } → me.1 ≡ [] → IsSeated shared_words seat me ports
dealt few shared_words seat view me ports here wide clear next numbering is no_slot = record {
  here = here;
  wide = wide;
  view_wide = ap (λ (v : View). length v.words) is ∙ ap length clear;
  holds_its_domain = ap (λ (v : View). v.held) is ∙ first_held view.held ports next;
  takes_no_slot = no_slot;
  row =
      subst IsRow (sym (clear_view me.0 ports (ap (λ (v : View). v.words) is ∙ clear)))
      (unused_row few ports numbering);
}

map-set : (xs : List ℕ) (i x : ℕ) → map word_of (set xs i x) ≡ set (map word_of xs) i (word_of x)
map-set [] i x = refl
map-set (y ∷ xs) zero x = refl
map-set (y ∷ xs) (suc i) x = ap (λ ws. word_of y ∷ ws) (map-set xs i x)

-- the port of a number, as an element of the list
pub at_index : (ports : List ℕ) (number port : ℕ) → slice_get ports number ≡ Some port → port ≡ slice_index ports number
at_index ports number port is = sym (get_or_from_slice_get ports number port 0 is)

-- the word of a number is the view's word of its port
pub word_at : (view : View) (ports : List ℕ) (number port : ℕ) → slice_get ports number ≡ Some port
    → slice_get (view_row view ports).words number ≡ Some (word_of (slice_index view.words port))
word_at view ports number port is =
    slice_get-map word_of (bits_of view ports) number
    ∙ ap (λ o. option_map word_of o)
    (slice_get-map (slice_index view.words) ports number ∙ ap (λ o. option_map (slice_index view.words) o) is)

-- a store at the port changes the word of its number alone
pub row_set : (view : View) (ports : List ℕ) (number port bits : ℕ)
    → IsRow (view_row view ports) → length view.words ≡ 32 → port < 32
    → slice_get ports number ≡ Some port
    → view_row (with_view_word view port bits) ports ≡ row_with (view_row view ports) number (word_of bits)
row_set view ports number port bits row wide low is =
    let words =
    ap (map word_of)
    (port_set view ports number port (slice_get_within ports number port is) (at_index ports number port is) bits
    (omega arith)
    (λ u h same.
    row.one_to_one u number port
    (slice_get-get_or ports u 0 h ∙ ap (λ (p : ℕ). Some p) (same ∙ sym (at_index ports number port is))) is))
    ∙ map-set (bits_of view ports) number bits in
    λ i. record { ports = ports; words = words i }

-- a seat that stored a word of its domain at one of its outputs is still the seat of that domain
pub written_seat : RowTakesAWord
    → (shared_words seat next : TableId) (me now : Me (Unit {0}) View) (ports : List ℕ) (number port bits : ℕ)
    → IsSeated shared_words seat me ports → IsWordOf ports (word_of bits) → port < 32
    → slice_get ports number ≡ Some port
    → next ≡ seat
    → now ≡ (with_view_word me.0 port bits, me.1) → IsSeated shared_words next now ports
written_seat set_row shared_words seat next me now ports number port bits given proper low is same then = record {
  here = same ∙ given.here;
  wide = ap (λ (t : TableId). t.words) same ∙ given.wide;
  view_wide = ap (λ (m : Me (Unit {0}) View). length m.0.words) then ∙ length-set me.0.words port bits
      ∙ given.view_wide;
  holds_its_domain = ap (λ (m : Me (Unit {0}) View). m.0.held) then ∙ given.holds_its_domain;
  takes_no_slot = ap (λ (m : Me (Unit {0}) View). m.1) then ∙ given.takes_no_slot;
  row =
      subst (λ (m : Me (Unit {0}) View). IsRow (view_row m.0 ports)) (sym then)
      (subst IsRow (sym (row_set me.0 ports number port bits given.row given.view_wide low is))
      (set_row (view_row me.0 ports) number (word_of bits) given.row proper));
}

-- the port of a number lies below 32
pub port_low : (row : Row) (number port : ℕ) → IsRow row → slice_get row.ports number ≡ Some port → port < 32
port_low row number port is_row is =
    subst (λ (p : ℕ). p < 32) (get_or_from_slice_get row.ports number port port is)
    (is_row.below number port (slice_get_within row.ports number port is))

-- the port of a number is one at which the seat alone stores
pub port_mine : (view : View) (ports : List ℕ) (number port : ℕ)
    → view.held ≡ ports ∷ [] → slice_get ports number ≡ Some port
    → StoresAlone view port
port_mine view ports number port held is =
    port_held view ports number port (slice_get_within ports number port is) (at_index ports number port is) held

-- the port of a number is among the ports
pub port_in : (view : View) (ports : List ℕ) (number port : ℕ) → slice_get ports number ≡ Some port
    → Contains ports port
port_in view ports number port is =
    port_own view ports number port (slice_get_within ports number port is) (at_index ports number port is)

-- the one domain that a seat holds is its first
pub first_of : (view : View) (ports : List ℕ) → view.held ≡ ports ∷ [] → slice_get view.held 0 ≡ Some ports
first_of view ports held = ap (λ (ds : List (List ℕ)). slice_get ds 0) held

-- what a load at the port of a number found is the seat's word at that number
pub found_word : (view : View) (ports : List ℕ) (number port at found : ℕ) (seen : SeatState) (s : SeatState)
    → s ≡ seen → s.view ≡ view → s.ports ≡ ports → slice_get ports number ≡ Some port → at ≡ port
    → found ≡ slice_index view.words at
    → slice_get (seat_row seen).words number ≡ Some (word_of found)
found_word view ports number port at found seen s same view_is ports_is is at_is found_is =
    ap (λ (t : SeatState). slice_get (seat_row t).words number) (sym same)
    ∙ ap (λ (p : View × List ℕ). slice_get (view_row p.0 p.1).words number) (λ i. (view_is i, ports_is i))
    ∙ word_at view ports number port is
    ∙ ap (λ (w : ℕ). Some (word_of w)) (ap (slice_index view.words) (sym at_is) ∙ sym found_is)

-- seats whose words are clear say the cleared switch
pub cleared_seats : UnusedIsCleared → (seats : List SeatState) → All (λ s. seat_row s ≡ clear_row s.ports) seats
    → All (λ s. switch_of (seat_row s).words ≡ cleared) seats
cleared_seats unused seats clear k d inside =
    ap (λ (r : Row). switch_of r.words) (clear k d inside) ∙ unused (length (get_or seats k d).ports)
