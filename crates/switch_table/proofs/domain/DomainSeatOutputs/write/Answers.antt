use Rattle.std.proofs.Common.{rules, arith, refl, ◌≡◌, ◌<◌, ◌∙◌, sym, ap, subst, ℕ, slice_index, Contains}
use Rattle.atomic_table.specs.Table.{Me}
use Rattle.crossbar.specs.Row.{IsWordOf}
use Rattle.crossbar.specs.Changed.{row_with}
use Rattle.switch_table.specs.declared.view.View.{View}
use Rattle.switch_table.specs.Rule.{IsNewer, word_of, view_row, with_view_word}
use Rattle.switch_table.specs.SeatStates.{SeatState}
use Rattle.switch_table.specs.Seats.{seat_row}
use Rattle.switch_table.proofs.Moves.{writes}
use Rattle.switch_table.proofs.SeatRows.{port_low, port_in, first_of, found_word, row_set, written_seat}
use Rattle.switch_table.proofs.domain.DomainSeatOutputs.write.Goals as goal

pub store-requires : goal.store-requires
store-requires c =
    let s = c.self.inside in
    let kept = c.self.invariant in
    let here : s.seat.table_id ≡ c.deref.result.now.shared.table_id = search rules in
    let wide : c.deref.result.now.shared.table_id.words ≡ 32 = search rules in
    let at = c.from.ensures in
    let low : c.from.result < 32 =
    rw at (port_low _ c.args.number c.physical-port.result kept.row c.physical-port.ensures) in
    let inside : Contains s.numbering c.from.result =
    rw at (port_in s.seat.me.0 s.numbering c.args.number c.physical-port.result c.physical-port.ensures) in
    let fits : IsWordOf s.numbering (word_of c.args.word.bits) =
    subst (λ (t : SeatState). IsWordOf t.ports c.args.word) (sym c.self.view_is) c.requires.word in
    let old = slice_index s.seat.me.0.words c.from.result in
    let there =
    found_word s.seat.me.0 s.numbering c.args.number c.physical-port.result c.from.result old _ _ c.self.view_is refl
    refl c.physical-port.ensures c.from.ensures refl in
    let newer : IsNewer c.args.word.bits old = c.requires.newer (word_of old) there in (
      here,
      omega arith,
      writes _ _ _ _ _ _ low 0 s.numbering (first_of s.seat.me.0 s.numbering kept.holds_its_domain) inside fits newer,
    )

pub invariant_of-self : goal.invariant_of-self
invariant_of-self c =
    let s = c.self.inside in
    let kept = c.self.invariant in
    let fits : IsWordOf s.numbering (word_of c.args.word.bits) =
    subst (λ (t : SeatState). IsWordOf t.ports c.args.word) (sym c.self.view_is) c.requires.word in
    let low = port_low _ c.args.number c.physical-port.result kept.row c.physical-port.ensures in
    let stored =
    c.store.ensures.2
    ∙ ap (λ (port : ℕ).
    let now : Me (Unit {0}) View = (with_view_word s.seat.me.0 port c.args.word.bits, s.seat.me.1) in
    now)
    c.from.ensures in
    written_seat c.rows_are_words_of_ports.ensures.set _ _ _ s.seat.me _ s.numbering c.args.number
    c.physical-port.result c.args.word.bits kept fits low c.physical-port.ensures c.store.ensures.0 stored

pub returns-clause-words : goal.returns-clause-words
returns-clause-words c =
    let s = c.self.inside in
    let kept = c.self.invariant in
    let low = port_low _ c.args.number c.physical-port.result kept.row c.physical-port.ensures in
    let stored =
    c.store.ensures.2
    ∙ ap (λ (port : ℕ).
    let now : Me (Unit {0}) View = (with_view_word s.seat.me.0 port c.args.word.bits, s.seat.me.1) in
    now)
    c.from.ensures in
    ap (λ (now : Me (Unit {0}) View). view_row now.0 s.numbering) stored
    ∙ row_set s.seat.me.0 s.numbering c.args.number c.physical-port.result c.args.word.bits kept.row kept.view_wide
    low c.physical-port.ensures
    ∙ ap (λ (t : SeatState). row_with (seat_row t) c.args.number c.args.word) c.self.view_is

pub returns-clause-row : goal.returns-clause-row
returns-clause-row c =
    let s = c.self.inside in
    let kept = c.self.invariant in
    let fits : IsWordOf s.numbering (word_of c.args.word.bits) =
    subst (λ (t : SeatState). IsWordOf t.ports c.args.word) (sym c.self.view_is) c.requires.word in
    let low = port_low _ c.args.number c.physical-port.result kept.row c.physical-port.ensures in
    let stored =
    c.store.ensures.2
    ∙ ap (λ (port : ℕ).
    let now : Me (Unit {0}) View = (with_view_word s.seat.me.0 port c.args.word.bits, s.seat.me.1) in
    now)
    c.from.ensures in
    (written_seat c.rows_are_words_of_ports.ensures.set _ _ _ s.seat.me _ s.numbering c.args.number
    c.physical-port.result c.args.word.bits kept fits low c.physical-port.ensures c.store.ensures.0 stored).row
