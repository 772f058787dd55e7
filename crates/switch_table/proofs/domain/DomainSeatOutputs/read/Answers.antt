use Rattle.std.proofs.Common.{rules, arith, refl, ◌≡◌}
use Rattle.switch_table.proofs.Moves.{reads}
use Rattle.switch_table.specs.Rule.{StoresAlone}
use Rattle.switch_table.proofs.SeatRows.{port_low, port_mine, found_word}
use Rattle.switch_table.proofs.domain.DomainSeatOutputs.read.Goals as goal

pub load-bits-requires : goal.load-bits-requires
load-bits-requires c =
    let s = c.self.inside in
    let kept = c.self.invariant in
    let here : s.seat.table_id ≡ c.deref.result.now.shared.table_id = search rules in
    let wide : c.deref.result.now.shared.table_id.words ≡ 32 = search rules in
    let at = c.from.ensures in
    let low = port_low _ c.args.number c.physical-port.result kept.row c.physical-port.ensures in
    let mine : StoresAlone s.seat.me.0 c.from.result =
    rw at (port_mine s.seat.me.0 s.numbering c.args.number c.physical-port.result kept.holds_its_domain
    c.physical-port.ensures) in
    (here, omega arith, reads _ _ _ _ _ mine)

pub returns-clause-value : goal.returns-clause-value
returns-clause-value c =
    let s = c.self.inside in
    found_word s.seat.me.0 s.numbering c.args.number c.physical-port.result c.from.result c.load-bits.result _ _
    c.self.view_is refl refl c.physical-port.ensures c.from.ensures c.load-bits.ensures.2.1
