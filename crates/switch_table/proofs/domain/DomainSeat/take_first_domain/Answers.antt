use Rattle.std.proofs.Common.{rules, arith, ◌≡◌}
use Rattle.switch_table.proofs.Moves.{deals}
use Rattle.switch_table.proofs.SeatRows.{dealt}
use Rattle.switch_table.proofs.domain.DomainSeat.take_first_domain.Goals as goal

pub split_seat-seat-requires : goal.split_seat-seat-requires
split_seat-seat-requires c =
    let here : c.args.opener.now.table_id ≡ c.deref.result.now.shared.table_id = search rules in
    let wide : c.deref.result.now.shared.table_id.words ≡ 32 = search rules in
    (here, omega arith, deals _ _ _)

pub invariant_of-result : goal.invariant_of-result
invariant_of-result c =
    let e = c.split_seat-seat.ensures in
    dealt c.rows_are_words_of_ports.ensures.few _ _ c.args.opener.now.me.0 _ c.args.numbering (search rules)
    (search rules) c.requires.clear c.requires.next c.requires.numbering (search rules) (search rules)
