-- What the clauses of the table's calls see of it and its seats.
use Rattle.std.specs.Prelude.{ℕ, List, length, replicate}
use Rattle.std.specs.Arc.{arc_value}
use Rattle.atomic_table.specs.Seated.{TableId}
use Rattle.crossbar.specs.Row.{Row}
use Rattle.switch_table.specs.Rule.{view_row, word_of}
use Rattle.switch_table.specs.SeatStates.{SeatState}
use Rattle.switch_table.specs.declared.table.SwitchTable.{SwitchTable}
use Rattle.switch_table.specs.declared.table.OperatorSeat.{OperatorSeat}

-- which table it is
abbrev pub table_of : SwitchTable → TableId
table_of t = (arc_value t.shared_words).shared.table_id

-- the row of a domain's outputs: its words are those that its seat's view holds
abbrev pub seat_row : SeatState → Row
seat_row s = view_row s.view s.ports

-- the table that the operator's seat is for
abbrev pub surveyed_table : OperatorSeat → TableId
surveyed_table o = o.seat.table_id

-- the domains of that table
abbrev pub surveyed_domains : OperatorSeat → List (List ℕ)
surveyed_domains o = o.seat.me.0.domains

-- the newest word that the operator has seen of each output, as its bits
abbrev pub seen_words : OperatorSeat → List ℕ
seen_words o = o.seat.me.0.words

-- the row of these ports whose words are all 0
abbrev pub clear_row : List ℕ → Row
clear_row ports = record { ports = ports; words = replicate (length ports) (word_of 0) }
