use Rattle.std.proofs.Common.{◌≡◌, ℕ, List, [], map, All, take, drop}
use Rattle.std.specs.Arc.{arc_value}
use Rattle.switch_table.specs.Domains.{domains_of}
use Rattle.switch_table.specs.Rule.{opening_view}
use Rattle.switch_table.specs.Seats.{seat_row, clear_row}
use Rattle.switch_table.proofs.table.SwitchTable.open.Given as goal

abbrev pub invariant-loop-domain : goal.invariant-loop-domain
invariant-loop-domain l =
    let domains : List (List ℕ) = domains_of l.fn.plan in record {
      here : l.opener.table_id ≡ (arc_value l.shared_words).shared.table_id;
      wide : l.opener.table_id.words ≡ 32;
      table : All (λ s. s.table ≡ (arc_value l.shared_words).shared.table_id) l.seats.items;
      knows : l.opener.me ≡ (opening_view domains (drop l.domain domains), []);
      ports : map (λ s. s.ports) l.seats.items ≡ take l.domain domains;
      clear : All (λ s. seat_row s ≡ clear_row s.ports) l.seats.items;
    }
