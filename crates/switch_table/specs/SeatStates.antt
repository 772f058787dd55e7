-- What contracts see of a domain's seat, and what is true of each.
use Rattle.std.specs.Prelude.{◌≡◌, ℕ, List, [], ◌∷◌, length}
use Rattle.atomic_table.specs.Seated.{TableId}
use Rattle.atomic_table.specs.Table.{Me}
use Rattle.crossbar.specs.Row.{IsRow}
use Rattle.switch_table.specs.Rule.{view_row}
use Rattle.switch_table.specs.declared.view.View.{View}

-- its table, what it knows of it, and its domain's ports in the order of their virtual numbers
pub record SeatState : Type 0 where
  pub table : TableId
  pub view : View
  pub ports : List ℕ

-- it belongs to the table of its board, holds its domain alone, and its words are a row
pub record IsSeated (shared_words seat : TableId) (me : Me (Unit {0}) View) (ports : List ℕ) : Type 0 where
  pub here : seat ≡ shared_words
  pub wide : seat.words ≡ 32
  pub view_wide : length me.0.words ≡ 32
  pub holds_its_domain : me.0.held ≡ ports ∷ []
  pub takes_no_slot : me.1 ≡ []
  pub row : IsRow (view_row me.0 ports)
