-- What an operation on outputs keeps, whatever else it does.
use Rattle.std.specs.Prelude.{◌≡◌}
use Rattle.std.specs.List.{AllZip}
use Rattle.crossbar.specs.Row.{Row, IsRow}
use Rattle.crossbar.specs.Word.{CountsChange}

-- the ports stay, what is left is a row, and each word that changes counts its change once
pub record IsKept (old new : Row) : Type 0 where
  pub same_ports : new.ports ≡ old.ports
  pub row : IsRow new
  pub counts : AllZip CountsChange old.words new.words
