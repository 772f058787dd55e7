-- The record of a domain after the lines of a script.
use Rattle.std.specs.Prelude.{◌≡◌, ◌++◌, ℕ, List, [], slice_get}
use Rattle.std.specs.Option.{unwrap_or}
use Rattle.plan_rules.specs.Data.{DomainData}
use Rattle.domain_core.specs.Domain.{DomainValue}
use Rattle.farm_core.specs.PlainFarm.{journal_there}
use Rattle.farm_records.specs.Heads.{IsHead}
use Rattle.farm_records.specs.RecordText.{record_text, lines_of}

-- a record has the head of the domain of this number, and after it the lines of the domain's journal
pub record IsRecord (plan : List DomainData) (number : ℕ) (domains : List DomainValue) (text : List ℕ)
    : Type 0 where
  pub head : List ℕ
  pub is_head : IsHead plan number head
  pub is_text : text ≡ head ++ record_text (lines_of (unwrap_or (journal_there (slice_get domains number)) []))
