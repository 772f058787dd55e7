-- What the record of a domain kept that threads share.
use Rattle.std.specs.Prelude.{◌≤◌, ℕ, Bool, false, List, Option}
use Rattle.plan_rules.specs.Data.{DomainData}
use Rattle.record_keeping.specs.declared.domain_record.DomainRecord.{DomainRecord}
use Rattle.record_keeping.specs.Keeping.{KeepsGained}

-- under a lock there was a record that kept what the journal of a domain of this number gained, and then it counted at
-- least this number of commands since that journal began
pub record HasKept {S : Type 0} (g : _) (whole : S → Option (List ℕ)) (plan : List DomainData) (number asked : ℕ)
    : Type 0 where
  pub anew : Bool
  pub old : DomainRecord S g
  pub new : DomainRecord S g
  pub gained : KeepsGained whole plan number anew false old new
  pub commands : asked ≤ new.commands
