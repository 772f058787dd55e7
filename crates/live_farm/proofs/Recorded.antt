-- What the record of a domain kept that threads share: the contract of `SharedRecord::keep`.
use Rattle.std.proofs.Common.{◌≤◌, ℕ, Bool, false, List, Option, Ok, Err}
use Rattle.std.specs.Prelude.{OnOk, Result}
use Rattle.plan_rules.specs.Data.{DomainData}
use Rattle.record_keeping.specs.declared.domain_record.DomainRecord.{DomainRecord}
use Rattle.record_keeping.specs.Keeping.{KeepsGained}
use Rattle.live_farm.specs.Kept.{HasKept}

-- what a call of the record says that is under a lock, it says of some record there
pub kept_there : {X E S : Type 0} (g : _) (whole : S → Option (List ℕ)) (plan : List DomainData)
    (number asked : ℕ) (anew : Bool) (old new : DomainRecord S g) (outcome : Result X E)
    → OnOk outcome (KeepsGained whole plan number anew false old new)
    → OnOk outcome (asked ≤ new.commands)
    → OnOk outcome (HasKept g whole plan number asked)
kept_there g whole plan number asked anew old new (Ok x) gained commands =
    record { anew = anew; old = old; new = new; gained = gained; commands = commands }
kept_there g whole plan number asked anew old new (Err e) gained commands = tt
