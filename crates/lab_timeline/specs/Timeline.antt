-- The moment that is shown of a record.
use Rattle.std.specs.Prelude.{List}
use Rattle.plan_rules.specs.Data.{DomainData}
use Rattle.domain_core.specs.Moments.{MomentValue}
use Rattle.farm_records.specs.declared.line.RecordedCall.{RecordedCall}

-- what contracts see of a timeline: the plan and the calls of its record, and the moment that it shows
pub record TimelineValue : Type 0 where
  pub plan : List DomainData
  pub lines : List RecordedCall
  pub here : MomentValue
