use Rattle.farm_records.proofs.Histories.{records_are_histories}
use Rattle.farm_records.proofs.laws.records_are_histories.Goals as goal

pub returns : goal.returns
returns c = record { law = records_are_histories }
