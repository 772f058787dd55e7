use Rattle.farm_records.proofs.Histories.{beginnings_are_records}
use Rattle.farm_records.proofs.laws.beginnings_are_records.Goals as goal

pub returns : goal.returns
returns c = record { law = beginnings_are_records }
