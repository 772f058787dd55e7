use Rattle.record_following.proofs.Followed.{moment_on}
use Rattle.record_following.proofs.laws.moments_go_on.Goals as goal

pub returns : goal.returns
returns c = record { law = moment_on }
