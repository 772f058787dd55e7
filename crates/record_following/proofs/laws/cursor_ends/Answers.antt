use Rattle.record_following.proofs.Led.{ends}
use Rattle.record_following.proofs.laws.cursor_ends.Goals as goal

pub returns : goal.returns
returns c = record { law = ends }
