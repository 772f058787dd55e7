use Rattle.occam_core.proofs.InnerMessages.{assigned_by_message}
use Rattle.occam_core.proofs.laws.messages_assign.Goals as goal

pub returns : goal.returns
returns c = record { law = assigned_by_message }
