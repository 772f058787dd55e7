use Rattle.t414_assembly.proofs.Reassembling.{same_code}
use Rattle.t414_assembly.proofs.laws.reassembled_code_is_the_same.Goals as goal

pub returns : goal.returns
returns c = same_code
