use Rattle.std.proofs.Common.{tests, rules}
use Rattle.t414_decode.specs.Codes.{operation_of}
use Rattle.t414_decode.proofs.decoding.operation.Goals as goal

pub returns-in_default : goal.returns-in_default
unfolding operation_of
returns-in_default c = search (tests, rules)
