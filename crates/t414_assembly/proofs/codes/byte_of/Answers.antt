use Rattle.std.proofs.Common.{◌≡◌, ◌/◌, ◌+◌, ◌*◌, ap, ◌∙◌, arith}
use Rattle.t414_decode.specs.Codes.{function_of}
use Rattle.t414_assembly.proofs.codes.byte_of.Goals as goal

pub returns-clause-function : goal.returns-clause-function
returns-clause-function c =
    let e : (c.high_nibble.result * 16 + c.args.nibble) / 16 ≡ c.high_nibble.result = omega (arith, c.requires) in
    ap function_of e ∙ c.high_nibble.ensures.function
