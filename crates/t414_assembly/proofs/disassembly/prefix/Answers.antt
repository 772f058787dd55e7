use Rattle.std.proofs.Common.{◌∙◌}
use Rattle.t414_assembly.proofs.Nibbles.{usual_byte}
use Rattle.t414_assembly.proofs.disassembly.prefix.Goals as goal

pub returns : goal.returns
returns c =
    usual_byte c.args.byte c.decode-function.result.0 c.from.result c.ranges.byte.fits
    c.decode-function.ensures.function (c.from.ensures ∙ c.decode-function.ensures.nibble)
