use Rattle.std.proofs.Common.{◌∙◌, ap}
use Rattle.crossbar.specs.Row.{Row, switch_of}
use Rattle.crossbar.proofs.PlainRows.{unused_is_plain, unused_is_cleared}
use Rattle.crossbar.proofs.plain.PlainOutputs.new.Goals as goal

pub of-requires : goal.of-requires
of-requires c = unused_is_plain c.args.ranges c.requires

pub returns-clause-switch : goal.returns-clause-switch
returns-clause-switch c = ap (λ (r : Row). switch_of r.words) c.of.ensures ∙ unused_is_cleared c.args.ranges
