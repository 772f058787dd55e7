use Rattle.std.proofs.Common.{◌≡◌}
use Rattle.script_lines.specs.declared.fault.LineFault.TheVariants.{Hex}
use Rattle.script_lines.proofs.Readings.{spelling_is_utf8}
use Rattle.script_lines.proofs.numbers.parse_bytes.Goals as goal

pub returns-in_default-clause-fault : goal.returns-in_default-clause-fault
returns-in_default-clause-fault c = λ f told.
    let same : f ≡ Hex = cc told in
    (same, λ bytes spells. c.in_default.ensures.cases.0 (spelling_is_utf8 c.args.word.now bytes spells))
