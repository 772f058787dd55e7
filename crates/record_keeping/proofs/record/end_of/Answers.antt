use Rattle.std.proofs.Common.{◌∙◌, ap, zero-add, rules}
use Rattle.record_keeping.specs.Counts.{commands_in}
use Rattle.record_keeping.proofs.record.end_of.Goals as goal

pub loop-init : goal.loop-init
loop-init c = record {
  counted = zero-add _ ∙ ap commands_in (c.start.ensures.all c.args.journal.now.entries);
  places = search rules;
}
