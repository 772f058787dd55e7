use Rattle.std.proofs.Common.{sym, ap, subst}
use Rattle.std.specs.List.{AllZip}
use Rattle.crossbar.specs.Row.{Row}
use Rattle.crossbar.specs.Word.{CountsChange}
use Rattle.virtual_switch.proofs.perform.perform.Goals as goal

pub returns-in-Enquire-clause-kept : goal.returns-in-Enquire-clause-kept
returns-in-Enquire-clause-kept g c = record {
  same_ports = ap (λ (r : Row). r.ports) c.enquire.ensures.unchanged;
  row = c.enquire.ensures.row;
  counts =
      let row = g.O.Outputs.seen c.args.outputs.now in
      subst (λ (r : Row). AllZip CountsChange row.words r.words) (sym c.enquire.ensures.unchanged)
      (c.unchanged_words_count_nothing.ensures.unchanged row.words);
}
