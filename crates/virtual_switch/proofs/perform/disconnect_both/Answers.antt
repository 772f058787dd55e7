use Rattle.std.proofs.Common.{◌∙◌, ap, sym, subst, None, refl}
use Rattle.std.specs.List.{AllZip}
use Rattle.crossbar.specs.Row.{Row}
use Rattle.crossbar.specs.Changed.{row_after}
use Rattle.crossbar.specs.Switch.{disconnected}
use Rattle.crossbar.specs.Word.{CountsChange}
use Rattle.virtual_switch.proofs.Numbered.{no_input_fits}
use Rattle.virtual_switch.proofs.perform.disconnect_both.Goals as goal

pub returns : goal.returns
returns g c =
    let row = g.O.Outputs.seen c.args.outputs.now in
    let words =
    c.disconnect-2.ensures.words ∙ ap (λ r. row_after r c.args.second None) c.disconnect.ensures.words in
    record {
      words = words;
      switch = c.disconnect-2.ensures.switch ∙ ap (λ s. disconnected s c.args.second) c.disconnect.ensures.switch;
      kept = record {
        same_ports = c.disconnect-2.ensures.kept.same_ports ∙ c.disconnect.ensures.kept.same_ports;
        row = c.disconnect-2.ensures.kept.row;
        counts =
            subst (λ (r : Row). AllZip CountsChange row.words r.words) (sym words)
            (c.both_count_once.ensures row.words c.args.first c.args.second None None no_input_fits no_input_fits
            (λ e. refl));
      };
    }
