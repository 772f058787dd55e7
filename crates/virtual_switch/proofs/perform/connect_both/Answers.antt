use Rattle.std.proofs.Common.{◌≡◌, ◌∙◌, ℕ, Some, false, slice_index, ap, sym, subst}
use Rattle.std.specs.List.{AllZip}
use Rattle.crossbar.specs.declared.word.Connection.{Connection}
use Rattle.crossbar.specs.Word.{CountsChange}
use Rattle.crossbar.specs.Row.{Row, IsRow}
use Rattle.crossbar.specs.Switch.{connected}
use Rattle.virtual_switch.specs.Each.{row_connected}
use Rattle.virtual_switch.proofs.Numbered.{input_fits}
use Rattle.virtual_switch.proofs.perform.connect_both.Goals as goal

pub returns : goal.returns
returns g c =
    let row = g.O.Outputs.seen c.args.outputs.now in
    let first = c.args.first in
    let second = c.args.second in
    let words =
    c.connect-2.ensures.words ∙ ap (λ r. row_connected r second first) c.connect.ensures.words in
    let below = (subst IsRow c.connect.ensures.words c.connect.ensures.kept.row).below in
    record {
      words = words;
      switch = c.connect-2.ensures.switch ∙ ap (λ s. connected s second first) c.connect.ensures.switch;
      kept = record {
        same_ports = c.connect-2.ensures.kept.same_ports ∙ c.connect.ensures.kept.same_ports;
        row = c.connect-2.ensures.kept.row;
        counts =
            subst (λ (r : Row). AllZip CountsChange row.words r.words) (sym words)
            (c.both_count_once.ensures row.words second first _ _
            (input_fits _ (below first 0 c.requires.first))
            (input_fits _ (below second 0 c.requires.second))
            (λ (e : second ≡ first).
            ap (λ (v : ℕ). Some (let c : Connection = record { input = slice_index row.ports v; ready = false } in c))
            (sym e)));
      };
    }
