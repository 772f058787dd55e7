use Rattle.std.proofs.Common.{◌≡◌, ◌∙◌, ap, map, subst, List}
use Rattle.std.specs.Prelude.{IfOk}
use Rattle.clap.specs.Words.{App, Row, app_of, found_of, is_simple, matches_of, rows_of}
use Rattle.live_lines.specs.LiveSettings.{AreSettingsIn, live_command}
use Rattle.live_lines.proofs.CommandLine.{live_is_simple}
use Rattle.live_lines.proofs.command_line.live_settings.Goals as goal

pub returns-clause-said : goal.returns-clause-said
returns-clause-said g c =
    let is : app_of c.in_ok-live_command.field-0 ≡ live_command = c.in_ok-live_command.ensures in
    let words = map g.S.AsStr.text c.args.words.now in
    let rows : rows_of (found_of c.in_ok-matches.matches) ≡ matches_of live_command words =
    (c.in_ok-matches.ensures.matches (ap is_simple is ∙ live_is_simple)).0
    ∙ ap (λ (a : App). matches_of a words) is in
    subst (λ (rs : List Row). IfOk c.settings_in.result (AreSettingsIn rs)) rows c.settings_in.ensures.said
