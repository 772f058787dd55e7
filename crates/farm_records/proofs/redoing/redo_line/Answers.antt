use Rattle.std.proofs.Common.{rules, ◌≡◌}
use Rattle.farm_records.specs.RecordText.{line_of_call, record_line_text}
use Rattle.farm_records.proofs.redoing.redo_line.Goals as goal

pub returns-in_ok-redo_known-in-Some : goal.returns-in_ok-redo_known-in-Some
returns-in_ok-redo_known-in-Some g c =
    let line = line_of_call c.in-Some.meaning.call c.in-Some.meaning.reply in
    let text : record_line_text line ≡ c.args.line.now = search rules in
    let redone = c.in_ok-redo_known-in-Some.ensures in
    record { line = line; some = redone.some; text = text; gains = redone.gains }
