use Rattle.std.proofs.Common.{rules, ◌≡◌}
use Rattle.farm_records.specs.RecordText.{RecordLine, record_line_text}
use Rattle.farm_records.proofs.redoing.redo_new.Goals as goal

pub returns : goal.returns
returns g c =
    let call = c.in_ok-call.call in
    let line : RecordLine =
    record {
      times = call.times;
      answered = record { call = record { by = call.by; event = call.event }; reply = c.in_ok-reply.reply };
    } in
    let text : record_line_text line ≡ c.args.line.now = search rules in
    record { line = line; some = c.in_ok-reply.ensures.some; text = text; gains = c.in_ok-reply.ensures.gains }
