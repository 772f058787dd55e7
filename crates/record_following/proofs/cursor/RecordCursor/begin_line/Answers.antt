use Rattle.std.proofs.Common.{refl, None}
use Rattle.domain_core.specs.declared.event.By.TheVariants.{User}
use Rattle.domain_core.specs.declared.event.Event.TheVariants.{Config}
use Rattle.record_following.specs.declared.line.RecordedLine.{RecordedLine}
use Rattle.record_following.proofs.Led.{line_begun}
use Rattle.record_following.proofs.cursor.RecordCursor.begin_line.Goals as goal

pub returns-clause-cursor : goal.returns-clause-cursor
returns-clause-cursor c = λ plan was.
    let none : RecordedLine =
    record { number = 0; call = record { times = 0; by = User 0; event = Config 0 }; answer = None } in
    line_begun plan c.args.lines.now c.args.self.now _ none was c.requires.rest c.requires.next refl refl refl
