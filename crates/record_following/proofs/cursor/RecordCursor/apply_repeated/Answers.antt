use Rattle.std.proofs.Common.{rules, refl}
use Rattle.record_following.specs.Following.{calls_said, MovesOn}
use Rattle.record_following.proofs.Led.{some_followed}
use Rattle.record_following.proofs.cursor.RecordCursor.apply_repeated.Goals as goal

pub returns-clause-cursor : goal.returns-clause-cursor
returns-clause-cursor c = λ lines plan was.
    let on : MovesOn c.args.self.now.replayed
    (calls_said (record c.args.self.now.rest { times = c.args.times })) c.apply_call.new.self =
    search rules in
    some_followed c.moments_go_on.ensures.law plan lines c.args.self.now _ c.args.times was c.requires refl refl on
