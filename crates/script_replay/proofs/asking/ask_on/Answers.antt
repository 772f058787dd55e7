use Rattle.std.proofs.Common.{◌≡◌, List, [], ◌∷◌, ◌++◌, Some, true, false, sym, ap, ◌∙◌}
use Rattle.std.proofs.lemmas.Bool.{false≢true}
use Rattle.domain_core.specs.declared.event.AnsweredCommand.{AnsweredCommand}
use Rattle.line_answers.specs.Asks.{is_read, next_event}
use Rattle.script_replay.proofs.Exchanges.{asks_more, still_unread, told_of}
use Rattle.script_replay.proofs.asking.ask_on.Goals.{else-stops_to_read-via-then-stops_to_read+else-is_read}
use Rattle.script_replay.proofs.asking.ask_on.Goals.{else-stops_to_read-via-else-stops_to_read}
use Rattle.script_replay.proofs.asking.ask_on.Goals as goal

pub loop-preserved : goal.loop-preserved
loop-preserved c =
    let l = c.loop in
    let command = c.args.line.now.command in
    let next : next_event command l.told.items ≡ Some c.in-Some.event =
    ap (next_event command) (sym c.as_slice.ensures.value) ∙ sym c.next_event.ensures ∙ c.in-Some.is in
    let list = c.push_reserved.ensures.items
    ∙ ap (λ (xs : List AnsweredCommand). xs ++ told_of c.in-Some.event c.in_ok-reply.reply ∷ [])
    c.reserve.ensures.items in
    let unread : c.args.stops_to_read ≡ true → is_read c.in-Some.event ≡ false =
    λ stop. elim c.else-stops_to_read.branch [
      | else-stops_to_read-via-then-stops_to_read+else-is_read w ↦
          sym w.is_read.ensures ∙ w.if-is_read.false
      | else-stops_to_read-via-else-stops_to_read w ↦
          absurd (false≢true (sym w.if-stops_to_read.false ∙ stop))
    ] in (
      asks_more c.runs_add_up.ensures.law c.args.line.now c.args.told.now.items l.told.items
          c.push_reserved.new.self.items
          c.args.farm.now.farm l.farm.farm c.ask.new.self.farm c.in-Some.event c.in_ok-reply.reply l.invariant.0
          next list c.in_ok-reply.ensures.call,
      still_unread c.args.told.now.items l.told.items c.push_reserved.new.self.items c.in-Some.event
          c.in_ok-reply.reply c.args.stops_to_read l.invariant.1 list unread,
    )
