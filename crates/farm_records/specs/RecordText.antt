-- The record of a domain: a line for each event, or for Steps that were answered alike, with the answer that was given.
-- `lab rows` reads such lines (docs/LAB.md); the domain is the only one of its plan, so its number is 0.
use Rattle.std.specs.Prelude.{ℕ, zero, suc, List, [], ◌∷◌, ◌++◌, codes, replicate, nat_lt, if◌then◌else◌}
use Rattle.std.specs.List.{flat_map}
use Rattle.std.specs.Fmt.{decimal}
use Rattle.t414_step.specs.declared.stepping.Stepped.{Stepped}
use Rattle.t414_step.specs.declared.stepping.Stepped.TheVariants as stepped
use Rattle.domain_core.specs.declared.event.By.{By}
use Rattle.domain_core.specs.declared.journal.Entry.{Entry}
use Rattle.domain_core.specs.declared.journal.Entry.TheVariants.{One, Run}
use Rattle.domain_core.specs.Journal.{AnsweredCall, answered_step}
use Rattle.event_text.specs.Events.{user_text, event_text}
use Rattle.answer_text.specs.Replies.{reply_text}
use Rattle.domain_core.specs.declared.event.Reply.{Reply}
use Rattle.farm_records.specs.declared.line.RecordedCall.{RecordedCall}

-- a call that was made `times` times, one after another, and answered alike each time
pub record RecordLine : Type 0 where
  pub times : ℕ
  pub answered : AnsweredCall

-- the line of a call with this answer
abbrev pub line_of_call : RecordedCall → Reply → RecordLine
line_of_call call reply = record {
  times = call.times;
  answered = record { call = record { by = call.by; event = call.event }; reply = reply };
}

-- this text if the number is more than one, else nothing
abbrev pub if_several : ℕ → List ℕ → List ℕ
if_several times text = if nat_lt 1 times then text else []

-- `0 step 2 @farm = ran`, or `3 times 0 step 2 @farm = 3 ran`
abbrev pub record_line_text : RecordLine → List ℕ
record_line_text l =
    if_several l.times (decimal l.times ++ codes " times ")
    ++ codes "0 " ++ event_text l.answered.call.event ++ codes " " ++ user_text l.answered.call.by
    ++ codes " = " ++ if_several l.times (decimal l.times ++ codes " ") ++ reply_text l.answered.reply
    ++ codes "\n"

-- the text of lines
abbrev pub record_text : List RecordLine → List ℕ
record_text lines = flat_map record_line_text lines

-- the history that a line stands for
abbrev pub line_history : RecordLine → List AnsweredCall
line_history l = replicate l.times l.answered

-- the history that lines stand for
abbrev pub record_history : List RecordLine → List AnsweredCall
record_history lines = flat_map line_history lines

-- Steps that all ran
abbrev pub ran_lines : By → ℕ → ℕ → List RecordLine
ran_lines by node zero = []
ran_lines by node (suc more) = record { times = suc more; answered = answered_step by node stepped.Ran } ∷ []

-- Steps of a node: the last one came to `last`, and those before it ran
abbrev pub run_lines : By → ℕ → ℕ → Stepped → List RecordLine
run_lines by node zero last = []
run_lines by node (suc more) stepped.Ran = ran_lines by node (suc more)
run_lines by node (suc more) last =
    ran_lines by node more ++ record { times = 1; answered = answered_step by node last } ∷ []

-- the lines of an entry of a journal
abbrev pub entry_lines : Entry → List RecordLine
entry_lines (One by event reply) =
    record { times = 1; answered = record { call = record { by = by; event = event }; reply = reply } } ∷ []
entry_lines (Run by node count last) = run_lines by node count last

-- the lines of entries of a journal
abbrev pub lines_of : List Entry → List RecordLine
lines_of entries = flat_map entry_lines entries
