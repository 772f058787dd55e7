-- An entry of a journal in words, which are our own: who asked, what, and the reply.
use Rattle.std.specs.Prelude.{List, ℕ, ◌++◌, codes}
use Rattle.std.specs.Fmt.{decimal}
use Rattle.domain_core.specs.declared.journal.Entry.{Entry}
use Rattle.domain_core.specs.declared.journal.Entry.TheVariants.{One, Run}
use Rattle.event_text.specs.Events.{user_text, event_text}
use Rattle.answer_text.specs.Replies.{reply_text, stepped_text}

-- one event; or Steps of a node that are one entry: how many, and what the last of them came to
abbrev pub entry_text : Entry → List ℕ
entry_text (One by event reply) = user_text by ++ codes " " ++ event_text event ++ codes ": " ++ reply_text reply
entry_text (Run by node count last) =
    user_text by ++ codes " run " ++ decimal node ++ codes " " ++ decimal count ++ codes ": " ++ stepped_text last
