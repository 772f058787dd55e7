-- How many commands of users a record has.
use Rattle.std.specs.Prelude.{◌≡◌, ℕ, ◌+◌, ◌-◌, ◌^◌, min, Bool, List, length, filter}
use Rattle.domain_core.specs.declared.copying.Mark.{Mark}
use Rattle.domain_core.specs.declared.journal.Entry.{Entry}
use Rattle.domain_core.specs.Commands.{is_command}
use Rattle.domain_core.specs.Journal.{AnsweredCall, expanded}
use Rattle.domain_core.specs.Marks.{events_from}

-- what was asked is a command, for which users ask
abbrev pub asks_command : AnsweredCall → Bool
asks_command a = is_command a.call.event

-- how many commands a history has
abbrev pub commands_in : List AnsweredCall → ℕ
commands_in history = length (filter asks_command history)

-- how many commands are among what entries stand for
abbrev pub commands_among : List Entry → ℕ
commands_among entries = commands_in (expanded entries)

-- a number as 64 bits count it, which stop at the greatest number that they have
abbrev pub saturated : ℕ → ℕ
saturated number = min number (2 ^ 64 - 1)

-- this is how many commands of a journal come before a mark: with those after the mark they are all that it has
abbrev pub IsCountBefore : List Entry → Mark → ℕ → Type 0
IsCountBefore journal mark commands = commands + commands_in (events_from mark journal) ≡ commands_among journal
