-- What is taken of the lines that wait for a domain's thread.
use Rattle.std.specs.Prelude.{◌≡◌, List, [], ◌∷◌}
use Rattle.live_farm.specs.declared.queued.QueuedLine.{QueuedLine}
use Rattle.live_farm.specs.declared.mailbox.Mail.{Mail}
use Rattle.live_farm.specs.declared.mailbox.Mail.TheVariants as mail

-- the line that waits for the longest is taken, and the others stay; of none, that there are no more
abbrev pub IsFirst : Mail → List QueuedLine → List QueuedLine → Type 0
IsFirst taken [] after = (taken ≡ mail.End) × (after ≡ [])
IsFirst taken (queued ∷ others) after = (taken ≡ mail.Line queued) × (after ≡ others)
