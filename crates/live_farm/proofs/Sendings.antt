-- What was read of a line and what was sent of it: the contract of `Dispatcher::take_line`.
use Rattle.std.proofs.Common.{ℕ, List, Option, Some, None, Ok, Err}
use Rattle.std.specs.Prelude.{IfSome, OnOk, Result}
use Rattle.script_text.specs.declared.input_line.InputLine.{InputLine}
use Rattle.script_text.specs.InputLines.{IsNextLine}
use Rattle.live_farm.specs.declared.fate.LineFate.{LineFate}
use Rattle.live_farm.specs.declared.line_counts.LineCounts.{LineCounts}
use Rattle.live_farm.specs.Fates.{IsFate}
use Rattle.live_farm.specs.LineCounts.{IsCounted}
use Rattle.live_farm.specs.Sending.{SenderSays, IsFateSent, IsNextSent}

-- a line that was read, what becomes of it, its number and what was sent, as one
pub next_sent : {U X E : Type 0} (was_sent : SenderSays U) (sender : U) (names : List (List ℕ)) (count most : ℕ)
    (before after : LineCounts) (text : Option (List ℕ)) (read : InputLine) (f : LineFate) (number : ℕ)
    (outcome : Result X E)
    → IfSome text (λ t. IsNextLine t most read) → IsFate names read f → IsCounted f before after number
    → OnOk outcome (IsFateSent was_sent sender count number f)
    → OnOk outcome (IfSome text (IsNextSent was_sent sender names count most before after))
next_sent was_sent sender names count most before after None read f number (Ok x) next becomes counted sent = tt
next_sent was_sent sender names count most before after (Some t) read f number (Ok x) next becomes counted sent =
    record {
      read = read;
      fate = f;
      number = number;
      next = next;
      becomes = becomes;
      counted = counted;
      sent = sent;
    }
next_sent was_sent sender names count most before after text read f number (Err e) next becomes counted sent = tt
