-- Byte after byte: what each of them leaves, with the words that it leaves.
use Rattle.std.specs.Prelude.{◌≡◌, ℕ, List, [], ◌∷◌, ◌++◌, Option, Some, None, false, length, slice_index, if◌then◌else◌}
use Rattle.std.specs.List.{AllZip}
use Rattle.c004_commands.specs.declared.message.Message.{Message}
use Rattle.c004_commands.specs.declared.message.Message.TheVariants.{Connect, ConnectBoth, Enquire, MakeReady, Clear, Disconnect, DisconnectBoth}
use Rattle.c004_commands.specs.Grammar.{Item, Command, Stray, item_of}
use Rattle.crossbar.specs.Row.{Row}
use Rattle.crossbar.specs.Changed.{row_after, row_each, ready_of}
use Rattle.crossbar.specs.Word.{CountsChange}
use Rattle.virtual_switch.specs.SwitchValue.{SwitchValue, private_of, row_of}
use Rattle.virtual_switch.specs.PrivateSwitch.{configured, all_told, are_below, ports_named, AnswersStream}
use Rattle.virtual_switch.specs.declared.reply.ConfigReply.{ConfigReply}

-- the switch of this row, with this rest
abbrev pub with_rest : Row → List ℕ → SwitchValue
with_rest row rest = record { ports = row.ports; words = row.words; rest = rest }

-- the ports stay, and each word that changes counts its change once
pub record KeepsPorts (old new : SwitchValue) : Type 0 where
  pub ports : new.ports ≡ old.ports
  pub counts : AllZip CountsChange old.words new.words

-- a byte is answered so, and leaves this
abbrev pub ConfiguresTo : SwitchValue → ℕ → ConfigReply → SwitchValue → Type 0
ConfiguresTo old byte reply new =
    record { reply = reply; switch = private_of new; rest = new.rest }
    ≡ configured (length old.ports) (private_of old) old.rest byte

-- bytes are answered so, one reply each, and leave this
abbrev pub AnswersBytes : SwitchValue → List ℕ → List ConfigReply → SwitchValue → Type 0
AnswersBytes old bytes replies new =
    AnswersStream (length old.ports) (private_of old) old.rest bytes replies (private_of new) new.rest

-- the same byte after byte
abbrev pub TellsAll : SwitchValue → List ℕ → List ConfigReply → SwitchValue → Type 0
TellsAll old bytes replies new =
    all_told (length old.ports) (private_of old) old.rest bytes
    ≡ record { replies = replies; switch = private_of new; rest = new.rest }

-- the row once a virtual input drives an output, which isn't ready
abbrev pub row_connected : Row → ℕ → ℕ → Row
row_connected row input output =
    row_after row output (Some (record { input = slice_index row.ports input; ready = false }))

-- the row after a message whose ports are there
abbrev pub row_performed : Row → Message → Row
row_performed row (Connect input output) = row_connected row input output
row_performed row (ConnectBoth first second) = row_connected (row_connected row first second) second first
row_performed row (Enquire output) = row
row_performed row MakeReady = row_each ready_of row
row_performed row Clear = row_each (λ connection. None) row
row_performed row (Disconnect output) = row_after row output None
row_performed row (DisconnectBoth first second) = row_after (row_after row first None) second None

-- the row after an item
abbrev pub row_after_item : Row → Item → Row
row_after_item row (Command message) =
    if are_below (length row.ports) (ports_named message) then row_performed row message else row
row_after_item row (Stray byte) = row

-- what a byte leaves, by the item that it ends
abbrev pub item_left : Row → List ℕ → Option Item → SwitchValue
item_left row bytes None = with_rest row bytes
item_left row bytes (Some item) = with_rest (row_after_item row item) []

-- the switch after a byte
abbrev pub switch_fed : SwitchValue → ℕ → SwitchValue
switch_fed seen byte = item_left (row_of seen) (seen.rest ++ byte ∷ []) (item_of (seen.rest ++ byte ∷ []))

-- one byte: the switch and the rest are those that it configures, and each word that changes counts its change once
abbrev pub IsFed : SwitchValue → ℕ → SwitchValue → Type 0
IsFed old byte new = ((reply : ConfigReply) × ConfiguresTo old byte reply new) × KeepsPorts old new

-- these bytes, one after another
abbrev pub AreFed : SwitchValue → List ℕ → SwitchValue → Type 0
AreFed old [] new = new ≡ old
AreFed old (byte ∷ bytes) new = IsFed old byte (switch_fed old byte) × AreFed (switch_fed old byte) bytes new
