-- The 64 bits that a switch keeps of an output.
use Rattle.std.specs.Prelude.{◌≡◌, ◌≢◌, ℕ, ◌+◌, ◌-◌, ◌*◌, ◌/◌, ◌%◌, ◌^◌, ◌<◌, ◌⊎◌, Option, Some, None, if◌then◌else◌, ◌==◌, min, MatchBool}
use Rattle.crossbar.specs.declared.word.Word.{Word}
use Rattle.crossbar.specs.declared.word.Connection.{Connection}

-- the greatest change count, at which it stays
abbrev pub most_changes : ℕ
most_changes = 2 ^ 56 - 1

-- bits 0 to 7 of a word that says so: bit 7 connected, bit 6 ready, bits 0 to 4 the input
abbrev pub low_byte : Option Connection → ℕ
low_byte None = 0
low_byte (Some connection) = 128 + (if connection.ready then 64 else 0) + connection.input

-- what drives the output, and whether it is ready
abbrev pub connection_of : Word → Option Connection
connection_of word =
    if word.bits / 128 % 2 == 1 then Some (record { input = word.bits % 32; ready = word.bits / 64 % 2 == 1 }) else None

-- how often bits 0 to 7 have changed
abbrev pub changes_of : Word → ℕ
changes_of word = word.bits / 256

-- bits 0 to 7 are exactly those of what the word says
abbrev pub IsProper : Word → Type 0
IsProper word = word.bits % 256 ≡ low_byte (connection_of word)

-- the word once this is set: it stays if bits 0 to 7 stay, and else the count rises by one
abbrev pub word_after : Word → Option Connection → Word
word_after word connection =
    if word.bits % 256 == low_byte connection then word
    else record { bits = 256 * min (changes_of word + 1) most_changes + low_byte connection }

-- a store is made only if bits 0 to 7 change
abbrev pub SaysOther : Word → Word → Type 0
SaysOther old new = new.bits % 256 ≢ old.bits % 256

-- the count is greater, or the words are one, or both counts stay at the greatest
abbrev pub IsAtLeastAsNew : Word → Word → Type 0
IsAtLeastAsNew new old =
    (changes_of old < changes_of new) ⊎ (new ≡ old)
    ⊎ ((changes_of new ≡ most_changes) × (changes_of old ≡ most_changes))

-- if bits 0 to 7 change the count rises by one up to the greatest, and else the word stays
abbrev pub CountsChange : Word → Word → Type 0
CountsChange old new =
    MatchBool (old.bits % 256 == new.bits % 256) (new ≡ old)
    (changes_of new ≡ min (changes_of old + 1) most_changes)
