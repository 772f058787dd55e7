-- What reads, writes and copies have to do with one another.
use Rattle.std.specs.Prelude.{◌≡◌, ◌≢◌, ℕ, ◌+◌, ◌/◌, ◌%◌, ◌^◌, ◌<◌, ◌↔◌, List, length, Ok, Err}
use Rattle.node_memory.specs.Words.{aligned}
use Rattle.node_memory.specs.Bytes.{byte_at, with_byte, word_at, with_word, copied}
use Rattle.node_memory.specs.declared.fault.Fault.{Fault}
use Rattle.node_memory.specs.declared.fault.Fault.TheVariants.{OutsideMemory}

-- a word that was written is read
abbrev pub WordIsRead : Type 0
WordIsRead = (m n : List ℕ) (a w : ℕ) → w < 2 ^ 32 → with_word m a w ≡ Ok n → word_at n a ≡ Ok w

-- by every address that lies in it
abbrev pub WordHasFourAddresses : Type 0
WordHasFourAddresses = (m : List ℕ) (a b : ℕ) → a / 4 ≡ b / 4 → word_at m a ≡ word_at m b

-- every other word stays
abbrev pub OtherWordsStay : Type 0
OtherWordsStay =
    (m n : List ℕ) (a b w : ℕ) → a / 4 ≢ b / 4 → with_word m a w ≡ Ok n → word_at n b ≡ word_at m b

-- a write of a word meets a fault exactly if a read of it does
abbrev pub WriteFaultsAsRead : Type 0
WriteFaultsAsRead = (m : List ℕ) (a w : ℕ) (f : Fault) → (with_word m a w ≡ Err f) ↔ (word_at m a ≡ Err f)

-- a word that was written lies there as four bytes, the least significant first
abbrev pub WordIsFourBytes : Type 0
WordIsFourBytes = (m n : List ℕ) (a w : ℕ) → with_word m a w ≡ Ok n →
    (byte_at n (aligned a) ≡ Ok (w % 2 ^ 8))
    × (byte_at n (aligned a + 1) ≡ Ok (w / 2 ^ 8 % 2 ^ 8))
    × (byte_at n (aligned a + 2) ≡ Ok (w / 2 ^ 16 % 2 ^ 8))
    × (byte_at n (aligned a + 3) ≡ Ok (w / 2 ^ 24 % 2 ^ 8))

-- a byte that was written is read
abbrev pub ByteIsRead : Type 0
ByteIsRead = (m n : List ℕ) (a x : ℕ) → with_byte m a x ≡ Ok n → byte_at n a ≡ Ok x

-- every other byte stays
abbrev pub OtherBytesStay : Type 0
OtherBytesStay = (m n : List ℕ) (a b x : ℕ) → a ≢ b → with_byte m a x ≡ Ok n → byte_at n b ≡ byte_at m b

-- no write of a word changes how many bytes there are
abbrev pub WordKeepsTheSize : Type 0
WordKeepsTheSize = (m n : List ℕ) (a w : ℕ) → with_word m a w ≡ Ok n → length n ≡ length m

-- the same of a byte
abbrev pub ByteKeepsTheSize : Type 0
ByteKeepsTheSize = (m n : List ℕ) (a x : ℕ) → with_byte m a x ≡ Ok n → length n ≡ length m

-- the same of a copy
abbrev pub CopyKeepsTheSize : Type 0
CopyKeepsTheSize = (count : ℕ) (m : List ℕ) (from to : ℕ) → length (copied count m from to).1 ≡ length m

-- a copy of more bytes than memory has stops at its edge
abbrev pub CopyStopsAtTheEdge : Type 0
CopyStopsAtTheEdge = (count : ℕ) (m : List ℕ) (from to : ℕ) → length m < count →
    (copied count m from to).0 ≡ Err OutsideMemory
