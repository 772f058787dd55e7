-- The messages to a node that boots. Transputer Reference Manual, bootstrapping, peek and poke.
use Rattle.std.specs.Prelude.{◌≡◌, ℕ, ◌/◌, ◌%◌, ◌^◌, ◌<◌, ◌≤◌, List, [], ◌∷◌, ◌++◌, length, nat_lt, if◌then◌else◌}
use Rattle.std.specs.Prelude.{Option, Some, None, Result, Ok, Err, Vec}
use Rattle.std.specs.declared.alloc.Global.{Global}
use Rattle.bootstrap.specs.declared.messages.BootFault.{BootFault}
use Rattle.bootstrap.specs.declared.messages.BootFault.TheVariants.{TooShort, TooLong, NoMemory}

-- the bytes of a word, least significant first
abbrev pub bytes_of_word : ℕ → List ℕ
bytes_of_word w = w % 2 ^ 8 ∷ w / 2 ^ 8 % 2 ^ 8 ∷ w / 2 ^ 16 % 2 ^ 8 ∷ w / 2 ^ 24 % 2 ^ 8 ∷ []

-- the message that stores a word at an address: 0, the address and the word
abbrev pub poke_bytes : ℕ → ℕ → List ℕ
poke_bytes address word = 0 ∷ bytes_of_word address ++ bytes_of_word word

-- the message that loads code and runs it: the length, and the code
abbrev pub boot_bytes : List ℕ → List ℕ
boot_bytes code = length code ∷ code

-- why code of this many bytes has no message, if its length is why: a first byte of 0 begins a poke and one of 1 a
-- peek, so code has at least 2 bytes, and it has at most 255, since their number is a byte
abbrev pub length_fault : ℕ → Option BootFault
length_fault count = if nat_lt count 2 then Some TooShort else (if nat_lt 255 count then Some TooLong else None)

-- code of 2 to 255 bytes has its message, and a refusal has its cause
abbrev pub booted : Result (Vec ℕ Global) BootFault → List ℕ → Type 0
booted (Ok message) code = (message.items ≡ boot_bytes code) × ((2 ≤ length code) × (length code ≤ 255))
booted (Err TooShort) code = length code < 2
booted (Err TooLong) code = 255 < length code
booted (Err NoMemory) code = (2 ≤ length code) × (length code ≤ 255)

-- the number of a refusal of code
abbrev pub boot_fault_number : BootFault → ℕ
boot_fault_number TooShort = 1
boot_fault_number TooLong = 2
boot_fault_number NoMemory = 3
