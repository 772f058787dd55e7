-- The numbers of refusals, in the order in which they are tested.
use Rattle.std.specs.Prelude.{ℕ}
use Rattle.domain_core.specs.declared.event.Refusal.{Refusal}
use Rattle.domain_core.specs.declared.event.Refusal.TheVariants.{NoSuch, JournalFull, NoMemory}

-- the number of a refusal
abbrev pub refusal_number : Refusal → ℕ
refusal_number NoSuch = 1
refusal_number JournalFull = 2
refusal_number NoMemory = 3
