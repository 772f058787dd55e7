-- What a domain takes from a reader of its record.
use Rattle.std.specs.Prelude.{◌≡◌, ◌++◌, ◌<◌, ℕ, Bool, true, false, List, length, Option, IfSome}
use Rattle.std.specs.Io.KnownBytes.{Consumes}
use Rattle.domain_core.specs.Domain.{DomainValue}
use Rattle.farm_records.specs.declared.reading.Redone.{Redone}
use Rattle.farm_records.specs.declared.reading.Redone.TheVariants.{Beginning, Lines}
use Rattle.farm_records.specs.Records.{RedoesLines}

-- all that a reader had, if that is known
abbrev pub IsAllOf : List ℕ → Option (List ℕ) → Type 0
IsAllOf bytes known = IfSome known (λ all. all ≡ bytes)

-- a reader had no more than the beginning of a head, which isn't whole
pub record HasBeginning (known : Option (List ℕ)) (head : List ℕ) : Type 0 where
  pub bytes : List ℕ
  pub rest : List ℕ
  pub all : IsAllOf bytes known
  pub parts : head ≡ bytes ++ rest
  pub shorter : length bytes < length head

-- the whole head was taken; or a reader had no more than a beginning of one
abbrev pub TakesHead : Option (List ℕ) → Option (List ℕ) → List ℕ → Bool → Type 0
TakesHead before after head true = Consumes before after head
TakesHead before after head false = HasBeginning before head

-- a reader had nothing but lines that the domain did again, and `torn` bytes after the last line feed
pub record TakesLines (known : Option (List ℕ)) (torn : ℕ) (old new : DomainValue) : Type 0 where
  pub bytes : List ℕ
  pub behind : List ℕ
  pub all : IsAllOf bytes known
  pub redone : RedoesLines bytes behind old new
  pub torn_is : length behind ≡ torn

-- a reader had nothing but a head, and then such lines
pub record TakesAll (known : Option (List ℕ)) (head : List ℕ) (torn : ℕ) (old new : DomainValue) : Type 0 where
  pub bytes : List ℕ
  pub behind : List ℕ
  pub all : IsAllOf (head ++ bytes) known
  pub redone : RedoesLines bytes behind old new
  pub torn_is : length behind ≡ torn

-- what a reader had, and what that did to the domain
abbrev pub TakesRecord : Option (List ℕ) → List ℕ → Redone → DomainValue → DomainValue → Type 0
TakesRecord known head Beginning old new = (new ≡ old) × HasBeginning known head
TakesRecord known head (Lines torn) old new = TakesAll known head torn old new
