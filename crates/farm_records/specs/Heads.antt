-- The head of a domain's record: a plan that has this domain alone, and the line `---`, as `lab rows` divides them
-- (docs/LAB.md).
use Rattle.std.specs.Prelude.{◌≡◌, ℕ, List, [], ◌∷◌, Some, slice_get}
use Rattle.script_text.specs.Lines.{IsDivided, plan_end}
use Rattle.plan_rules.specs.Data.{UserData, DomainData}
use Rattle.plan_rules.specs.Part.{part_of, physical_ports}
use Rattle.plan_checker.specs.Document.{IsPlan}

-- users of the same number have the same name
abbrev pub AreNamedAlike : List UserData → List UserData → Type 0
AreNamedAlike us ws =
    (user : ℕ) (u w : UserData) → slice_get us user ≡ Some u → slice_get ws user ≡ Some w
    → u.name ≡ w.name

-- the domains have the same part, the same physical ports, and users of the same names
pub record AreAlike (d e : DomainData) : Type 0 where
  pub part : part_of d ≡ part_of e
  pub ports : physical_ports d ≡ physical_ports e
  pub names : AreNamedAlike d.users e.users

-- a plan has one domain, like that of this number in another
pub record IsOnlyDomain (plan : List DomainData) (number : ℕ) (other : List DomainData) : Type 0 where
  pub alone : DomainData
  pub domain : DomainData
  pub only : other ≡ alone ∷ []
  pub there : slice_get plan number ≡ Some domain
  pub alike : AreAlike alone domain

-- the text is such a plan up to its first line `---`, and nothing comes after that line
pub record ReadsAs (text : List ℕ) (plan : List DomainData) : Type 0 where
  pub before : List ℕ
  pub divided : IsDivided text plan_end before []
  pub reads : IsPlan before plan

-- the text is the plan of the domain of this number alone, and the line `---` after it
pub record IsHead (plan : List DomainData) (number : ℕ) (text : List ℕ) : Type 0 where
  pub other : List DomainData
  pub reads : ReadsAs text other
  pub alone : IsOnlyDomain plan number other
