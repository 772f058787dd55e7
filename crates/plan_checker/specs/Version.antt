-- The numbers of the versions.
use Rattle.std.specs.Prelude.{ℤ, pos}
use Rattle.plan_checker.specs.declared.version.PlanVersion.{PlanVersion}
use Rattle.plan_checker.specs.declared.version.PlanVersion.TheVariants.{One, Two, Three}

-- the number that a plan gives as its version
abbrev pub version_number : PlanVersion → ℤ
version_number One = pos 1
version_number Two = pos 2
version_number Three = pos 3
