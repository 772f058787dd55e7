-- Names of users that are compared one after another: the contract of `are_named_alike`.
use Rattle.std.specs.Prelude.{◌≡◌, ◌<◌, ℕ, List, Some, slice_get}
use Rattle.plan_rules.specs.Data.{UserData}

-- users of this number have the same name
abbrev pub IsNamedAlike : ℕ → List UserData → List UserData → Type 0
IsNamedAlike user us ws = (u w : UserData) → slice_get us user ≡ Some u → slice_get ws user ≡ Some w → u.name ≡ w.name

-- users of each number below this one have the same name
abbrev pub AreNamedAlikeBelow : ℕ → List UserData → List UserData → Type 0
AreNamedAlikeBelow count us ws = (user : ℕ) → user < count → IsNamedAlike user us ws
