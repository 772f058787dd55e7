use Rattle.std.proofs.Common.{◌≡◌, [], ◌∷◌, length, refl, Some}
use Rattle.toml.specs.Data.{integer, string}
use Rattle.plan_rules.specs.Data.{UserData}
use Rattle.plan_checker.specs.Document.{list, hosts_of_first, name_of_first}
use Rattle.plan_checker.proofs.DocumentLemmas.{only_item}
use Rattle.plan_checker.proofs.read.only_user.Goals as goal

pub returns : goal.returns
returns c =
    only_item {Y = UserData} (λ us. length us ≡ 1)
    (λ us. Some (list integer (hosts_of_first us)) ∷ Some (string (name_of_first us)) ∷ []) _ _ _
    c.in_ok-user_of.ensures.0 refl c.list_of_one.ensures
