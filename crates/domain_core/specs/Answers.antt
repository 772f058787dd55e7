-- What one caller is answered, whatever was asked before.
use Rattle.std.specs.Prelude.{◌≡◌, ◌++◌, List, [], ◌∷◌}
use Rattle.plan_rules.specs.Part.{PartData}
use Rattle.domain_core.specs.PrivateFarm.{Answer, Call, answers, opening}

-- a farm that holds the domain alone gives this answer last to some list of calls that ends with this one
pub record IsAnswer (part : PartData) (call : Call) (answer : Answer) : Type 0 where
  -- the calls before, and their answers
  pub calls : List Call
  pub told : List Answer
  pub last : answers part (opening part) (calls ++ call ∷ []) ≡ told ++ answer ∷ []
