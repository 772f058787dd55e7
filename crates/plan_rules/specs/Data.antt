-- What a plan says of its domains.
use Rattle.std.specs.Prelude.{ℕ, ℤ, List}
use Rattle.plan_rules.specs.declared.plan.NodePlan.{NodePlan}
use Rattle.plan_rules.specs.declared.plan.RangePlan.{RangePlan}

-- a user of a domain: the bytes of the user's name, and the virtual ports of the user's hosts
pub record UserData : Type 0 where
  pub name : List ℕ
  pub hosts : List ℤ

-- a domain of a plan
pub record DomainData : Type 0 where
  pub users : List UserData
  pub ranges : List RangePlan
  pub limit : ℤ
  pub nodes : List NodePlan
