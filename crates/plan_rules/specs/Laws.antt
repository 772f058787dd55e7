-- What follows for the domains of a plan without a fault.
use Rattle.std.specs.Prelude.{List, All, AllPairs}
use Rattle.plan_rules.specs.Data.{DomainData}
use Rattle.plan_rules.specs.Separate.{IsSeparate}
use Rattle.plan_rules.specs.Part.{IsPart, part_of, IsNumbered, AreSeparate}

-- each domain numbers its ports one to one
abbrev pub SeparatePlansAreNumbered : Type 0
SeparatePlansAreNumbered = (plan : List DomainData) → IsSeparate plan → All IsNumbered plan

-- no two domains have a port in common
abbrev pub SeparatePlansShareNoPort : Type 0
SeparatePlansShareNoPort = (plan : List DomainData) → IsSeparate plan → AllPairs AreSeparate plan

-- each domain has a part, all of whose numbers are within their bounds
abbrev pub SeparatePlansHaveParts : Type 0
SeparatePlansHaveParts = (plan : List DomainData) → IsSeparate plan → All (λ d. IsPart (part_of d)) plan
