-- How the domains of a farm go on by calls, and what a line shows of that.
use Rattle.std.specs.Prelude.{◌≡◌, ℕ, List, IfSome, slice_get, All}
use Rattle.domain_core.specs.PrivateFarm.{Answer, Call, opening}
use Rattle.domain_core.specs.Domain.{DomainValue, state_of}
use Rattle.whole_farm.specs.Places.{Place}
use Rattle.whole_farm.specs.Whole.{Farm, whole_after, whole_opening}
use Rattle.whole_farm.specs.Domains.{IsMadeOf}
use Rattle.whole_farm.specs.Laws.{caller_answers_from}
use Rattle.whole_farm.specs.Values.{all_places, all_states, IsMadeOfDomains}
use Rattle.farm_core.specs.PlainFarm.{OthersStay}
use Rattle.farm_replay.specs.Plain.{Asked, Calls, Looks, Opens, Restarts, GoesOn, IsOfTheFarm, IsShownIn}

-- the whole farm answers calls so, and is then made of these domains
pub record IsRunTo (plan : List Place) (farm : Farm) (calls : List (ℕ × Call)) (told : List Answer)
    (new : List DomainValue) : Type 0 where
  pub told_is : told ≡ caller_answers_from plan farm calls
  pub made : IsMadeOf plan (whole_after plan farm calls) (all_states new)

-- the same of every whole farm that is made of the domains before
pub record HaveRun (old new : List DomainValue) (calls : List (ℕ × Call)) (told : List Answer) : Type 0 where
  pub places : all_places new ≡ all_places old
  pub each : (farm : Farm) → IsMadeOfDomains farm old → IsRunTo (all_places old) farm calls told new

-- the domains are those of an opened farm
pub record IsOpenedFarm (plan : List Place) (domains : List DomainValue) : Type 0 where
  pub places : all_places domains ≡ plan
  pub made : IsMadeOf plan (whole_opening plan) (all_states domains)

-- the domains have gone on by Steps and Moves of one of them, for which the farm asked, whatever they were answered
pub record HasGoneOn (domain : ℕ) (old new : List DomainValue) : Type 0 where
  pub calls : List (ℕ × Call)
  pub told : List Answer
  pub run : HaveRun old new calls told
  pub farms : All (IsOfTheFarm domain) calls

-- what the domain stands for is its opening
abbrev pub IsAsOpened : DomainValue → Type 0
IsAsOpened d = state_of d ≡ opening d.machine.part

-- the domain, if there is one, is as it was opened, and all others are as they were; some whole farm is still made of
-- the domains
pub record HasRestarted (domain : ℕ) (old new : List DomainValue) : Type 0 where
  pub places : all_places new ≡ all_places old
  pub own : IfSome (slice_get new domain) IsAsOpened
  pub others : OthersStay domain old new
  pub made : (farm : Farm) × IsMadeOfDomains farm new

-- domains are called so, and the line shows the answers
pub record ShowsRun (calls : List (ℕ × Call)) (old new : List DomainValue) (line : List ℕ) : Type 0 where
  pub told : List Answer
  pub run : HaveRun old new calls told
  pub shown : IsShownIn line told

-- what is asked does this to the domains, and a line shows the answers to calls; nothing is said of what other lines
-- show
abbrev pub ShowsAsked : List Place → Asked → List DomainValue → List DomainValue → List ℕ → Type 0
ShowsAsked plan (Calls calls) old new line = ShowsRun calls old new line
ShowsAsked plan Looks old new line = new ≡ old
ShowsAsked plan Opens old new line = IsOpenedFarm plan new
ShowsAsked plan (Restarts domain) old new line = HasRestarted domain old new
ShowsAsked plan (GoesOn domain) old new line = HasGoneOn domain old new
