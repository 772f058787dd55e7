-- The verbs that a script hasn't. The words are our own.
use Rattle.std.specs.Prelude.{ℕ, List, codes}
use Rattle.live_lines.specs.declared.verbs.DomainVerb.{DomainVerb}
use Rattle.live_lines.specs.declared.verbs.DomainVerb.TheVariants as domain
use Rattle.live_lines.specs.declared.verbs.OperatorVerb.{OperatorVerb}
use Rattle.live_lines.specs.declared.verbs.OperatorVerb.TheVariants as operator

-- the word by which a user asks something of their domain as a whole
abbrev pub domain_verb_name : DomainVerb → List ℕ
domain_verb_name domain.Rest = codes "rest"
domain_verb_name domain.Restart = codes "restart"
domain_verb_name domain.Why = codes "why"

-- the word by which the operator asks something
abbrev pub operator_verb_name : OperatorVerb → List ℕ
operator_verb_name operator.Words = codes "!words"
operator_verb_name operator.Users = codes "!users"
operator_verb_name operator.Memory = codes "!memory"
operator_verb_name operator.Restart = codes "!restart"
operator_verb_name operator.Stop = codes "!stop"
