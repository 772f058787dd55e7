-- A line of a farm that stays up: a line of a script; a shorthand line; `USER rest`, `USER restart`, `USER why` or
-- `USER
-- why NODE`; or one of the operator, which begins with `!`: `!words`, `!users`, `!memory`, `!restart USER` or `!stop`.
use Rattle.std.specs.Prelude.{◌≡◌, ◌==◌, ◌⊎◌, ℕ, Bool, true, false, List, [], ◌∷◌, Some, None, ⊤}
use Rattle.script_lines.specs.declared.fault.LineFault.{LineFault}
use Rattle.script_lines.specs.declared.fault.LineFault.TheVariants as fault
use Rattle.script_lines.specs.Words.{words_between, IsDecimal}
use Rattle.script_lines.specs.Lines.{BeginsWith, IsUserName, IsTargetNumber, IsRequest, IsRestFault}
use Rattle.shorthand_lines.specs.declared.verb.ShorthandVerb.{ShorthandVerb}
use Rattle.shorthand_lines.specs.ShorthandLines.{IsShorthand, AsksByShorthand, ShorthandAsksNothing}
use Rattle.live_lines.specs.declared.asked.WholeRequest.{WholeRequest}
use Rattle.live_lines.specs.declared.asked.WholeRequest.TheVariants as whole
use Rattle.live_lines.specs.declared.asked.LiveRequest.{LiveRequest}
use Rattle.live_lines.specs.declared.asked.LiveRequest.TheVariants as request
use Rattle.live_lines.specs.declared.asked.LiveLine.{LiveLine}
use Rattle.live_lines.specs.declared.asked.LiveLine.TheVariants as live
use Rattle.live_lines.specs.declared.asked.OperatorRequest.{OperatorRequest}
use Rattle.live_lines.specs.declared.asked.OperatorRequest.TheVariants as operator
use Rattle.live_lines.specs.declared.fault.LiveFault.{LiveFault}
use Rattle.live_lines.specs.declared.fault.LiveFault.TheVariants as live_fault
use Rattle.live_lines.specs.declared.verbs.DomainVerb.{DomainVerb}
use Rattle.live_lines.specs.declared.verbs.DomainVerb.TheVariants as domain
use Rattle.live_lines.specs.declared.verbs.OperatorVerb.{OperatorVerb}
use Rattle.live_lines.specs.declared.verbs.OperatorVerb.TheVariants as verb
use Rattle.live_lines.specs.LiveVerbs.{domain_verb_name, operator_verb_name}

-- whether a line is the operator's: it begins with `!`, with which no user's name begins
abbrev pub is_operators : List ℕ → Bool
is_operators [] = false
is_operators (byte ∷ line) = byte == 33

-- ---- a user's line

-- the words after a user's name are a verb that asks something of the user's domain as a whole, and these after it
abbrev pub IsOfDomain : List (List ℕ) → DomainVerb → List (List ℕ) → Type 0
IsOfDomain rest verb arguments = rest ≡ domain_verb_name verb ∷ arguments

-- such a verb with the words after it asks this
abbrev pub DomainAsks : DomainVerb → List (List ℕ) → WholeRequest → Type 0
DomainAsks domain.Rest [] whole.Rest = ⊤
DomainAsks domain.Restart [] whole.Restart = ⊤
DomainAsks domain.Why [] (whole.Why None) = ⊤
DomainAsks domain.Why (number ∷ []) (whole.Why (Some node)) = IsDecimal number node
DomainAsks verb arguments asked = ⊥

-- such a verb has as many words after it as it takes, and one that it takes is the number of a node
abbrev pub HasDomainArguments : DomainVerb → List (List ℕ) → Type 0
HasDomainArguments domain.Rest [] = ⊤
HasDomainArguments domain.Restart [] = ⊤
HasDomainArguments domain.Why [] = ⊤
HasDomainArguments domain.Why (number ∷ []) = IsTargetNumber number
HasDomainArguments verb arguments = ⊥

-- the words after a user's name ask this: what a plain line asks, by that line or a shorthand one, or something of the
-- domain as a whole
abbrev pub AsksLive : List (List ℕ) → LiveRequest → Type 0
AsksLive rest (request.Script command) = IsRequest rest command ⊎ AsksByShorthand rest command
AsksLive rest (request.Domain asked) =
    (verb : DomainVerb) × (arguments : List (List ℕ)) × IsOfDomain rest verb arguments
    × DomainAsks verb arguments asked

-- the words of a user's line ask this
abbrev pub IsUserLine : List (List ℕ) → List (List ℕ) → LiveLine → Type 0
IsUserLine names words (live.User user asked) =
    (rest : List (List ℕ)) × BeginsWith names words user rest × AsksLive rest asked
IsUserLine names words (live.Operator asked) = ⊥

-- the words after a user's name begin with a verb that asks something of the domain as a whole, and ask nothing by it
abbrev pub AsksNothingOfDomain : List (List ℕ) → Type 0
AsksNothingOfDomain rest =
    (verb : DomainVerb) × (arguments : List (List ℕ)) × IsOfDomain rest verb arguments
    × (¬ HasDomainArguments verb arguments)

-- what follows a user's name is wrong: there is no verb, neither a script's nor another; or what follows the verb is
-- wrong, as in a script, of the domain as a whole, or of a shorthand line
abbrev pub IsLiveRestFault : List (List ℕ) → LineFault → Type 0
IsLiveRestFault rest fault.User = ⊥
IsLiveRestFault rest fault.Verb =
    IsRestFault rest fault.Verb
    × ((verb : DomainVerb) (arguments : List (List ℕ)) → ¬ IsOfDomain rest verb arguments)
    × ((verb : ShorthandVerb) (arguments : List (List ℕ)) → ¬ IsShorthand rest verb arguments)
IsLiveRestFault rest fault.Args = IsRestFault rest fault.Args ⊎ (AsksNothingOfDomain rest ⊎ ShorthandAsksNothing rest)
IsLiveRestFault rest fault.Hex = IsRestFault rest fault.Hex

-- why the words of a user's line ask nothing
abbrev pub IsUserFault : List (List ℕ) → List (List ℕ) → LiveFault → Type 0
IsUserFault names words live_fault.UnknownUser =
    (user : ℕ) (rest : List (List ℕ)) → ¬ BeginsWith names words user rest
IsUserFault names words (live_fault.User user f) =
    (rest : List (List ℕ)) × BeginsWith names words user rest × IsLiveRestFault rest f
IsUserFault names words (live_fault.Operator f) = ⊥
IsUserFault names words (live_fault.NoMemory user) = (rest : List (List ℕ)) × BeginsWith names words user rest

-- ---- an operator's line

-- the words of an operator's line are a verb and these after it
abbrev pub IsOfOperator : List (List ℕ) → OperatorVerb → List (List ℕ) → Type 0
IsOfOperator words v arguments = words ≡ operator_verb_name v ∷ arguments

-- an operator's verb with the words after it asks this
abbrev pub OperatorAsks : List (List ℕ) → OperatorVerb → List (List ℕ) → OperatorRequest → Type 0
OperatorAsks names verb.Words [] operator.Words = ⊤
OperatorAsks names verb.Users [] operator.Users = ⊤
OperatorAsks names verb.Memory [] operator.Memory = ⊤
OperatorAsks names verb.Restart (name ∷ []) (operator.Restart user) = IsUserName names name user
OperatorAsks names verb.Stop [] operator.Stop = ⊤
OperatorAsks names v arguments asked = ⊥

-- an operator's verb has as many words after it as it takes
abbrev pub HasOperatorArguments : OperatorVerb → List (List ℕ) → Type 0
HasOperatorArguments verb.Words [] = ⊤
HasOperatorArguments verb.Users [] = ⊤
HasOperatorArguments verb.Memory [] = ⊤
HasOperatorArguments verb.Restart (name ∷ []) = ⊤
HasOperatorArguments verb.Stop [] = ⊤
HasOperatorArguments v arguments = ⊥

-- the words of an operator's line ask this
abbrev pub IsOperatorLine : List (List ℕ) → List (List ℕ) → OperatorRequest → Type 0
IsOperatorLine names words asked =
    (v : OperatorVerb) × (arguments : List (List ℕ)) × IsOfOperator words v arguments
    × OperatorAsks names v arguments asked

-- what follows an operator's verb is wrong: the number of words, or else the name
abbrev pub IsOperatorArgumentFault : List (List ℕ) → OperatorVerb → List (List ℕ) → LineFault → Type 0
IsOperatorArgumentFault names v arguments fault.Verb = ⊥
IsOperatorArgumentFault names v arguments fault.Args = ¬ HasOperatorArguments v arguments
IsOperatorArgumentFault names v arguments fault.User =
    HasOperatorArguments v arguments × ((asked : OperatorRequest) → ¬ OperatorAsks names v arguments asked)
IsOperatorArgumentFault names v arguments fault.Hex = ⊥

-- the first thing that is wrong with the words of an operator's line, in the order verb, args, user
abbrev pub IsOperatorFault : List (List ℕ) → List (List ℕ) → LineFault → Type 0
IsOperatorFault names words fault.Verb =
    (v : OperatorVerb) (arguments : List (List ℕ)) → ¬ IsOfOperator words v arguments
IsOperatorFault names words f =
    (v : OperatorVerb) × (arguments : List (List ℕ)) × IsOfOperator words v arguments
    × IsOperatorArgumentFault names v arguments f

-- ---- a line

-- a line asks this
abbrev pub IsLiveLine : List (List ℕ) → List ℕ → LiveLine → Type 0
IsLiveLine names line (live.User user asked) =
    (is_operators line ≡ false) × IsUserLine names (words_between line) (live.User user asked)
IsLiveLine names line (live.Operator asked) =
    (is_operators line ≡ true) × IsOperatorLine names (words_between line) asked

-- why a line asks nothing
abbrev pub IsLiveFault : List (List ℕ) → List ℕ → LiveFault → Type 0
IsLiveFault names line live_fault.UnknownUser =
    (is_operators line ≡ false) × IsUserFault names (words_between line) live_fault.UnknownUser
IsLiveFault names line (live_fault.User user f) =
    (is_operators line ≡ false) × IsUserFault names (words_between line) (live_fault.User user f)
IsLiveFault names line (live_fault.Operator f) =
    (is_operators line ≡ true) × IsOperatorFault names (words_between line) f
IsLiveFault names line (live_fault.NoMemory user) =
    (is_operators line ≡ false) × IsUserFault names (words_between line) (live_fault.NoMemory user)
