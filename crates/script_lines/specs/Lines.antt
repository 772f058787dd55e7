-- A line of a script: `USER config BYTES`, `USER write HOST BYTES`, `USER boot HOST CODE`, `USER poke HOST ADDRESS
-- WORD`, `USER peek HOST ADDRESS`, `USER collect HOST`, `USER reset NODE` or `USER look NODE`.
use Rattle.std.specs.Prelude.{◌≡◌, ℕ, List, [], ◌∷◌, Some, slice_get, ⊤}
use Rattle.script_text.specs.Hexadecimal.{Spells}
use Rattle.script_lines.specs.declared.command.Command.{Command}
use Rattle.script_lines.specs.declared.command.Command.TheVariants as command
use Rattle.script_lines.specs.declared.fault.LineFault.{LineFault}
use Rattle.script_lines.specs.declared.fault.LineFault.TheVariants as fault
use Rattle.script_lines.specs.declared.verb.Verb.{Verb}
use Rattle.script_lines.specs.declared.verb.Verb.TheVariants.{Config, Write, Boot, Poke, Peek, Collect, Reset, Look}
use Rattle.script_lines.specs.Verbs.{name_of}
use Rattle.script_lines.specs.Words.{IsDecimal, IsWord}

-- a verb with the words after it asks this
abbrev pub Requests : Verb → List (List ℕ) → Command → Type 0
Requests Config (digits ∷ []) (command.Config bytes) = Spells digits bytes.items
Requests Write (place ∷ digits ∷ []) (command.Write host bytes) = IsDecimal place host × Spells digits bytes.items
Requests Boot (place ∷ digits ∷ []) (command.Boot host code) = IsDecimal place host × Spells digits code.items
Requests Poke (place ∷ at ∷ stored ∷ []) (command.Poke host address word) =
    IsDecimal place host × IsWord at address × IsWord stored word
Requests Peek (place ∷ at ∷ []) (command.Peek host address) = IsDecimal place host × IsWord at address
Requests Collect (place ∷ []) (command.Collect host) = IsDecimal place host
Requests Reset (place ∷ []) (command.Reset node) = IsDecimal place node
Requests Look (place ∷ []) (command.Look node) = IsDecimal place node
Requests verb words c = ⊥

-- a word spells the number of a host or node
abbrev pub IsTargetNumber : List ℕ → Type 0
IsTargetNumber word = (number : ℕ) × IsDecimal word number

-- a verb has as many words after it as it takes, and the number of a host or node is one
abbrev pub HasArguments : Verb → List (List ℕ) → Type 0
HasArguments Config (digits ∷ []) = ⊤
HasArguments Write (place ∷ digits ∷ []) = IsTargetNumber place
HasArguments Boot (place ∷ digits ∷ []) = IsTargetNumber place
HasArguments Poke (place ∷ at ∷ stored ∷ []) = IsTargetNumber place
HasArguments Peek (place ∷ at ∷ []) = IsTargetNumber place
HasArguments Collect (place ∷ []) = IsTargetNumber place
HasArguments Reset (place ∷ []) = IsTargetNumber place
HasArguments Look (place ∷ []) = IsTargetNumber place
HasArguments verb words = ⊥

-- the name of a user, by its place among all names
abbrev pub IsUserName : List (List ℕ) → List ℕ → ℕ → Type 0
IsUserName names name user = slice_get names user ≡ Some name

-- the first word of a line is the name of this user, and the rest follow
pub record BeginsWith (names words : List (List ℕ)) (user : ℕ) (rest : List (List ℕ)) : Type 0 where
  pub name : List ℕ
  pub first : words ≡ name ∷ rest
  pub named : IsUserName names name user

-- the words after a name are a verb and its arguments
abbrev pub IsOf : List (List ℕ) → Verb → List (List ℕ) → Type 0
IsOf words verb arguments = words ≡ name_of verb ∷ arguments

-- the words after a name ask this
pub record IsRequest (rest : List (List ℕ)) (c : Command) : Type 0 where
  pub verb : Verb
  pub arguments : List (List ℕ)
  pub of_verb : IsOf rest verb arguments
  pub asked : Requests verb arguments c

-- the words of a line ask this for this user
pub record AskFor (names words : List (List ℕ)) (user : ℕ) (c : Command) : Type 0 where
  pub rest : List (List ℕ)
  pub begins : BeginsWith names words user rest
  pub request : IsRequest rest c

-- what follows a verb is wrong: the arguments, or else their digits
abbrev pub IsArgumentFault : Verb → List (List ℕ) → LineFault → Type 0
IsArgumentFault verb arguments fault.User = ⊥
IsArgumentFault verb arguments fault.Verb = ⊥
IsArgumentFault verb arguments fault.Args = ¬ HasArguments verb arguments
IsArgumentFault verb arguments fault.Hex =
    HasArguments verb arguments × ((c : Command) → ¬ Requests verb arguments c)

-- what follows a name is wrong: there is no verb, or what follows it is wrong
abbrev pub IsRestFault : List (List ℕ) → LineFault → Type 0
IsRestFault rest fault.User = ⊥
IsRestFault rest fault.Verb = (verb : Verb) (arguments : List (List ℕ)) → ¬ IsOf rest verb arguments
IsRestFault rest f =
    (verb : Verb) × (arguments : List (List ℕ)) × IsOf rest verb arguments × IsArgumentFault verb arguments f

-- the first thing that is wrong with the words of a line, in the order user, verb, args, hex
abbrev pub IsLineFault : List (List ℕ) → List (List ℕ) → LineFault → Type 0
IsLineFault names words fault.User = (user : ℕ) (rest : List (List ℕ)) → ¬ BeginsWith names words user rest
IsLineFault names words f =
    (user : ℕ) × (rest : List (List ℕ)) × BeginsWith names words user rest × IsRestFault rest f
