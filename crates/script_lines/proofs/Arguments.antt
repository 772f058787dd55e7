-- What is wrong with the arguments of a verb, if it is a digit of an address or word: the clauses `fault` of
-- `with_two`, `with_three`, `parse_request` and `parse_line`.
use Rattle.std.proofs.Common.{◌≡◌, ℕ, List, [], ◌∷◌, Ok, Err, sym, subst}
use Rattle.std.specs.Prelude.{IfErr, Result}
use Rattle.script_lines.specs.declared.command.Command.{Command}
use Rattle.script_lines.specs.declared.command.Command.TheVariants as command
use Rattle.script_lines.specs.declared.fault.LineFault.{LineFault}
use Rattle.script_lines.specs.declared.fault.LineFault.TheVariants.{Hex}
use Rattle.script_lines.specs.declared.fault.LineFault.TheVariants as fault
use Rattle.script_lines.specs.declared.fault.Unread.{Unread}
use Rattle.script_lines.specs.declared.fault.Unread.TheVariants.{Faulty}
use Rattle.script_lines.specs.declared.verb.Verb.{Verb}
use Rattle.script_lines.specs.declared.verb.Verb.TheVariants.{Poke, Peek}
use Rattle.script_lines.specs.Words.{IsDecimal, IsWord}
use Rattle.script_lines.specs.Lines.{Requests, BeginsWith, IsOf, IsArgumentFault, IsRestFault, IsLineFault}

no_peek : (place at : List ℕ) → ((value : ℕ) → ¬ IsWord at value) → (c : Command) → ¬ Requests Peek (place ∷ at ∷ []) c
no_peek place at none (command.Config bytes) asked = asked
no_peek place at none (command.Write host bytes) asked = asked
no_peek place at none (command.Boot host code) asked = asked
no_peek place at none (command.Poke host address word) asked = asked
no_peek place at none (command.Peek host address) asked = none address asked.1
no_peek place at none (command.Collect host) asked = asked
no_peek place at none (command.Reset node) asked = asked
no_peek place at none (command.Look node) asked = asked

no_poke_at : (place at stored : List ℕ) → ((value : ℕ) → ¬ IsWord at value) → (c : Command)
    → ¬ Requests Poke (place ∷ at ∷ stored ∷ []) c
no_poke_at place at stored none (command.Config bytes) asked = asked
no_poke_at place at stored none (command.Write host bytes) asked = asked
no_poke_at place at stored none (command.Boot host code) asked = asked
no_poke_at place at stored none (command.Poke host address word) asked = none address asked.1
no_poke_at place at stored none (command.Peek host address) asked = asked
no_poke_at place at stored none (command.Collect host) asked = asked
no_poke_at place at stored none (command.Reset node) asked = asked
no_poke_at place at stored none (command.Look node) asked = asked

no_poke_of : (place at stored : List ℕ) → ((value : ℕ) → ¬ IsWord stored value) → (c : Command)
    → ¬ Requests Poke (place ∷ at ∷ stored ∷ []) c
no_poke_of place at stored none (command.Config bytes) asked = asked
no_poke_of place at stored none (command.Write host bytes) asked = asked
no_poke_of place at stored none (command.Boot host code) asked = asked
no_poke_of place at stored none (command.Poke host address word) asked = none word asked.2
no_poke_of place at stored none (command.Peek host address) asked = asked
no_poke_of place at stored none (command.Collect host) asked = asked
no_poke_of place at stored none (command.Reset node) asked = asked
no_poke_of place at stored none (command.Look node) asked = asked

-- why a word isn't read as an address or word
abbrev pub IsNoWord : List ℕ → Unread → Type 0
IsNoWord word unread = (f : LineFault) → unread ≡ Faulty f → (f ≡ Hex) × ((value : ℕ) → ¬ IsWord word value)

-- if the address of a peek isn't read, its arguments are wrong by the fault that is given
pub peek_refused : (verb : Verb) (place at : List ℕ) (host : ℕ) (unread : Unread)
    → verb ≡ Peek → IsDecimal place host → IsNoWord at unread → (f : LineFault) → unread ≡ Faulty f
    → IsArgumentFault verb (place ∷ at ∷ []) f
peek_refused verb place at host unread is number none f told =
    let why = none f told in
    subst (λ v. IsArgumentFault v (place ∷ at ∷ []) f) (sym is)
    (subst (IsArgumentFault Peek (place ∷ at ∷ [])) (sym why.0) ((host, number), no_peek place at why.1))

-- so are those of a poke, if its address isn't read
pub poke_refused_at : (verb : Verb) (place at stored : List ℕ) (host : ℕ) (unread : Unread)
    → verb ≡ Poke → IsDecimal place host → IsNoWord at unread → (f : LineFault) → unread ≡ Faulty f
    → IsArgumentFault verb (place ∷ at ∷ stored ∷ []) f
poke_refused_at verb place at stored host unread is number none f told =
    let why = none f told in
    subst (λ v. IsArgumentFault v (place ∷ at ∷ stored ∷ []) f) (sym is)
    (subst (IsArgumentFault Poke (place ∷ at ∷ stored ∷ [])) (sym why.0)
    ((host, number), no_poke_at place at stored why.1))

-- so are those of a poke, if its word isn't read
pub poke_refused_of : (verb : Verb) (place at stored : List ℕ) (host : ℕ) (unread : Unread)
    → verb ≡ Poke → IsDecimal place host → IsNoWord stored unread → (f : LineFault) → unread ≡ Faulty f
    → IsArgumentFault verb (place ∷ at ∷ stored ∷ []) f
poke_refused_of verb place at stored host unread is number none f told =
    let why = none f told in
    subst (λ v. IsArgumentFault v (place ∷ at ∷ stored ∷ []) f) (sym is)
    (subst (IsArgumentFault Poke (place ∷ at ∷ stored ∷ [])) (sym why.0)
    ((host, number), no_poke_of place at stored why.1))

-- what follows a name is wrong if the arguments of its verb are
rest_refused : (rest : List (List ℕ)) (verb : Verb) (arguments : List (List ℕ)) (f : LineFault)
    → IsOf rest verb arguments → IsArgumentFault verb arguments f
    → IsRestFault rest f
rest_refused rest verb arguments fault.User of wrong = absurd wrong
rest_refused rest verb arguments fault.Verb of wrong = absurd wrong
rest_refused rest verb arguments fault.Args of wrong = (verb, arguments, of, wrong)
rest_refused rest verb arguments fault.Hex of wrong = (verb, arguments, of, wrong)

-- if a request is refused for the arguments of its verb, what follows the name is wrong by that fault
pub request_refused : (rest : List (List ℕ)) (verb : Verb) (arguments : List (List ℕ)) (outcome : Result Command Unread)
    → IsOf rest verb arguments → IfErr outcome (λ u. (f : LineFault) → u ≡ Faulty f → IsArgumentFault verb arguments f)
    → IfErr outcome (λ u. (f : LineFault) → u ≡ Faulty f → IsRestFault rest f)
request_refused rest verb arguments (Ok c) of wrong = tt
request_refused rest verb arguments (Err u) of wrong = λ f told. rest_refused rest verb arguments f of (wrong f told)

-- a line is wrong if what follows its user's name is
pub line_refused : (names words : List (List ℕ)) (user : ℕ) (rest : List (List ℕ)) (f : LineFault)
    → BeginsWith names words user rest → IsRestFault rest f
    → IsLineFault names words f
line_refused names words user rest fault.User begins wrong = absurd wrong
line_refused names words user rest fault.Verb begins wrong = (user, rest, begins, wrong)
line_refused names words user rest fault.Args begins wrong = (user, rest, begins, wrong)
line_refused names words user rest fault.Hex begins wrong = (user, rest, begins, wrong)
