-- A message within the node is an assignment.
use Rattle.std.proofs.Common.{◌≡◌, ℕ, ◌+◌, ◌<◌, List, [], ◌∷◌, length, drop, Option, Some, refl, sym, ap, ◌∙◌, subst, arith, true}
use Rattle.std.specs.Prelude.{◌==◌, if◌then◌else◌, slice_set}
use Rattle.std.proofs.lemmas.Bool.Decides.{nat_tests}
use Rattle.occam_core.specs.declared.channel.CoreChannel.TheVariants.{Link, Inside, Element}
use Rattle.occam_core.specs.declared.channel.MessageKind.{MessageKind}
use Rattle.occam_core.specs.declared.expression.Expression.{Expression}
use Rattle.occam_core.specs.declared.process.CoreProcess.{CoreProcess}
use Rattle.occam_core.specs.declared.process.CoreProcess.TheVariants.{Skip, Stop, Line', Assign, AssignElement, Copy, Channels, Input, InputElement, InputArray, Output, OutputArray, Sequence', Parallel', Choose', If', While', Repeat'}
use Rattle.occam_core.specs.Values.{value}
use Rattle.occam_core.specs.Processes.{Exchange, Said, Heard, byte_in, value_heard, bytes_said}
use Rattle.occam_core.specs.Traces.{Complete, IsMessage, WithValue, Merges, both_end, first_goes, second_goes, first_says, second_says, SideBySide, IsOfBoth, Runs, IsAtLinks}
use Rattle.occam_core.specs.Laws.{OfOutput, OfInput, MessagesAssign}

-- a talk that has something
abbrev IsSome : List Exchange → Type 0
IsSome [] = ⊥
IsSome (x ∷ t) = Unit {0}

-- the first of a talk is said
abbrev BeginsSaid : List Exchange → Type 0
BeginsSaid [] = ⊥
BeginsSaid (Said n bytes ∷ t) = Unit {0}
BeginsSaid (Heard n bytes ∷ t) = ⊥

-- the first of a talk is heard
abbrev BeginsHeard : List Exchange → Type 0
BeginsHeard [] = ⊥
BeginsHeard (Said n bytes ∷ t) = ⊥
BeginsHeard (Heard n bytes ∷ t) = Unit {0}

-- the bytes of the first message of a talk
abbrev first_bytes : List Exchange → List ℕ
first_bytes [] = []
first_bytes (Said n bytes ∷ t) = bytes
first_bytes (Heard n bytes ∷ t) = bytes

-- the number of the channel of a message
abbrev number_of : Exchange → ℕ
number_of (Said n bytes) = n
number_of (Heard n bytes) = n

-- the same of the first message of a talk
abbrev first_number : List Exchange → ℕ
first_number [] = 8
first_number (x ∷ t) = number_of x

-- what is at links begins so, or is nothing
links_first : (x : Exchange) (t : List Exchange) → IsAtLinks (x ∷ t) → number_of x < 8
links_first (Said n bytes) t at = at.0
links_first (Heard n bytes) t at = at.0

-- no channel within the node is a link's
inner : (c n : ℕ) → n ≡ 8 + c → n < 8 → ⊥
inner c n is low = absurd omega (arith, is, low)

-- nothing beside nothing is nothing
none_merges : (a b t : List Exchange) → a ≡ [] → b ≡ [] → Merges a b t → t ≡ []
none_merges _ _ _ none another both_end = refl
none_merges _ _ _ none another (first_goes x a b t together) = absurd (subst IsSome none tt)
none_merges _ _ _ none another (second_goes x a b t together) = absurd (subst IsSome another tt)
none_merges _ _ _ none another (first_says n bytes a b t inside together) = absurd (subst IsSome none tt)
none_merges _ _ _ none another (second_says n bytes a b t inside together) = absurd (subst IsSome none tt)

-- a message that is said by the one and heard by the other, and isn't at a link, passes between them
passes : (c : ℕ) (said heard : List ℕ) (a b t : List Exchange) → Merges a b t → a ≡ Said (8 + c) said ∷ []
    → b ≡ Heard (8 + c) heard ∷ [] → IsAtLinks t → (t ≡ []) × (heard ≡ said)
passes c said heard _ _ _ both_end one other links = absurd (subst IsSome (sym one) tt)
passes c said heard _ _ _ (first_goes x a b t together) one other links =
    absurd (inner c (number_of x) (ap first_number one) (links_first x t links))
passes c said heard _ _ _ (second_goes x a b t together) one other links =
    absurd (inner c (number_of x) (ap first_number other) (links_first x t links))
passes c said heard _ _ _ (first_says n bytes a b t inside together) one other links = (
  none_merges a b t (ap (drop 1) one) (ap (drop 1) other) together,
  sym (ap first_bytes other) ∙ ap first_bytes one,
)
passes c said heard _ _ _ (second_says n bytes a b t inside together) one other links =
    absurd (subst BeginsHeard one tt)

-- a number is itself
itself : (k : ℕ) → (k == k) ≡ true
itself k = grind (arith, nat_tests)

-- where one of two has changed nothing, both have what the other has made
of_second : (begun second both : List ℕ) → IsOfBoth begun begun second both
    → (i : ℕ) → byte_in both i ≡ byte_in second i
of_second begun second both is i =
    is.2 i ∙ ap (λ same. if same then byte_in second i else byte_in begun i) (itself (byte_in begun i))

-- what an output has said where it has ended
said_by : (given : Option ℕ) (word c : ℕ) (kind : MessageKind) (begun last : List ℕ) (talk : List Exchange)
    → given ≡ Some word
    → WithValue given talk (Complete last) (λ w. IsMessage (Said (8 + c) (bytes_said kind w)) begun talk
    (Complete last))
    → (talk ≡ Said (8 + c) (bytes_said kind word) ∷ []) × (last ≡ begun)
said_by given word c kind begun last talk is run =
    subst (λ it. WithValue it talk (Complete last) (λ w. IsMessage (Said (8 + c) (bytes_said kind w)) begun talk
    (Complete last))) is run

-- what such a program has done where it has ended
module _ (n : ℕ) (σ τ : List ℕ) (t : List Exchange) (word : ℕ) where
  -- with what such a message says in the variable
  abbrev Assigns : MessageKind → ℕ → Type 0
  Assigns kind v =
      (t ≡ []) × (length τ ≡ length σ)
      × ((i : ℕ) → byte_in τ i ≡ byte_in (slice_set σ v (value_heard kind (bytes_said kind word))) i)

  heard_there : (c : ℕ) (kind : MessageKind) (sent : Expression) (v : ℕ) (first second : List ℕ) (a b : List Exchange)
      → value sent σ ≡ Some word → Runs n (Output (Inside c) kind sent) σ a (Complete first)
      → Runs n (Input (Inside c) kind v) σ b (Complete second) → Merges a b t → IsAtLinks t → IsOfBoth σ first second τ
      → Assigns kind v
  heard_there c kind sent v first second a b is one two together links both =
      let said = said_by (value sent σ) word c kind σ first a is one in
      let passed = passes c (bytes_said kind word) two.0 a b t together said.0 two.3.0 links in
      let from_second = subst (λ it. IsOfBoth σ it second τ) said.1 both in (
        passed.0,
        both.0,
        λ i. of_second σ second τ from_second i ∙ ap (λ it. byte_in it i) (two.3.1
            ∙ ap (λ bytes. slice_set σ v (value_heard kind bytes)) passed.1),
      )

  -- the same of two sides that have run
  sides_there : (c : ℕ) (kind : MessageKind) (sent : Expression) (d : ℕ) (another : MessageKind) (v : ℕ) → c ≡ d
      → kind ≡ another → value sent σ ≡ Some word
      → SideBySide (Runs n (Output (Inside c) kind sent)) (Runs n (Input (Inside d) another v)) σ t (Complete τ)
      → IsAtLinks t → Assigns kind v
  sides_there c kind sent d another v channels kinds is sides links =
      let end = sides.7 in
      heard_there c kind sent v end.0 end.1 sides.0 sides.1 is
      (subst (λ outcome. Runs n (Output (Inside c) kind sent) σ sides.0 outcome) end.2 sides.4)
      (subst (λ it. Runs n (Input (Inside c) it v) σ sides.1 (Complete end.1)) (sym kinds)
      (subst (λ it. Runs n (Input (Inside it) another v) σ sides.1 (Complete end.1)) (sym channels)
      (subst (λ outcome. Runs n (Input (Inside d) another v) σ sides.1 outcome) end.3 sides.5)))
      sides.6 links end.4

  of_input : (c : ℕ) (kind : MessageKind) (sent : Expression) (b : CoreProcess)
      → OfInput b (λ d another v. c ≡ d → kind ≡ another → value sent σ ≡ Some word
      → SideBySide (Runs n (Output (Inside c) kind sent)) (Runs n b) σ t (Complete τ) × IsAtLinks t → Assigns kind v)
  of_input c kind sent (Input (Inside d) another v) =
      λ channels kinds is run. sides_there c kind sent d another v channels kinds is run.0 run.1
  of_input c kind sent Skip = tt
  of_input c kind sent Stop = tt
  of_input c kind sent (Line' place p a) = tt
  of_input c kind sent (Assign w e) = tt
  of_input c kind sent (AssignElement array i e) = tt
  of_input c kind sent (Copy to from) = tt
  of_input c kind sent (Channels w count) = tt
  of_input c kind sent (InputElement at array i) = tt
  of_input c kind sent (InputArray at array) = tt
  of_input c kind sent (OutputArray at array) = tt
  of_input c kind sent (Sequence' p a q b) = tt
  of_input c kind sent (Choose' g p a q b) = tt
  of_input c kind sent (If' e p a q b) = tt
  of_input c kind sent (While' e p a) = tt
  of_input c kind sent (Repeat' w base count p a) = tt
  of_input c kind sent (Parallel' p a q b) = tt
  of_input c kind sent (Input (Link d) another v) = tt
  of_input c kind sent (Input (Element array i) another v) = tt
  of_input c kind sent (Output at another e) = tt

  of_output : (a b : CoreProcess)
      → OfOutput a (λ c kind sent. OfInput b (λ d another v. c ≡ d → kind ≡ another → value sent σ ≡ Some word
      → SideBySide (Runs n a) (Runs n b) σ t (Complete τ) × IsAtLinks t → Assigns kind v))
  of_output (Output (Inside c) kind sent) b = of_input c kind sent b
  of_output Skip b = tt
  of_output Stop b = tt
  of_output (Line' place p c) b = tt
  of_output (Assign w e) b = tt
  of_output (AssignElement array i e) b = tt
  of_output (Copy to from) b = tt
  of_output (Channels w count) b = tt
  of_output (InputElement at array i) b = tt
  of_output (InputArray at array) b = tt
  of_output (OutputArray at array) b = tt
  of_output (Sequence' p c q d) b = tt
  of_output (Choose' g p c q d) b = tt
  of_output (If' e p c q d) b = tt
  of_output (While' e p c) b = tt
  of_output (Repeat' w base count p c) b = tt
  of_output (Parallel' p c q d) b = tt
  of_output (Output (Link c) kind sent) b = tt
  of_output (Output (Element array i) kind sent) b = tt
  of_output (Input at another v) b = tt

-- the law
pub assigned_by_message : MessagesAssign
assigned_by_message (Parallel' p a q b) n σ τ t word = of_output n σ τ t word a b
assigned_by_message Skip n σ τ t word = tt
assigned_by_message Stop n σ τ t word = tt
assigned_by_message (Line' place p a) n σ τ t word = tt
assigned_by_message (Assign w e) n σ τ t word = tt
assigned_by_message (AssignElement array i e) n σ τ t word = tt
assigned_by_message (Copy to from) n σ τ t word = tt
assigned_by_message (Channels w count) n σ τ t word = tt
assigned_by_message (InputElement at array i) n σ τ t word = tt
assigned_by_message (InputArray at array) n σ τ t word = tt
assigned_by_message (OutputArray at array) n σ τ t word = tt
assigned_by_message (Sequence' p a q b) n σ τ t word = tt
assigned_by_message (Choose' g p a q b) n σ τ t word = tt
assigned_by_message (If' e p a q b) n σ τ t word = tt
assigned_by_message (While' e p a) n σ τ t word = tt
assigned_by_message (Repeat' w base count p a) n σ τ t word = tt
assigned_by_message (Input at another v) n σ τ t word = tt
assigned_by_message (Output at another e) n σ τ t word = tt
