-- The code of channels, and of the guards of an ALT.
-- The operands of enbc, disc, enbs, diss: instruction set handbook, alternative input.
use Rattle.std.specs.Prelude.{ℕ, ◌+◌, ◌*◌, ◌==◌, ◌||◌, not, List, [], ◌∷◌, ◌++◌, Bool, false, length, map, if◌then◌else◌}
use Rattle.node_memory.specs.Words.{◌⊕◌}
use Rattle.t414_assembly.specs.declared.statement.Statement.{Statement}
use Rattle.occam_core.specs.declared.channel.CoreChannel.{CoreChannel}
use Rattle.occam_core.specs.declared.channel.CoreChannel.TheVariants.{Link, Inside, Element}
use Rattle.occam_core.specs.declared.channel.CoreGuard.{CoreGuard}
use Rattle.occam_core.specs.declared.channel.CoreGuard.TheVariants.{Input, Skip}
use Rattle.occam_core.specs.declared.expression.Expression.{Expression}
use Rattle.occam_core.specs.declared.expression.Expression.TheVariants.{Number, Variable}
use Rattle.occam_core.specs.declared.process.CoreProcess.{CoreProcess}
use Rattle.occam_core.specs.declared.process.CoreProcess.TheVariants.{Choose'}
use Rattle.occam_code.specs.declared.frame.FrameWords.{FrameWords}
use Rattle.occam_code.specs.Instructions as asm
use Rattle.occam_code.specs.Words.{is_leaf}
use Rattle.occam_code.specs.Expressions.{after_one, address_code, then_code, code_places, expression_code}

-- before all else the address of an element of an array of channels is kept
abbrev pub keep_channel : ℕ → FrameWords → CoreChannel → List Statement
keep_channel place words (Link number) = []
keep_channel place words (Inside v) = []
keep_channel place words (Element array i) =
    expression_code place words i ++ (address_code words.base array ++ asm.stl words.temporary ∷ [])

-- the words that are free then
abbrev pub after_channel : FrameWords → CoreChannel → FrameWords
after_channel words (Link number) = words
after_channel words (Inside v) = words
after_channel words (Element array i) = after_one words

-- the address of a channel; those of the links are at the start of memory
abbrev pub channel_code : FrameWords → CoreChannel → List Statement
channel_code words (Link number) = asm.mint ∷ (if number == 0 then [] else asm.ldnlp number ∷ [])
channel_code words (Inside v) = asm.ldlp (v ⊕ words.base) ∷ []
channel_code words (Element array i) = asm.ldl words.temporary ∷ []

-- a condition is kept, unless it is a leaf
abbrev pub keep_value : ℕ → FrameWords → Expression → List Statement
keep_value place words e =
    if is_leaf e then [] else expression_code place words e ++ asm.stl words.temporary ∷ []

-- the words that are free then
abbrev pub after_value : FrameWords → Expression → FrameWords
after_value words e = if is_leaf e then words else after_one words

-- a leaf, or a condition that was kept
abbrev pub value_code : FrameWords → Expression → Statement
value_code words (Number n) = asm.ldc n
value_code words (Variable v) = asm.ldl (v ⊕ words.base)
value_code words _ = asm.ldl words.temporary

-- the condition of a guard
abbrev pub condition_of : CoreGuard → Expression
condition_of (Input e c) = e
condition_of (Skip e) = e

-- its condition and its channel are kept
abbrev pub keep_guard : ℕ → FrameWords → CoreGuard → List Statement
keep_guard place words (Input e c) =
    then_code place (keep_value place words e) (λ k. keep_channel k (after_value words e) c)
keep_guard place words (Skip e) = keep_value place words e

-- the words that are free then
abbrev pub after_guard : FrameWords → CoreGuard → FrameWords
after_guard words (Input e c) = after_channel (after_value words e) c
after_guard words (Skip e) = after_value words e

-- its channel and its condition
abbrev pub guard_code : FrameWords → CoreGuard → List Statement
guard_code words (Input e c) = channel_code (after_value words e) c ++ value_code words e ∷ []
guard_code words (Skip e) = value_code words e ∷ []

abbrev pub enable_operation : CoreGuard → Statement
enable_operation (Input e c) = asm.enbc
enable_operation (Skip e) = asm.enbs

abbrev pub disable_operation : CoreGuard → Statement
disable_operation (Input e c) = asm.disc
disable_operation (Skip e) = asm.diss

-- the guards of an ALT, in the order of the text
abbrev pub guards_of : CoreProcess → List CoreGuard
guards_of (Choose' g p a q b) = g ∷ guards_of b
guards_of _ = []

-- the conditions and channels of all guards are kept
abbrev pub keep_guards : ℕ → FrameWords → List CoreGuard → List Statement
keep_guards place words [] = []
keep_guards place words (g ∷ gs) =
    then_code place (keep_guard place words g) (λ k. keep_guards k (after_guard words g) gs)

-- a constant other than FALSE
abbrev pub is_always : Expression → Bool
is_always (Number n) = not (n == 0)
is_always _ = false

-- whether a guard is open in any case
abbrev pub has_open : List CoreGuard → Bool
has_open [] = false
has_open (g ∷ gs) = is_always (condition_of g) || has_open gs

-- A or one of the conditions
abbrev pub or_conditions : FrameWords → List CoreGuard → List Statement
or_conditions words [] = []
or_conditions words (g ∷ gs) =
    value_code words (condition_of g) ∷ asm.or ∷ or_conditions (after_guard words g) gs

-- it is an error if no guard is open
abbrev pub open_code : ℕ → FrameWords → List CoreGuard → List Statement
open_code place words [] = []
open_code place words (g ∷ gs) =
    let conditions = value_code words (condition_of g) ∷ or_conditions (after_guard words g) gs in
    conditions ++ asm.eqc 0 ∷ asm.cj (place + length conditions + 3) ∷ asm.seterr ∷ []

abbrev pub enables_code : FrameWords → List CoreGuard → List Statement
enables_code words [] = []
enables_code words (g ∷ gs) = guard_code words g ++ enable_operation g ∷ enables_code (after_guard words g) gs

-- each of the offsets loads how far it is to the process of a guard
abbrev pub disables_code : FrameWords → List Statement → List CoreGuard → List Statement
disables_code words (offset ∷ offsets) (g ∷ gs) =
    guard_code words g ++ offset ∷ disable_operation g ∷ disables_code (after_guard words g) offsets gs
disables_code words _ _ = []

-- codes with jumps between them to the end of all
abbrev pub joined_code : ℕ → List (List Statement) → List Statement
joined_code place [] = []
joined_code place (code ∷ []) = code
joined_code place (code ∷ (next ∷ codes)) =
    let start = place + length code + 1 in
    let others = joined_code start (next ∷ codes) in
    code ++ asm.j (start + length others) ∷ others

-- what comes before the guards are enabled: what they need is kept, and one of them has to be open
abbrev pub check_code : ℕ → FrameWords → List CoreGuard → List Statement
check_code place words guards = if has_open guards then [] else open_code place words guards

abbrev pub before_code : ℕ → FrameWords → List CoreGuard → List Statement
before_code place words guards =
    then_code place (keep_guards place words guards) (λ k. check_code k words guards)

-- the place of the first guard's process
abbrev pub bodies_place : ℕ → FrameWords → List CoreGuard → ℕ
bodies_place place words guards =
    place + length (before_code place words guards) + 2 * length (enables_code words guards) + length guards + 3

-- an ALT: the guards are enabled, it waits, they are disabled, which selects one, and the code of that one is done
abbrev pub choose_code : ℕ → FrameWords → List CoreGuard → (ℕ → List (List Statement)) → List Statement
choose_code place words guards bodies =
    let end = bodies_place place words guards in
    let codes = bodies end in
    let offsets = map (λ start. asm.ldc_distance start end) (code_places 1 end codes) in
    before_code place words guards ++ asm.alt ∷ (enables_code words guards ++ asm.altwt
    ∷ (disables_code words offsets guards ++ asm.altend ∷ joined_code end codes))
