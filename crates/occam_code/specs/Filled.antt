-- What appending the processes of a PAR or an ALT changes in the code before them.
use Rattle.std.specs.Prelude.{ℕ, ◌≡◌, ◌+◌, ◌==◌, List, [], ◌∷◌, ◌++◌, Bool, true, false, flat_map, length, map, if◌then◌else◌}
use Rattle.t414_assembly.specs.declared.statement.Statement.{Statement}
use Rattle.occam_core.specs.declared.channel.CoreChannel.{CoreChannel}
use Rattle.occam_core.specs.declared.channel.CoreChannel.TheVariants.{Link, Inside, Element}
use Rattle.occam_core.specs.declared.channel.CoreGuard.{CoreGuard}
use Rattle.occam_core.specs.declared.channel.CoreGuard.TheVariants.{Input, Skip}
use Rattle.occam_core.specs.declared.process.CoreProcess.{CoreProcess}
use Rattle.occam_core.specs.declared.process.CoreProcess.TheVariants.{Choose'}
use Rattle.occam_code.specs.declared.emission.LineMark.{LineMark}
use Rattle.occam_code.specs.declared.frame.FrameWords.{FrameWords}
use Rattle.occam_code.specs.Instructions as asm
use Rattle.occam_code.specs.Words.{is_parallel}
use Rattle.occam_code.specs.Expressions.{code_places}
use Rattle.occam_code.specs.Guards.{guards_of, disables_code, joined_code}
use Rattle.occam_code.specs.Components.{components, after_component, component_code, component_codes, offsets_of, starts_code}
use Rattle.occam_code.specs.Code.{process_code, process_marks, parts_codes, parts_marks, bodies_codes}

-- the codes of a component and of others, as process_code has them of a PAR
abbrev pub codes_from : ℕ → ℕ → FrameWords → CoreProcess → CoreProcess → List (List Statement)
codes_from place next words p q =
    component_codes place next words p (λ i w. process_code i w p)
    (λ i n w. if is_parallel q then parts_codes i n w q else component_code n (process_code i w q) ∷ [])

-- the code of all of them
abbrev pub parts_code : ℕ → ℕ → FrameWords → CoreProcess → CoreProcess → List Statement
parts_code place next words p q = flat_map (λ code. code) (codes_from place next words p q)

-- the code of the processes of an ALT
abbrev pub bodies_code : ℕ → FrameWords → CoreProcess → List Statement
bodies_code place words p = joined_code place (bodies_codes place words p)

-- the places of the lines of a component and of others
abbrev pub marks_from : ℕ → FrameWords → CoreProcess → CoreProcess → List LineMark
marks_from place words p q =
    let end = place + length (process_code place words p) + 2 in
    let others = after_component words p in
    process_marks place words p ++ (if is_parallel q then parts_marks end others q else process_marks end others q)

-- whether a process has guards of an ALT
abbrev pub has_guards : CoreProcess → Bool
has_guards (Choose' g p a q b) = true
has_guards _ = false

-- how many statements load the address of a channel
abbrev pub channel_size : CoreChannel → ℕ
channel_size (Link number) = if number == 0 then 1 else 2
channel_size (Inside v) = 1
channel_size (Element array i) = 1

-- how many load the channel and the condition of a guard
abbrev pub guard_size : CoreGuard → ℕ
guard_size (Input e c) = channel_size c + 1
guard_size (Skip e) = 1

-- how many disable the guards of an ALT
abbrev pub disables_size : List CoreGuard → ℕ
disables_size [] = 0
disables_size (g ∷ gs) = guard_size g + 2 + disables_size gs

-- in a code, the part at a place has become another, and there is more at the end
abbrev pub Replaces : List Statement → List Statement → ℕ → List Statement → List Statement → List Statement → Type 0
Replaces old new place part other more =
    (pre post : List Statement) → old ≡ pre ++ (part ++ post) → place ≡ length pre
    → new ≡ pre ++ (other ++ (post ++ more))

-- the starts of components have got how far it is to each, and the components are at the end
abbrev pub FillsStarts : List Statement → List Statement → ℕ → FrameWords → ℕ → CoreProcess → CoreProcess → Type 0
FillsStarts old new start words next p q =
    let parts = p ∷ components q in
    let codes = codes_from (length old) next words p q in
    (below : ℕ) → Replaces old new start (starts_code below (map (λ p. asm.ldc 0) parts) parts)
    (starts_code below (offsets_of start (code_places 0 (length old) codes)) parts) (parts_code (length old) next
    words p q)

-- what disables the guards of an ALT has got how far it is to each process, and the processes are at the end
abbrev pub FillsDisables : List Statement → List Statement → ℕ → ℕ → FrameWords → CoreProcess → Type 0
FillsDisables old new disables selected words p =
    let guards = guards_of p in
    let codes = bodies_codes (length old) words p in
    let offsets = map (λ place. asm.ldc_distance place selected) (code_places 1 (length old) codes) in
    (kept : FrameWords) → Replaces old new disables (disables_code kept (map (λ g. asm.ldc 0) guards) guards)
    (disables_code kept offsets guards) (bodies_code (length old) words p)
