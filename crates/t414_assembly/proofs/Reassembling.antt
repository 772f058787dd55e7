-- Instructions with numbers become their bytes again: the law `reassembled_code_is_the_same`.
use Rattle.std.proofs.Common.{ℕ, ◌≡◌, ◌++◌, List, [], ◌∷◌, Option, Some, None, length}
use Rattle.std.proofs.Common.{zero, suc, map, flat_map, get_or, refl, ap, ◌∙◌, arith}
use Rattle.std.specs.List.{slice_get}
use Rattle.std.proofs.lemmas.Option.{slice_get_within}
use Rattle.t414_assembly.specs.declared.disassembly.Instruction.{Instruction}
use Rattle.t414_assembly.specs.declared.statement.Statement.{Statement}
use Rattle.t414_assembly.specs.Program.{IsImage}
use Rattle.t414_assembly.specs.Usual.{usual}
use Rattle.t414_assembly.specs.Reassembled.{bytes_of_all, stated}

abbrev stated_in : Instruction → Option Instruction → Option Statement
stated_in instruction None = None
stated_in instruction (Some i) = Some (stated i)

at_map : (found : List Instruction) (k : ℕ) (i : Instruction) → slice_get found k ≡ Some i
    → slice_get (map stated found) k ≡ Some (stated i)
at_map [] k i same = cc
at_map (x ∷ xs) zero i same = ap (λ o. stated_in i o) same
at_map (x ∷ xs) (suc k) i same = at_map xs k i same

joined_pieces : (pieces : List (List ℕ)) (found : List Instruction)
    → length pieces ≡ length found
    → ((k : ℕ) (i : Instruction) → slice_get found k ≡ Some i → get_or pieces k [] ≡ usual i.function i.operand)
    → flat_map (λ p. p) pieces ≡ bytes_of_all found
joined_pieces [] [] count each = refl
joined_pieces [] (i ∷ is) count each = absurd (omega (arith, count))
joined_pieces (p ∷ ps) [] count each = absurd (omega (arith, count))
joined_pieces (p ∷ ps) (i ∷ is) count each =
    ap (λ xs. xs ++ flat_map (λ q. q) ps) (each 0 i refl)
    ∙ ap (λ xs. usual i.function i.operand ++ xs)
    (joined_pieces ps is (omega (arith, count)) (λ k j h. each (suc k) j h))

-- the image of instructions with numbers is their usual bytes, one instruction after another
pub same_code : (origin : ℕ) (found : List Instruction) (starts bytes : List ℕ)
    → IsImage origin (map stated found) starts (length found) bytes
    → bytes ≡ bytes_of_all found
same_code origin found starts bytes given =
    given.whole
    ∙ joined_pieces given.pieces found given.count
    (λ k i at. (given.each k (stated i) (slice_get_within found k i at) (at_map found k i at)).number i.operand refl)
