-- pfix 0 before an instruction changes nothing, so it fills a room that is too large: the clause `put` of
-- `put_statement`.
use Rattle.std.proofs.Common.{ℕ, ◌≡◌, ◌≤◌, ◌/◌, ◌++◌, List, [], Some, length, zero, suc}
use Rattle.std.proofs.Common.{true, replicate, refl, sym, ap, ◌∙◌, append_assoc, append-nil}
use Rattle.t414_decode.specs.Codes.{function_of, accumulated, shifted}
use Rattle.t414_decode.specs.declared.instruction.Function.{Function}
use Rattle.t414_decode.specs.declared.instruction.Function.TheVariants.{Prefix}
use Rattle.t414_decode.specs.Meaning.{read_from, continues}
use Rattle.t414_assembly.specs.Spelled.{Means}
use Rattle.t414_assembly.proofs.Bytes.{passes, taken_in}

on : continues (function_of (0x20 / 16)) ≡ true
unfolding function_of
on = refl

two : function_of (0x20 / 16) ≡ Prefix
unfolding function_of
two = refl

stays : accumulated 0 0x20 ≡ 0
stays = taken_in 0 0x20 0 (function_of (0x20 / 16)) refl refl refl ∙ ap (λ f. shifted f 0) two

-- bytes after any number of pfix 0 are read as without them
pub pad_reads : (pads : ℕ) (bytes : List ℕ) → read_from 0 (replicate pads 0x20 ++ bytes) ≡ read_from 0 bytes
pad_reads zero bytes = refl
pad_reads (suc pads) bytes =
    passes 0 0x20 (replicate pads 0x20 ++ bytes) on ∙ ap (λ o. read_from o (replicate pads 0x20 ++ bytes)) stays
    ∙ pad_reads pads bytes

-- bytes that mean an instruction mean it after any number of pfix 0
pub pad_means : (pads : ℕ) (bytes : List ℕ) (function : Function) (operand : ℕ) → Means bytes function operand
    → Means (replicate pads 0x20 ++ bytes) function operand
pad_means pads bytes function operand means = λ rest.
    ap (read_from 0) (append_assoc (replicate pads 0x20) bytes rest) ∙ pad_reads pads (bytes ++ rest) ∙ means rest

-- a room that no bytes of an instruction are shorter than isn't longer than these bytes of it
pub no_pads : (short : List ℕ) (room : ℕ) (other_function : Function) (operand : ℕ) → Means short other_function operand
    → ((others : List ℕ) → read_from 0 others ≡ Some (record
    { function = other_function; operand = operand; rest = [] })
    → room ≤ length others)
    → room ≤ length short
no_pads short room other_function operand means least =
    least short (ap (read_from 0) (sym (append-nil short)) ∙ means [])
