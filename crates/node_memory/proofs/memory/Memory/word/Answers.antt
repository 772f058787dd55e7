use Rattle.std.proofs.Common.{◌≡◌, ℕ, ◌+◌, ◌-◌, ◌*◌, ◌%◌, ◌^◌, ◌<◌, List, Ok, take, drop, slice_index, refl, ap, sym}
use Rattle.std.proofs.Common.{◌∙◌, arith}
use Rattle.std.proofs.lemmas.List.{get_or-take, get_or-drop}
use Rattle.node_memory.specs.Bytes.{word_at, word_from}
use Rattle.node_memory.proofs.Kept.{loads}
use Rattle.node_memory.proofs.memory.Memory.word.Goals as goal

-- a byte of the part of four bytes from a place on is that of the whole list
byte_of_part : (bytes kept : List ℕ) (first i place : ℕ) → bytes ≡ kept → i < 4 → first + i ≡ place
    → slice_index (take (first + 4 - first) (drop first bytes)) i ≡ slice_index kept place
byte_of_part bytes kept first i place same below there =
    get_or-take (first + 4 - first) (drop first bytes) i 0 (omega (arith, below)) ∙ get_or-drop first bytes i 0
    ∙ λ j. slice_index (same j) (there j)

pub returns-then-offset-len : goal.returns-then-offset-len
returns-then-offset-len c =
    let kept = c.self.inside.kept.items in
    let offset = c.offset_of-offset.result in
    let first = offset - offset % 4 in
    let bytes = c.as_slice.result.now in
    let same = c.as_slice.ensures.value in
    let byte0 = c.from-low.ensures ∙ byte_of_part bytes kept first 0 first same (omega arith) (omega arith) in
    let byte1 = c.from-second.ensures ∙ byte_of_part bytes kept first 1 (first + 1) same (omega arith) refl in
    let byte2 = c.from-third.ensures ∙ byte_of_part bytes kept first 2 (first + 2) same (omega arith) refl in
    let byte3 = c.from-high.ensures ∙ byte_of_part bytes kept first 3 (first + 3) same (omega arith) refl in
    let value : c.from-low.result + c.from-second.result * 256 % 2 ^ 32 + c.from-third.result * 65536 % 2 ^ 32
    + c.from-high.result * 16777216 % 2 ^ 32 ≡ word_from kept first = omega (arith, byte0, byte1, byte2, byte3) in
    ap Ok value
    ∙ sym (loads kept c.self.inside.size c.args.address offset c.offset_of-offset.ensures.there
    c.offset_of-offset.ensures.below c.self.invariant.words c.self.invariant.within c.self.invariant.bounds.most
    (omega (arith, c.if-offset-len.true, c.len.ensures, c.self.inside.kept.ok.0)))
    ∙ ap (λ (memory : List ℕ). word_at memory c.args.address) c.self.view_is
