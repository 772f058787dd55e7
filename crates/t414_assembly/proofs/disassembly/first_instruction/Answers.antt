use Rattle.std.proofs.Common.{◌++◌, ◌∙◌, take, drop, sym, ap}
use Rattle.std.specs.Cmp.Lexicographic.{same_text}
use Rattle.std.proofs.lemmas.List.{take-append-drop}
use Rattle.t414_assembly.proofs.disassembly.first_instruction.Goals as goal

pub returns-then-eq-clause-bytes : goal.returns-then-eq-clause-bytes
returns-then-eq-clause-bytes c =
    let same = same_text (take c.from-count.result c.args.bytes.now) c.as_slice.result.now c.if-eq.ensures in
    sym (take-append-drop c.from-count.result c.args.bytes.now)
    ∙ ap (λ xs. xs ++ drop c.from-count.result c.args.bytes.now)
    (same ∙ c.as_slice.ensures.bytes ∙ c.spell-spelling.ensures.usual)
