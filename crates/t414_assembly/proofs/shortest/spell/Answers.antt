use Rattle.std.proofs.Common.{ℕ, ◌≡◌, ◌≤◌, ◌-◌, ◌%◌, ◌+◌, ◌++◌, ◌∷◌, [], List, length, ap, ◌∙◌, arith, length-append}
use Rattle.t414_decode.specs.Meaning.{read_from}
use Rattle.t414_assembly.specs.Spelled.{spelled}
use Rattle.t414_assembly.proofs.Bytes.{last_one}
use Rattle.t414_assembly.proofs.Reaching.{reaches_whole}
use Rattle.t414_assembly.proofs.shortest.spell.Goals as goal
use Rattle.t414_assembly.proofs.shortest.spell.Goals.{then-is_prefix, else-is_prefix}

pub returns-clause-means : goal.returns-clause-means
returns-clause-means c = λ plain rest.
    let front : (r : List ℕ)
    → read_from 0 (spelled c.if-is_prefix.spelling ++ r)
    ≡ read_from (c.args.operand - c.args.operand % 16) r =
    elim c.if-is_prefix.branch [
      | then-is_prefix w ↦ cc
      | else-is_prefix w ↦
          λ r. ap (λ s. read_from 0 (spelled s ++ r)) w.spelling-is ∙ w.prefixes_for-spelling.ensures.operand r
    ] in
    ap (λ xs. read_from 0 (xs ++ rest)) c.push.ensures
    ∙ last_one c.args.operand (c.args.operand - c.args.operand % 16) c.byte_of.result (spelled c.if-is_prefix.spelling)
    rest c.args.function (omega arith) (omega arith) front plain
    c.byte_of.ensures.function c.byte_of.ensures.nibble

pub returns-clause-shortest : goal.returns-clause-shortest
returns-clause-shortest c = λ plain others h.
    let whole = reaches_whole others c.args.operand c.args.function h in
    let front : length (spelled c.if-is_prefix.spelling) ≤ whole.0 =
    elim c.if-is_prefix.branch [
      | then-is_prefix w ↦ cc
      | else-is_prefix w ↦
          let same : length (spelled c.if-is_prefix.spelling) ≡ length (spelled w.prefixes_for-spelling.result) =
          ap (λ s. length (spelled s)) w.spelling-is in
          omega (arith, same, w.prefixes_for-spelling.ensures.fewest whole.0 whole.2)
    ] in
    let count : length (spelled c.push.new.self) ≡ length (spelled c.if-is_prefix.spelling) + 1 =
    ap length c.push.ensures ∙ length-append (spelled c.if-is_prefix.spelling) (c.byte_of.result ∷ []) in
    omega (arith, count, front, whole.1)
