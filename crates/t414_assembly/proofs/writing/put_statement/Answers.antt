use Rattle.std.proofs.Common.{◌≡◌, ◌≤◌, ◌+◌, ◌-◌, ◌%◌, ◌++◌, length, max}
use Rattle.std.proofs.Common.{replicate, slice_index, sym, ap, ◌∙◌, subst, arith}
use Rattle.std.proofs.lemmas.List.{length-replicate}
use Rattle.t414_assembly.specs.declared.statement.Statement.TheVariants.{Instruction}
use Rattle.t414_assembly.specs.Spelled.{spelled, Means, IsShortest, IsByteOf}
use Rattle.t414_assembly.specs.Program.{address_of}
use Rattle.t414_assembly.specs.Layout.{gap, PutsPiece, IsTight, size_of}
use Rattle.t414_assembly.specs.Usual.{usual}
use Rattle.t414_assembly.proofs.Pieces.{instruction_piece, piece_length, align_piece}
use Rattle.t414_assembly.proofs.writing.put_statement.Goals as goal

pub returns-in_ok-put_padded-in-Instruction-clause-put : goal.returns-in_ok-put_padded-in-Instruction-clause-put
returns-in_ok-put_padded-in-Instruction-clause-put c = λ none.
    let operand = c.operand_at-operand.ensures in
    let tight : IsTight c.args.room (Instruction c.in-Instruction.function c.in-Instruction.operand) =
    subst (IsTight c.args.room) c.in-Instruction.is c.requires.tight in
    let fits : length (spelled c.spell-spelling.result) ≤ c.args.room =
    omega (arith, c.if-room-count.false, c.count.ensures.count) in
    subst (λ s. PutsPiece c.args.origin c.args.starts.now c.args.place c.args.room s
    c.args.bytes.now.items c.put_padded.new.bytes.items)
    (sym c.in-Instruction.is) (
      replicate (c.args.room - length (spelled c.spell-spelling.result)) 0x20 ++ spelled c.spell-spelling.result,
      c.in_ok-put_padded-in-Instruction.ensures,
      piece_length c.args.room (spelled c.spell-spelling.result) fits,
      instruction_piece (address_of c.args.origin c.args.starts.now) (c.args.place + 1) c.args.room
          c.in-Instruction.function c.in-Instruction.operand (spelled c.spell-spelling.result)
          (λ off. subst (Means (spelled c.spell-spelling.result) c.in-Instruction.function) operand
          (c.spell-spelling.ensures.means off))
          (λ off. subst (IsShortest (spelled c.spell-spelling.result) c.in-Instruction.function) operand
          (c.spell-spelling.ensures.shortest off))
          (λ on. subst (λ n. IsByteOf c.in-Instruction.function (n % 16) (spelled c.spell-spelling.result)) operand
          (c.spell-spelling.ensures.prefix on))
          (c.spell-spelling.ensures.usual ∙ ap (usual c.in-Instruction.function) operand)
          tight,
    )

pub returns-in_ok-put_copies-in-Align-clause-put : goal.returns-in_ok-put_copies-in-Align-clause-put
returns-in_ok-put_copies-in-Align-clause-put c = λ none.
    let is : c.gap.result ≡ gap (max c.in-Align.size 1) (address_of c.args.origin c.args.starts.now c.args.place) =
    c.gap.ensures ∙ ap (λ m. gap m c.address_at-address.result) c.max.ensures
    ∙ ap (gap (max c.in-Align.size 1)) c.address_at-address.ensures in
    let next =
    ap (λ s. slice_index c.args.starts.now c.args.place
    + size_of (address_of c.args.origin c.args.starts.now c.args.place) c.args.room s)
    c.in-Align.is in
    subst (λ s. PutsPiece c.args.origin c.args.starts.now c.args.place c.args.room s
    c.args.bytes.now.items c.put_copies.new.bytes.items)
    (sym c.in-Align.is) (
      replicate (gap (max c.in-Align.size 1) (address_of c.args.origin c.args.starts.now c.args.place)) 0,
      c.in_ok-put_copies-in-Align.ensures ∙ ap (λ n. c.args.bytes.now.items ++ replicate n 0) is,
      length-replicate (gap (max c.in-Align.size 1) (address_of c.args.origin c.args.starts.now c.args.place)) 0,
      align_piece c.args.origin c.args.starts.now c.args.place c.in-Align.size (c.requires.next ∙ next),
    )
