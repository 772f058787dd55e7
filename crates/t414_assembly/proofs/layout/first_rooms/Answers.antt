use Rattle.std.proofs.Common.{◌≡◌, length, replicate, sym, subst, ap, ◌∙◌, arith}
use Rattle.t414_assembly.specs.Layout.{AreRooms}
use Rattle.t414_assembly.proofs.Growing.{rooms_of_ones}
use Rattle.t414_assembly.proofs.layout.first_rooms.Goals as goal

pub returns : goal.returns
returns c =
    let count : c.loop.index ≡ length c.args.statements.now = omega (arith, c.loop-test.false, c.loop.auto.index-end) in
    subst (AreRooms c.args.statements.now) (sym (c.loop.invariant ∙ ap (λ n. replicate n 1) count))
    (rooms_of_ones c.args.statements.now)
