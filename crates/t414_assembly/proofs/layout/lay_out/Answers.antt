use Rattle.std.proofs.Common.{subst, ◌≡◌, ◌<◌, ◌*◌, ◌-◌, length, sum, sym, ap, ◌∙◌, arith}
use Rattle.std.specs.Vec.{with_items}
use Rattle.std.proofs.lemmas.List.{with_items_is}
use Rattle.t414_assembly.proofs.Growing.{sum-most}
use Rattle.t414_assembly.proofs.layout.lay_out.Goals as goal

pub loop-rooms-smaller : goal.loop-rooms-smaller
loop-rooms-smaller c =
    let more = c.in_ok-bytes.ensures.grown c.in_default.is in
    let most = sum-most c.lay_out_once.new.rooms c.in_ok-bytes.ensures.rooms.most in
    let count = c.in_ok-bytes.ensures.rooms.count in
    let value : sum c.as_mut_slice.result.now ≡ sum c.loop-rooms.rooms.items = ap sum c.as_mut_slice.ensures.value in
    let smaller : length c.args.statements.now * 8 - sum c.lay_out_once.new.rooms
    < length c.args.statements.now * 8 - sum c.loop-rooms.rooms.items =
    omega (arith, more, most, count, value) in
    let written : sum (with_items c.loop-rooms.rooms c.lay_out_once.new.rooms).items ≡ sum c.lay_out_once.new.rooms =
    ap sum
    (with_items_is c.loop-rooms.rooms c.lay_out_once.new.rooms
    (count ∙ sym c.loop-rooms.invariant.count ∙ ap length (sym c.as_mut_slice.ensures.value)
    ∙ c.as_mut_slice.ensures.len)) in
    subst (λ n. length c.args.statements.now * 8 - n < length c.args.statements.now * 8 - sum c.loop-rooms.rooms.items)
    (sym written) smaller
