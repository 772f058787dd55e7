use Rattle.std.proofs.Common.{◌≡◌, ◌≤ℤ◌, ◌<ℤ◌, ◌+ℤ◌, pos, arith, refl, rules, sym, ◌∙◌, w64, SFits, take}
use Rattle.std.proofs.lemmas.Int.{ints, to_z-of_z}
use Rattle.plan_rules.specs.Separate.{port_count}
use Rattle.plan_rules.proofs.RuleLemmas.{port_within, port_past, length_least, fits_less}
use Rattle.plan_rules.proofs.ports.is_virtual_port.Goals as goal

pub returns-then-left-length : goal.returns-then-left-length
returns-then-left-length c =
    let port : c.args.port ≡ port_count (take c.loop-range.range-index c.args.ranges.now) +ℤ c.loop-range.left =
    sym (to_z-of_z w64 _ c.ranges.port) ∙ rw c.loop-range.left-is at c.loop-range.invariant.1 in
    let fits : SFits w64 c.length_of-length.result = search rules in
    let test = rw (c.loop-range.left-is, to_z-of_z w64 _ fits) at c.if-left-length.true in
    let less : c.loop-range.left <ℤ c.length_of-length.result = grind (arith, ints, test) in
    let low : pos 0 ≤ℤ c.args.port = grind (arith, ints, c.if-port-lt0.false, to_z-of_z w64 _ c.ranges.port) in (
      λ _. (
        low,
        port_within c.args.ranges.now c.loop-range.range-index (record { first = pos 0; last = pos 0 }) c.args.port
            c.loop-range.left c.requires (omega arith) port (rw c.length_of-length.ensures at less),
      ),
      λ _. refl,
    )

pub overflow_sub-left : goal.overflow_sub-left
overflow_sub-left c =
    let fits : SFits w64 c.length_of-length.result = search rules in
    let here : SFits w64 c.loop-range.left = rw (← c.loop-range.left-is) (search rules) in
    let test = rw (c.loop-range.left-is, to_z-of_z w64 _ fits) at c.if-left-length.false in
    let more : c.length_of-length.result ≤ℤ c.loop-range.left = grind (arith, ints, test) in
    let least =
    length_least c.args.ranges.now c.loop-range.range-index (record { first = pos 0; last = pos 0 }) c.requires
    (omega arith) in
    let low : pos 0 ≤ℤ c.length_of-length.result = omega (arith, ints, least, c.length_of-length.ensures) in
    rw (c.loop-range.left-is, to_z-of_z w64 _ fits) (fits_less _ _ here low more)

pub loop-range-preserved : goal.loop-range-preserved
loop-range-preserved c =
    let fits : SFits w64 c.length_of-length.result = search rules in
    let here : SFits w64 c.loop-range.left = rw (← c.loop-range.left-is) (search rules) in
    let test = rw (c.loop-range.left-is, to_z-of_z w64 _ fits) at c.if-left-length.false in
    let more : c.length_of-length.result ≤ℤ c.loop-range.left = grind (arith, ints, test) in
    let least =
    length_least c.args.ranges.now c.loop-range.range-index (record { first = pos 0; last = pos 0 }) c.requires
    (omega arith) in
    let low : pos 0 ≤ℤ c.length_of-length.result = omega (arith, ints, least, c.length_of-length.ensures) in
    let next = fits_less _ _ here low more in
    rw (c.loop-range.left-is, to_z-of_z w64 _ fits, to_z-of_z w64 _ next, c.length_of-length.ensures) (
      omega (arith, ints, more, c.length_of-length.ensures),
      port_past c.args.ranges.now c.loop-range.range-index (record { first = pos 0; last = pos 0 }) _ c.loop-range.left
          (omega arith) (rw c.loop-range.left-is at c.loop-range.invariant.1),
    )
