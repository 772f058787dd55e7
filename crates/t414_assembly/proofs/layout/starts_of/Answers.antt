use Rattle.std.proofs.Common.{◌≤◌, ◌+◌, slice_index, [], sym, subst, ap, ◌∙◌, arith}
use Rattle.std.proofs.lemmas.List.{get_or_at}
use Rattle.std.proofs.lemmas.Option.{slice_get-get_or}
use Rattle.t414_assembly.specs.Layout.{AreStarts}
use Rattle.t414_assembly.proofs.Growing.{more_starts}
use Rattle.t414_assembly.proofs.layout.starts_of.Goals as goal

pub loop-place-preserved : goal.loop-place-preserved
loop-place-preserved c =
    let most : c.loop-place.start + c.size_of-size.result ≤ 65464 =
    omega (arith, c.if-size-start.false, c.loop-place.invariant.most) in
    let starts =
    more_starts c.args.origin c.args.statements.now c.args.rooms.now c.loop-place.place c.loop-place.starts.items
    c.loop-place.start c.size_of-size.result _
    c.loop-place.invariant.starts c.loop-place.invariant.last
    (slice_get-get_or c.args.statements.now c.loop-place.place _ c.loop-place-test.true) c.size_of-size.ensures most in
    record {
      starts =
          subst (AreStarts c.args.origin c.args.statements.now c.args.rooms.now (c.loop-place.place + 1))
          (sym c.in_ok-push-2.ensures.items) starts;
      last =
          ap (λ xs. slice_index xs (c.loop-place.place + 1)) c.in_ok-push-2.ensures.items
          ∙ get_or_at c.loop-place.starts.items (c.loop-place.start + c.size_of-size.result) [] 0
          (c.loop-place.place + 1) c.loop-place.invariant.starts.count;
      most = most;
    }
