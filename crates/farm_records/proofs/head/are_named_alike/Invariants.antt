use Rattle.std.proofs.Common.{IfSome, slice_get}
use Rattle.farm_records.proofs.Names.{AreNamedAlikeBelow}
use Rattle.farm_records.proofs.head.are_named_alike.Given as goal

abbrev pub invariant-loop-user : goal.invariant-loop-user
invariant-loop-user l =
    IfSome (slice_get l.alone 0)
    (λ d. IfSome (slice_get l.plan l.number) (λ e. AreNamedAlikeBelow l.user d.users e.users))
