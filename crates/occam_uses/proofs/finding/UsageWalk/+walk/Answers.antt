use Rattle.std.proofs.Common.{◌++◌, ◌&&◌, is_none, drop, sym, ap, ◌∙◌}
use Rattle.std.proofs.lemmas.List.{drop-append-le}
use Rattle.std.proofs.lemmas.Result.{on_ok_weaker}
use Rattle.occam_core.specs.declared.process.CoreProcess.{CoreProcess}
use Rattle.occam_uses.specs.Uses.{are_apart, is_used_well, process_uses}
use Rattle.occam_uses.proofs.Clashes.{components_well}
use Rattle.occam_uses.proofs.finding.UsageWalk.+walk.Goals as goal

pub go_through_others-returns-in_ok-add_all-in-Parallel-clause-clash :
    goal.go_through_others-returns-in_ok-add_all-in-Parallel-clause-clash
go_through_others-returns-in_ok-add_all-in-Parallel-clause-clash t c =
    let old = c.args.self.now in
    let before = drop c.args.group old.uses.items in
    let uses = λ (p : CoreProcess). process_uses c.args.place c.args.indices.now p in
    let well = λ (p : CoreProcess). is_used_well c.args.place c.args.indices.now p in
    let first = c.deref.result.now in
    let rest = c.deref-in-Parallel-2.result.now in
    on_ok_weaker c.go_through_others.result
    (λ e.
    components_well before (uses first) (uses rest) _ (is_none old.clash) _ _ (well first) (well rest)
    (ap (drop c.args.group) c.in_ok-go_through_next-in-Parallel.ensures.uses
    ∙ drop-append-le c.args.group old.uses.items (uses first) c.requires.group)
    c.in_ok-go_through_next-in-Parallel.ensures.clash e
    ∙ ap (λ a. is_none old.clash
    && ((well a && well rest && are_apart (uses a) (uses rest)) && are_apart before (uses a ++ uses rest)))
    c.deref.ensures
    ∙ ap (λ b. is_none old.clash
    && ((well c.in-Parallel.p.value && well b && are_apart (uses c.in-Parallel.p.value) (uses b))
    && are_apart before (uses c.in-Parallel.p.value ++ uses b)))
    c.deref-in-Parallel-2.ensures
    ∙ ap (λ p. is_none old.clash && (well p && are_apart before (uses p))) (sym c.in-Parallel.is))
    c.go_through_others.ensures.clash
