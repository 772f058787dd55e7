use Rattle.std.proofs.Common.{◌∷◌, [], replicate, subst, sym}
use Rattle.std.proofs.lemmas.Result.{IfOk-weaker}
use Rattle.std.specs.Prelude.{OnOk}
use Rattle.domain_core.specs.declared.event.Event.TheVariants.{Step}
use Rattle.domain_core.specs.declared.journal.Entry.{Entry}
use Rattle.domain_core.specs.declared.journal.Entry.TheVariants.{Run}
use Rattle.domain_core.specs.Moments.{MomentValue}
use Rattle.record_following.specs.Following.{MovesOn, entry_calls}
use Rattle.record_following.proofs.EntryCalls.{moves_run}
use Rattle.record_following.proofs.following.ReplayedDomain.apply_entry.Goals as goal

pub returns-in-One : goal.returns-in-One
returns-in-One c =
    let old : MomentValue = c.args.self.now in
    let new : MomentValue = c.apply_with_reply.new.self in
    subst (λ (entry : Entry). OnOk c.apply_with_reply.result (MovesOn old (entry_calls (entry ∷ [])) new))
    (sym c.in-One.is) c.apply_with_reply.ensures

pub returns-in-Run : goal.returns-in-Run
returns-in-Run c =
    let run = c.in-Run in
    let old : MomentValue = c.args.self.now in
    let new : MomentValue = c.apply_run.new.self in
    subst (λ (entry : Entry). OnOk c.apply_run.result (MovesOn old (entry_calls (entry ∷ [])) new)) (sym run.is)
    (IfOk-weaker c.apply_run.result
    (λ _. MovesOn old (replicate run.count (record { by = run.by; event = Step run.node })) new)
    (λ _. MovesOn old (entry_calls (Run run.by run.node run.count run.last ∷ [])) new)
    (λ _ moves. moves_run old new run.by run.node run.count run.last moves) c.apply_run.ensures)
