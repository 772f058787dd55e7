use Rattle.std.proofs.Common.{rules, ◌≡◌, ◌≢◌, ◌<◌, ◌+◌, ◌++◌, ◌∷◌, [], ◌∙◌, length, get_or, Err, sym, ap, subst}
use Rattle.domain_core.specs.declared.event.By.TheVariants.{User}
use Rattle.domain_core.specs.declared.event.Event.TheVariants.{Config}
use Rattle.domain_core.specs.declared.event.Refusal.TheVariants.{NoSuch}
use Rattle.domain_core.specs.PrivateFarm.{Answer}
use Rattle.farm_example.proofs.OwnAnswers.{AreTaken, taken-here, taken-there}
use Rattle.farm_example.proofs.alone.answers_of.Goals as goal
use Rattle.farm_example.proofs.alone.answers_of.Goals.{then-calls-index+in_ok-push, else-calls-index}

pub loop-index-preserved : goal.loop-index-preserved
loop-index-preserved c =
    let calls = c.args.calls.now in
    let told = c.in_ok-answers.answers.items in
    let index = c.loop-index.index in
    let within : index < length calls = search rules in
    let there : index < length told = search rules in
    elim c.if-calls-index.branch [
      | then-calls-index+in_ok-push w ↦
          let answer : Answer = w.index.result.now in
          let read : answer ≡ get_or told index answer = search rules in
          let items : c.if-calls-index.own.items ≡ c.loop-index.own.items ++ get_or told index answer ∷ [] =
          ap (λ own. own.items) w.own-is ∙ w.in_ok-push.ensures.items
          ∙ ap (λ (a : Answer). c.loop-index.own.items ++ a ∷ []) read in
          subst (AreTaken c.args.domain calls told (index + 1)) (sym items)
          (taken-here c.args.domain calls told index (0, User 0, Config 0) answer c.loop-index.own.items within
          there w.if-calls-index.true c.loop-index.invariant)
      | else-calls-index w ↦
          subst (AreTaken c.args.domain calls told (index + 1)) (sym (ap (λ own. own.items) w.own-is))
          (taken-there c.args.domain calls told index (0, User 0, Config 0) (Err NoSuch) c.loop-index.own.items within
          there w.if-calls-index.false c.loop-index.invariant)
    ]
