-- A moment that goes on by calls: the contracts of `ReplayedDomain::open`, `apply_event` and `apply_steps`,
-- and the law `moments_go_on`.
use Rattle.std.specs.Prelude.{◌≡◌, ◌+◌, ◌++◌, ◌∷◌, [], ℕ, zero, suc, List, Option}
use Rattle.std.specs.Prelude.{Some, None, Ok, IfSome, replicate, slice_get}
use Rattle.std.proofs.Common.{refl, ap, sym, subst, ◌∙◌, arith}
use Rattle.std.proofs.lemmas.List.{replicate_more, length-replicate, length-append, map-append}
use Rattle.t414_step.specs.declared.stepping.Stepped.{Stepped}
use Rattle.t414_step.specs.declared.stepping.Stepped.TheVariants.{Ran}
use Rattle.plan_rules.specs.Data.{DomainData}
use Rattle.plan_rules.specs.Part.{PartData, part_of}
use Rattle.domain_core.specs.declared.event.By.TheVariants.{Farm}
use Rattle.domain_core.specs.declared.event.Event.TheVariants.{Step}
use Rattle.domain_core.specs.declared.event.Reply.{Reply}
use Rattle.domain_core.specs.Journal.{AnsweredCall, calls_of, answered_step, IsHistory}
use Rattle.domain_core.specs.Laws.{HistoriesGrow}
use Rattle.domain_core.specs.Moments.{MomentValue, state_at, LeadsOn}
use Rattle.domain_core.specs.PrivateFarm.{State, Answer, Call, next, opening}
use Rattle.domain_core.specs.Ticket.{steps_told}
use Rattle.record_following.specs.Following.{calls_said, FollowsCalls}
use Rattle.record_following.specs.Following.{MovesOn, IsStateAfter, IsMomentAfter, MomentsGoOn}

-- a moment that answers a call, and records it, goes on by that call
pub one_call : HistoriesGrow
    → (old new : MomentValue) (call : Call) (reply : Reply)
    → next old.machine.part (state_at old) call ≡ (state_at new, Ok reply) → new.machine.part ≡ old.machine.part
    → new.recorded ≡ old.recorded + 1
    → MovesOn old (call ∷ []) new
one_call grow old new call reply called part recorded =
    let one : AnsweredCall = record { call = call; reply = reply } in
    let told : (next old.machine.part (state_at old) call).1 ≡ Ok reply = ap (λ (p : State × Answer). p.1) called in
    let left : (next old.machine.part (state_at old) call).0 ≡ state_at new = ap (λ (p : State × Answer). p.0) called in
    record {
      part = part;
      follows = record {
        gain = one ∷ [];
        calls_are = refl;
        leads =
            λ history of. subst (λ (t : State). IsHistory old.machine.part (history ++ one ∷ []) t) left
            (grow old.machine.part history (state_at old) call reply of told);
        recorded_is = recorded;
      };
    }

-- more + 1 is the number after more
pub one_more : (more : ℕ) → more + 1 ≡ suc more
one_more more = omega arith

-- Steps whose last ran all ran
ran_told : (node count : ℕ) → steps_told node count (Some Ran) ≡ replicate count (answered_step Farm node Ran)
ran_told node zero = refl
ran_told node (suc more) =
    replicate_more more (answered_step Farm node Ran)
    ∙ ap (λ n. replicate n (answered_step Farm node Ran)) (one_more more)

-- the calls of alike answers are alike
pub alike_calls : (count : ℕ) (a : AnsweredCall) → calls_of (replicate count a) ≡ replicate count a.call
alike_calls zero a = refl
alike_calls (suc more) a = ap (λ calls. a.call ∷ calls) (alike_calls more a)

-- a moment in which a node did as many Steps as were asked, and all ran, goes on by them
pub steps_ran : (old new : MomentValue) (node times steps : ℕ) (last : Option Stepped)
    → steps ≡ times → last ≡ Some Ran
    → LeadsOn old.machine.part (state_at old) (steps_told node steps last) (state_at new)
    → new.recorded ≡ old.recorded + steps → new.machine.part ≡ old.machine.part
    → MovesOn old (calls_said (record { times = times; by = Farm; event = Step node })) new
steps_ran old new node times steps last count ran leads recorded part =
    let call : Call = record { by = Farm; event = Step node } in
    let told : steps_told node steps last ≡ replicate times (answered_step Farm node Ran) =
    ap (λ n. steps_told node n last) count ∙ (ap (λ l. steps_told node times l) ran ∙ ran_told node times) in
    record {
      part = part;
      follows = record {
        gain = steps_told node steps last;
        calls_are = ap calls_of told ∙ alike_calls times (answered_step Farm node Ran);
        leads = leads;
        recorded_is = omega (arith, recorded, count, length-replicate times call);
      };
    }

-- as it is opened, no call has come
opened_at : (domain : Option DomainData) (m : MomentValue)
    → IfSome domain (λ domain. state_at m ≡ opening (part_of domain))
    → IfSome domain (λ domain. m.machine.part ≡ part_of domain)
    → IfSome domain (λ domain. (m.machine.part ≡ part_of domain) × IsStateAfter (part_of domain) [] (state_at m))
opened_at None m state part = tt
opened_at (Some d) m state part = (
  part,
  record {
    history = [];
    calls_are = refl;
    leads = record { state = sym state; replies = refl };
    recorded_is = ap (λ (s : State). s.recorded) state;
  },
)

-- a moment that is as a domain is opened is the moment after no call
pub opened : (plan : List DomainData) (number : ℕ) (m : MomentValue)
    → IfSome (slice_get plan number) (λ d. state_at m ≡ opening (part_of d))
    → IfSome (slice_get plan number) (λ d. m.machine.part ≡ part_of d)
    → IsMomentAfter plan number [] m
opened plan number m state part = opened_at (slice_get plan number) m state part

-- a state after calls, and after others after them
state_on : (part : PartData) (s t : State) (xs ys : List Call) → IsStateAfter part xs s → FollowsCalls part s ys t
    → IsStateAfter part (xs ++ ys) t
state_on part s t xs ys given holds = record {
  history = given.history ++ holds.gain;
  calls_are =
      map-append (λ (it : AnsweredCall). it.call) given.history holds.gain
      ∙ (ap (λ cs. cs ++ calls_of holds.gain) given.calls_are ∙ ap (λ cs. xs ++ cs) holds.calls_are);
  leads = holds.leads given.history given.leads;
  recorded_is = omega (arith, given.recorded_is, holds.recorded_is, length-append xs ys);
}

-- a moment after calls, and after others after them
moved_at : (domain : Option DomainData) (xs ys : List Call) (moment other_moment : MomentValue)
    → IfSome domain (λ domain. (moment.machine.part ≡ part_of domain)
    × IsStateAfter (part_of domain) xs (state_at moment)) → MovesOn moment ys other_moment
    → IfSome domain (λ domain. (other_moment.machine.part ≡ part_of domain)
    × IsStateAfter (part_of domain) (xs ++ ys) (state_at other_moment))
moved_at None xs ys moment other_moment is on = tt
moved_at (Some d) xs ys moment other_moment is on = (
  on.part ∙ is.0,
  state_on (part_of d) (state_at moment) (state_at other_moment) xs ys is.1
      (subst (λ (p : PartData). FollowsCalls p (state_at moment) ys (state_at other_moment)) is.0 on.follows),
)

-- a moment after some calls, which goes on by others, is the moment after all of them
pub moment_on : MomentsGoOn
moment_on plan number xs ys f g is on = moved_at (slice_get plan number) xs ys f g is on
