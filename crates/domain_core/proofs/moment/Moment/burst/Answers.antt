use Rattle.std.proofs.Common.{Result, Ok, Err, None, refl, ◌∙◌, ◌≢◌, ◌-◌, min}
use Rattle.std.proofs.Common.{rules, arith, ◌≡◌, ◌≤◌, ◌<◌, ◌++◌, ◌+◌, ap, sym, subst, length, ℕ, Option, true}
use Rattle.std.specs.Prelude.{slice_get, Some}
use Rattle.std.proofs.lemmas.Bool.Decides.{nat_tests}
use Rattle.std.proofs.lemmas.Option.{slice_get-get_or, slice_get_within}
use Rattle.plan_rules.specs.Part.{PartData}
use Rattle.t414_step.specs.declared.stepping.Stepped.{Stepped}
use Rattle.bootstrap.specs.declared.burst.Burst.{Burst}
use Rattle.bootstrap.specs.declared.node.Node.{Node}
use Rattle.bootstrap.specs.Opening.{opened_node}
use Rattle.domain_core.specs.declared.event.By.TheVariants.{Farm}
use Rattle.domain_core.specs.declared.event.Event.TheVariants.{Step}
use Rattle.domain_core.specs.declared.event.Refusal.{Refusal}
use Rattle.domain_core.specs.declared.event.Refusal.TheVariants.{NoSuch}
use Rattle.domain_core.specs.Devices.{node_at}
use Rattle.domain_core.specs.Journal.{IsHistory}
use Rattle.domain_core.specs.MachineValue.{MachineValue, machine_of}
use Rattle.domain_core.specs.Moments.{MomentValue, state_at}
use Rattle.domain_core.specs.PrivateFarm.{State, is_there}
use Rattle.domain_core.specs.Ticket.{steps_told}
use Rattle.domain_core.proofs.Commits.{history_steps, stepped_on}
use Rattle.domain_core.proofs.Meant.{same_history}
use Rattle.domain_core.proofs.moment.Moment.burst.Goals as goal

-- what a burst comes to, or why it is refused
abbrev BurstOutcome : Type 0
BurstOutcome = Result Burst Refusal

-- a burst isn't a refusal
was_told : (told : BurstOutcome) (burst : Burst) → told ≡ Ok burst → told ≢ Err NoSuch
was_told told burst is other = absurd cc

-- a node that is there isn't none
was_there : (found : Option Node) (n : Node) → found ≡ Some n → found ≢ None
was_there found n is other = absurd cc

-- no more Steps were done than were asked for
at_most_these : (steps most other_most room : ℕ) → steps ≤ most → most ≡ min other_most room → steps ≤ other_most
at_most_these steps most other_most room few is = omega (arith, few, is)

-- what is recorded is at most the limit
left_over : (recorded limit same : ℕ) → recorded ≤ same → limit ≡ same → recorded ≤ limit
left_over recorded limit same below limits = omega (arith, below, limits)

-- and is so with the Steps
within : (steps most other_most recorded limit same now : ℕ) → steps ≤ most → most ≡ min other_most (limit - recorded)
    → recorded ≤ same → limit ≡ same → now ≡ same
    → recorded + steps ≤ now
within steps most other_most recorded limit same now few is below limits stays =
    omega (arith, few, is, below, limits, stays)

pub overflow_sub-room : goal.overflow_sub-room
overflow_sub-room c =
    left_over _ _ _ c.self.invariant (c.limit.ensures.limit ∙ ap (λ (p : PartData). p.limit) c.part.ensures)

pub invariant_of-self : goal.invariant_of-self
invariant_of-self c =
    within _ _ _ _ _ _ _ c.burst-burst.ensures.burst.most c.at_most.ensures c.self.invariant
    (c.limit.ensures.limit ∙ ap (λ (p : PartData). p.limit) c.part.ensures)
    (ap (λ (v : MachineValue). v.part.limit) c.burst-burst.ensures.state)

pub returns-clause-no_such : goal.returns-clause-no_such
returns-clause-no_such c = (
  λ is. absurd (was_told _ c.burst-burst.result refl is),
  λ none. absurd (was_there _ c.in-Some._home.now (sym c.in-Some.ensures.node)
      (ap (λ (m : MomentValue). slice_get m.machine.devices.nodes c.args.node) c.self.view_is ∙ none)),
)

pub returns-in_default-clause-no_such : goal.returns-in_default-clause-no_such
returns-in_default-clause-no_such c = (
  λ _. ap (λ (m : MomentValue). slice_get m.machine.devices.nodes c.args.node) (sym c.self.view_is)
      ∙ sym c.in_default.ensures.node,
  λ _. refl,
)

pub burst-burst-requires : goal.burst-burst-requires
burst-burst-requires c =
    slice_get_within c.self.inside.machine.devices.nodes c.args.node c.in-Some._home.now (sym c.in-Some.ensures.node)

pub returns-clause-most : goal.returns-clause-most
returns-clause-most c = at_most_these _ _ _ _ c.burst-burst.ensures.burst.most c.at_most.ensures

pub returns-clause-steps : goal.returns-clause-steps
returns-clause-steps c history of =
    let now : MomentValue = record { machine = c.self.inside.machine; recorded = c.self.inside.recorded } in
    let start : Node = node_at now.machine.devices c.args.node in
    let k : ℕ = c.burst-burst.result.steps in
    let there : c.args.node < length now.machine.devices.nodes =
    slice_get_within now.machine.devices.nodes c.args.node c.in-Some._home.now (search rules) in
    let at : slice_get now.machine.devices.nodes c.args.node ≡ Some start =
    slice_get-get_or now.machine.devices.nodes c.args.node (opened_node 0) there in
    let known : is_there now.machine.part (record { by = Farm; event = Step c.args.node }) ≡ true =
    grind (arith, nat_tests) in
    let room : now.recorded + k ≤ now.machine.part.limit =
    omega (
      arith,
      c.self.invariant,
      c.burst-burst.ensures.burst.most,
      c.limit.ensures.limit,
      ap (λ (p : PartData). p.limit) c.part.ensures,
      c.at_most.ensures,
    ) in
    let before : IsHistory now.machine.part history (state_at now) =
    subst (λ (m : MomentValue). IsHistory m.machine.part history (state_at m)) (sym c.self.view_is) of in
    let long =
    history_steps c.recorded_step_ran.ensures.ran now.machine.part history (state_at now) c.args.node k start known at
    before room c.burst-burst.ensures.burst.steps.recorded in
    let state : stepped_on (state_at now) c.args.node start k
    ≡ state_at (record { machine = c.burst-burst.new.self; recorded = now.recorded + k }) =
    ap (λ (v : MachineValue). let s : State = record { machine = machine_of v; recorded = now.recorded + k } in s)
    (sym c.burst-burst.ensures.state) in
    same_history (ap (λ (m : MomentValue). m.machine.part) c.self.view_is)
    (ap (λ (o : Option Stepped). history ++ steps_told c.args.node k o) (sym c.burst-burst.ensures.burst.last)) state
    long
