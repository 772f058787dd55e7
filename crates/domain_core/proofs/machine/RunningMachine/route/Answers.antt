use Rattle.std.proofs.Common.{◌≡◌, ◌<◌, ℕ, get_or, subst, sym, ap, ◌∙◌, Some, None}
use Rattle.virtual_switch.specs.SwitchValue.{SwitchValue, private_of}
use Rattle.domain_core.specs.declared.event.Moved.{Moved}
use Rattle.domain_core.specs.declared.event.Moved.TheVariants.{Nothing}
use Rattle.domain_core.specs.declared.moves.Route.{Route}
use Rattle.domain_core.specs.Devices.{DeviceStates, HasDevice, device_at}
use Rattle.domain_core.specs.MachineValue.{MachineValue, IsOfPart}
use Rattle.domain_core.specs.Moves.{moved}
use Rattle.domain_core.specs.Routes.{HasItsDevice}
use Rattle.domain_core.proofs.Outcomes.{holds_at, joined_is, none_of, moved_nowhere, moved_nothing}
use Rattle.domain_core.proofs.machine.RunningMachine.route.Goals as goal
use Rattle.domain_core.proofs.machine.RunningMachine.route.Goals.{in-Lost, in-Stayed, in-Passed}

-- ---- the port has no device

pub returns-in_default-clause-answer : goal.returns-in_default-clause-answer
returns-in_default-clause-answer g c =
    let v : MachineValue =
    record { part = c.self.inside.part; switch = c.self.inside.switch; devices = c.self.inside.devices } in
    let here : c.args.port < v.part.count =
    subst (λ (m : MachineValue). c.args.port < m.part.count) (sym c.self.view_is) c.requires in
    let none : device_at v.part c.args.port ≡ None =
    sym (c.self.invariant.1 c.args.port here) ∙ ap (λ (p : ℕ). get_or c.self.inside.table p None) (sym c.from.ensures)
    ∙ none_of _ c.in_default.not-Some in
    let told = moved_nowhere v.part (private_of v.switch) v.devices c.args.port none in
    subst (λ (m : MachineValue). Nothing ≡ (moved m.part (private_of m.switch) m.devices c.args.port).1) c.self.view_is
    (sym (ap (λ (p : DeviceStates × Moved). p.1) told))

pub returns-in_default-clause-leaves : goal.returns-in_default-clause-leaves
returns-in_default-clause-leaves g c =
    let v : MachineValue =
    record { part = c.self.inside.part; switch = c.self.inside.switch; devices = c.self.inside.devices } in
    let here : c.args.port < v.part.count =
    subst (λ (m : MachineValue). c.args.port < m.part.count) (sym c.self.view_is) c.requires in
    let none : device_at v.part c.args.port ≡ None =
    sym (c.self.invariant.1 c.args.port here) ∙ ap (λ (p : ℕ). get_or c.self.inside.table p None) (sym c.from.ensures)
    ∙ none_of _ c.in_default.not-Some in
    let told = moved_nowhere v.part (private_of v.switch) v.devices c.args.port none in
    subst (λ (m : MachineValue). m.devices ≡ (moved m.part (private_of m.switch) m.devices c.args.port).0)
    c.self.view_is
    (sym (ap (λ (p : DeviceStates × Moved). p.0) told))

-- ---- no packet waits there

pub waiting-requires : goal.waiting-requires
waiting-requires g c =
    let v : MachineValue =
    record { part = c.self.inside.part; switch = c.self.inside.switch; devices = c.self.inside.devices } in
    let here : c.args.port < v.part.count =
    subst (λ (m : MachineValue). c.args.port < m.part.count) (sym c.self.view_is) c.requires in
    holds_at v c.self.inside.table c.args.port c.in-Some.device c.self.invariant.0 c.self.invariant.1 here
    (ap (λ (p : ℕ). get_or c.self.inside.table p None) (sym c.from.ensures) ∙ c.in-Some.is)

pub returns-in_default-waiting-clause-answer : goal.returns-in_default-waiting-clause-answer
returns-in_default-waiting-clause-answer g c =
    let v : MachineValue =
    record { part = c.self.inside.part; switch = c.self.inside.switch; devices = c.self.inside.devices } in
    let here : c.args.port < v.part.count =
    subst (λ (m : MachineValue). c.args.port < m.part.count) (sym c.self.view_is) c.requires in
    let is : device_at v.part c.args.port ≡ Some c.in-Some.device =
    joined_is v.part c.self.inside.table c.args.port (Some c.in-Some.device) c.self.invariant.1 here
    (ap (λ (p : ℕ). get_or c.self.inside.table p None) (sym c.from.ensures) ∙ c.in-Some.is) in
    let told =
    moved_nothing v.part (private_of v.switch) v.devices c.args.port c.in-Some.device is
    (sym c.waiting.ensures ∙ c.in_default-waiting.is) in
    subst (λ (m : MachineValue). Nothing ≡ (moved m.part (private_of m.switch) m.devices c.args.port).1) c.self.view_is
    (sym (ap (λ (p : DeviceStates × Moved). p.1) told))

pub returns-in_default-waiting-clause-leaves : goal.returns-in_default-waiting-clause-leaves
returns-in_default-waiting-clause-leaves g c =
    let v : MachineValue =
    record { part = c.self.inside.part; switch = c.self.inside.switch; devices = c.self.inside.devices } in
    let here : c.args.port < v.part.count =
    subst (λ (m : MachineValue). c.args.port < m.part.count) (sym c.self.view_is) c.requires in
    let is : device_at v.part c.args.port ≡ Some c.in-Some.device =
    joined_is v.part c.self.inside.table c.args.port (Some c.in-Some.device) c.self.invariant.1 here
    (ap (λ (p : ℕ). get_or c.self.inside.table p None) (sym c.from.ensures) ∙ c.in-Some.is) in
    let told =
    moved_nothing v.part (private_of v.switch) v.devices c.args.port c.in-Some.device is
    (sym c.waiting.ensures ∙ c.in_default-waiting.is) in
    subst (λ (m : MachineValue). m.devices ≡ (moved m.part (private_of m.switch) m.devices c.args.port).0)
    c.self.view_is
    (sym (ap (λ (p : DeviceStates × Moved). p.0) told))

-- ---- a packet waits

pub invariant_of-self : goal.invariant_of-self
invariant_of-self g c = (
  subst (λ (s : SwitchValue).
      IsOfPart (record { part = c.self.inside.part; switch = s; devices = c.self.inside.devices }))
      (sym (c.fate_of.ensures.unchanged ∙ c.drives-outputs.ensures.unchanged)) c.self.invariant.0,
  c.self.invariant.1,
)

pub returns-clause-device : goal.returns-clause-device
returns-clause-device g c =
    let v : MachineValue =
    record { part = c.self.inside.part; switch = c.self.inside.switch; devices = c.self.inside.devices } in
    let here : c.args.port < v.part.count =
    subst (λ (m : MachineValue). c.args.port < m.part.count) (sym c.self.view_is) c.requires in
    let held : HasDevice c.args.self.now.devices c.in-Some.device =
    subst (λ (m : MachineValue). HasDevice m.devices c.in-Some.device) c.self.view_is
    (holds_at v c.self.inside.table c.args.port c.in-Some.device c.self.invariant.0 c.self.invariant.1 here
    (ap (λ (p : ℕ). get_or c.self.inside.table p None) (sym c.from.ensures) ∙ c.in-Some.is)) in
    elim c.match-fate_of.branch [
      | in-Lost w ↦ subst (λ (r : Route). HasItsDevice c.args.self.now.devices r) (sym w.result-is) held
      | in-Stayed w ↦ subst (λ (r : Route). HasItsDevice c.args.self.now.devices r) (sym w.result-is) tt
      | in-Passed w ↦ subst (λ (r : Route). HasItsDevice c.args.self.now.devices r) (sym w.result-is) held
    ]

pub returns-clause-unchanged : goal.returns-clause-unchanged
returns-clause-unchanged g c =
    ap (λ (s : SwitchValue).
    let m : MachineValue = record { part = c.self.inside.part; switch = s; devices = c.self.inside.devices } in
    m)
    (c.fate_of.ensures.unchanged ∙ c.drives-outputs.ensures.unchanged)
    ∙ c.self.view_is
