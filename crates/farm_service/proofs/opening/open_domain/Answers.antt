use Rattle.std.proofs.Common.{◌≡◌, ◌∙◌, ℕ, List, length, slice_get, sym, ap, subst, Option, Some, IfOk, IfSome, Ok, Err}
use Rattle.std.specs.Prelude.{Result}
use Rattle.std.proofs.lemmas.Option.{get_or_from_slice_get}
use Rattle.plan_rules.specs.Data.{DomainData}
use Rattle.plan_rules.specs.Part.{PartData, part_of, physical_ports, IsNumbered}
use Rattle.crossbar.specs.Row.{Row}
use Rattle.domain_core.specs.Domain.{DomainValue, Fits}
use Rattle.farm_service.proofs.Openings.{there_is}
use Rattle.farm_service.proofs.opening.open_domain.Goals as goal
use Rattle.farm_service.proofs.opening.open_domain.Goals.{In_ok-part}

-- a domain's row
abbrev row_at : DomainValue → Row
row_at d = record { ports = d.machine.switch.ports; words = d.machine.switch.words }

-- a domain that is opened with the part and the ports of a plan's domain is that domain
fits : {E : Type 0} (result : Result DomainValue E) (plan : List DomainData) (number : ℕ) (domain : DomainData)
    (part : PartData) (seen : Row)
    → slice_get plan number ≡ Some domain → part ≡ part_of domain → seen.ports ≡ physical_ports domain
    → IfOk result (λ d. d.machine.part ≡ part) → IfOk result (λ d. row_at d ≡ seen)
    → IfOk result (Fits plan number)
fits (Ok d) plan number domain part seen there same ports is row = record {
  domain = domain;
  there = there;
  part = sym (is ∙ same);
  ports = sym (ap (λ (r : Row). r.ports) row ∙ ports);
}
fits (Err e) plan number domain part seen there same ports is row = tt

-- the plan's domain, its part, which was copied, and the ports of its seat
found : (it : In_ok-part)
    → (d : DomainData) × (slice_get it.args.plan.now it.args.number ≡ Some d)
    × (it.in_ok-part.part ≡ part_of d) × (it.args.seat.ports ≡ physical_ports d)
found it =
    let at = there_is it.args.plan.now it.args.number it.requires.number in (
      at.0,
      at.1,
      it.in_ok-part.ensures
          ∙ subst (λ (o : Option DomainData). IfSome o (λ d. it.part.result.now ≡ part_of d)) at.1 it.part.ensures,
      subst (λ (o : Option DomainData). IfSome o (λ d. it.args.seat.ports ≡ physical_ports d)) at.1
          it.requires.ports,
    )

pub open-requires : goal.open-requires
open-requires c =
    let d = found c in
    let plan = c.args.plan.now in
    let numbered =
    subst IsNumbered (get_or_from_slice_get plan c.args.number d.0 d.0 d.1)
    (c.separate_law.ensures.own c.args.number d.0 c.requires.number) in record {
      count = ap length d.3 ∙ numbered.count ∙ sym (ap (λ (p : PartData). p.count) d.2);
      cleared = c.requires.clear;
    }

pub returns-clause-fits : goal.returns-clause-fits
returns-clause-fits c =
    let d = found (goal.at.returns-clause-fits c).In_ok-part in
    fits c.open.result c.args.plan.now c.args.number d.0 c.in_ok-part.part _ d.1 d.2 d.3
    c.open.ensures.part c.open.ensures.row

pub returns-clause-journal : goal.returns-clause-journal
returns-clause-journal c = c.open.ensures.journal
