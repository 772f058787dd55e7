-- A plan of one domain that is like a domain of another plan: the contract of `is_alike`.
use Rattle.std.specs.Prelude.{◌≡◌, ◌<◌, ℕ, List, [], ◌∷◌, length, Option, Some, None, IfSome, slice_get}
use Rattle.std.proofs.Common.{inl, inr, refl, ap, sym, ◌∙◌, subst, arith}
use Rattle.std.proofs.lemmas.Option.{slice_get_cases}
use Rattle.crossbar.specs.declared.range.PortRange.{PortRange}
use Rattle.crossbar.specs.Ranges.{ranged_ports}
use Rattle.plan_rules.specs.Data.{DomainData}
use Rattle.plan_rules.specs.Part.{PartData, part_of, four_ranges}
use Rattle.farm_records.specs.Heads.{AreAlike, AreNamedAlike, IsOnlyDomain}

-- two domains, if both are there, are alike if their parts, their ranges and their names are the same
pub alike_if : (one other : Option DomainData) (part other_part : PartData)
    (ranges other_ranges : List (Option PortRange))
    → IfSome one (λ d. part ≡ part_of d) → IfSome other (λ e. other_part ≡ part_of e) → part ≡ other_part
    → IfSome one (λ d. ranges ≡ four_ranges d) → IfSome other (λ e. other_ranges ≡ four_ranges e)
    → ranges ≡ other_ranges → IfSome one (λ d. IfSome other (λ e. AreNamedAlike d.users e.users))
    → IfSome one (λ d. IfSome other (λ e. AreAlike d e))
alike_if None other part other_part ranges other_ranges equal agrees same matches other_same alike names = tt
alike_if (Some d) None part other_part ranges other_ranges equal agrees same matches other_same alike names = tt
alike_if (Some d) (Some e) part other_part ranges other_ranges equal agrees same matches other_same
    alike names = record {
      part = sym equal ∙ (same ∙ agrees);
      ports = ap ranged_ports (sym matches ∙ (alike ∙ other_same));
      names = names;
    }

-- the domain of this number, which is there
at_number : (plan : List DomainData) (d : DomainData) (number : ℕ)
    → number < length plan → IfSome (slice_get plan number) (λ e. AreAlike d e)
    → IsOnlyDomain plan number (d ∷ [])
at_number plan d number less alike = elim (slice_get_cases plan number).1 [
  | inl found ↦ record {
    alone = d;
    domain = found.0;
    only = refl;
    there = found.2;
    alike = subst (λ (o : Option DomainData). IfSome o (λ e. AreAlike d e)) found.2 alike;
  }
  | inr past ↦ absurd (omega (arith, less, past.0))
]

-- a plan of one domain, which is like that of this number in another plan, is the plan of it alone
pub only_domain : (plan alone : List DomainData) (number : ℕ)
    → length alone ≡ 1 → number < length plan
    → IfSome (slice_get alone 0) (λ d. IfSome (slice_get plan number) (λ e. AreAlike d e))
    → IsOnlyDomain plan number alone
only_domain plan [] number one less alike = absurd (omega (arith, one))
only_domain plan (d ∷ []) number one less alike = at_number plan d number less alike
only_domain plan (d ∷ e ∷ more) number one less alike = absurd (omega (arith, one))
