-- The domains of an accepted plan, as the table takes them, for `SwitchTable::open`.
use Rattle.std.proofs.Common.{◌≡◌, ℕ, zero, suc, ◌<◌, List, [], ◌∷◌, length, Some, IfSome, slice_get, AllPairs}
use Rattle.std.proofs.Common.{Contains, inl, inr, refl, sym, ap, ◌∙◌, subst, arith}
use Rattle.std.proofs.lemmas.Bool.{cases_order}
use Rattle.std.proofs.lemmas.Option.{none-some, same_Some, get_or_from_slice_get, slice_get_within}
use Rattle.crossbar.specs.declared.range.PortRange.{PortRange}
use Rattle.crossbar.specs.Ranges.{ranged_ports}
use Rattle.plan_rules.specs.Data.{DomainData}
use Rattle.plan_rules.specs.Part.{four_ranges, physical_ports, AreSeparate}
use Rattle.switch_table.specs.Domains.{domains_of, AreDisjoint}
use Rattle.std.specs.Prelude.{Option}

mapped : (plan : List DomainData) (k : ℕ) (ports : List ℕ) → slice_get (domains_of plan) k ≡ Some ports
    → (d : DomainData) × (slice_get plan k ≡ Some d) × (physical_ports d ≡ ports)
mapped [] k ports is = absurd (none-some ports is)
mapped (d ∷ plan) zero ports is = (d, refl, same_Some _ _ is)
mapped (d ∷ plan) (suc k) ports is = mapped plan k ports is

apart : (plan : List DomainData) (m n port : ℕ) (d e : List ℕ)
    → AllPairs AreSeparate plan → m < n → slice_get (domains_of plan) m ≡ Some d
    → slice_get (domains_of plan) n ≡ Some e → Contains d port → Contains e port
    → ⊥
apart plan m n port d e given less is_d is_e in_d in_e =
    let one = mapped plan m d is_d in
    let other = mapped plan n e is_e in
    let separate = given m n one.0 less (slice_get_within plan n other.0 other.1) in
    let first = get_or_from_slice_get plan m one.0 one.0 one.1 in
    let second = get_or_from_slice_get plan n other.0 one.0 other.1 in
    separate port
    (subst (λ (ports : List ℕ). Contains ports port) (sym (ap physical_ports first ∙ one.2)) in_d)
    (subst (λ (ports : List ℕ). Contains ports port) (sym (ap physical_ports second ∙ other.2)) in_e)

-- the domains of a separate plan have no port in common, as the table takes them
pub separate_domains : (plan : List DomainData) → AllPairs AreSeparate plan → AreDisjoint (domains_of plan)
separate_domains plan given m n port d e is_d is_e in_d in_e =
    elim (cases_order m n) [
      | inl same ↦ same
      | inr (inl less) ↦ absurd (apart plan m n port d e given less is_d is_e in_d in_e)
      | inr (inr more) ↦ absurd (apart plan n m port e d given more is_e is_d in_e in_d)
    ]

-- the numbering of a domain's ranges is its list of ports
pub own_domain : (plan : List DomainData) (i : ℕ) (ranges : List (Option PortRange)) (numbering : List ℕ)
    → i < length plan → IfSome (slice_get plan i) (λ d. ranges ≡ four_ranges d) → numbering ≡ ranged_ports ranges
    → slice_get (domains_of plan) i ≡ Some numbering
own_domain [] i ranges numbering inside row is = absurd (omega arith)
own_domain (d ∷ plan) zero ranges numbering inside row is =
    ap (λ (ports : List ℕ). Some ports) (sym (is ∙ ap ranged_ports row))
own_domain (d ∷ plan) (suc i) ranges numbering inside row is = own_domain plan i ranges numbering (omega arith) row is

-- there are as many lists of ports as the plan has domains
pub length-domains : (plan : List DomainData) → length (domains_of plan) ≡ length plan
length-domains [] = refl
length-domains (d ∷ plan) = ap suc (length-domains plan)
