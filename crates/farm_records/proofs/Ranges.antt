-- Ranges are equal exactly if their comparison says so: the contract of `are_same_ranges`.
use Rattle.std.proofs.Common.{◌≡◌, ℕ, Bool, ◌&&◌, Option, Some, None, refl, ap}
use Rattle.std.specs.Bool.{Decides}
use Rattle.std.specs.Option.{option_eq}
use lib.Dec.{eqb}
use Rattle.std.proofs.lemmas.Bool.{false≢true}
use Rattle.std.proofs.lemmas.Bool.Decides.{Decides-eqb, Decides-and}
use Rattle.crossbar.specs.declared.range.PortRange.{PortRange}

-- a range from its ends
abbrev range : ℕ → ℕ → PortRange
range first last = record { first = first; last = last }

ranges_equal : (p q user v : ℕ) → p ≡ q → user ≡ v → range p user ≡ range q v
ranges_equal p q user v same equal = cc

-- how ranges are compared
abbrev pub range_eq : PortRange → PortRange → Bool
range_eq other_range third_range = eqb other_range.first third_range.first && eqb other_range.last third_range.last

same_range : (other_range third_range : PortRange) → Decides (range_eq other_range third_range)
    (other_range ≡ third_range)
same_range other_range third_range =
    let fields = Decides-and _ _ (Decides-eqb other_range.first third_range.first)
    (Decides-eqb other_range.last third_range.last) in (
      λ e. ranges_equal other_range.first third_range.first other_range.last third_range.last
          (fields.0 e).0 (fields.0 e).1,
      λ e. fields.1 (ap (λ (r : PortRange). r.first) e, ap (λ (r : PortRange). r.last) e),
    )

-- two ranges, which may be missing, are equal exactly if their comparison says so
pub same_range_or_none : (other_range third_range : Option PortRange)
    → Decides (option_eq range_eq other_range third_range) (other_range ≡ third_range)
same_range_or_none None None = (λ e. refl, λ e. refl)
same_range_or_none None (Some y) = (λ e. absurd (false≢true e), λ e. cc)
same_range_or_none (Some x) None = (λ e. absurd (false≢true e), λ e. cc)
same_range_or_none (Some x) (Some y) =
    (λ e. ap Some ((same_range x y).0 e), λ e. let same : x ≡ y = cc in (same_range x y).1 same)
