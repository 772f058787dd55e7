-- Several texts in one line, divided by commas: equal neighbours are written once, after their number. The form is our
-- own.
use Rattle.std.specs.Prelude.{◌≡◌, ◌≢◌, ◌<◌, ℕ, List, [], ◌∷◌, ◌++◌, codes, replicate, nat_lt, if◌then◌else◌, ⊤}
use Rattle.std.specs.List.{flat_map, join_by}
use Rattle.std.specs.Fmt.{decimal}

-- equal neighbours: how many there are, and the text of each
pub record Group : Type 0 where
  pub count : ℕ
  pub text : List ℕ

-- the texts that groups stand for
abbrev pub grouped_texts : List Group → List (List ℕ)
grouped_texts groups = flat_map (λ g. replicate g.count g.text) groups

-- no group is empty, and neighbours differ
abbrev pub AreGroups : List Group → Type 0
AreGroups [] = ⊤
AreGroups (g ∷ []) = 0 < g.count
AreGroups (g ∷ h ∷ groups) = (0 < g.count) × (g.text ≢ h.text) × AreGroups (h ∷ groups)

-- a group in words: the text, after its number if that is more than one
abbrev pub group_text : Group → List ℕ
group_text g = if nat_lt 1 g.count then decimal g.count ++ codes " " ++ g.text else g.text

-- the line of these texts
pub record IsListing (texts : List (List ℕ)) (line : List ℕ) : Type 0 where
  pub groups : List Group
  pub apart : AreGroups groups
  pub all : grouped_texts groups ≡ texts
  pub divided : line ≡ join_by group_text (codes ", ") groups
