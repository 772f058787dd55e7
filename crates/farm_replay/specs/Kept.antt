-- A list of texts that grows, as contracts see it.
use Rattle.std.specs.Prelude.{◌≡◌, ℕ, zero, suc, List, [], ◌∷◌, ◌++◌, codes}
use Rattle.std.specs.List.{flat_map}
use Rattle.farm_replay.specs.Listing.{Group, grouped_texts, AreGroups, group_text}

-- what contracts see of it: what is written, and the last group, which isn't yet
pub record KeptList : Type 0 where
  pub text : List ℕ
  pub last : List ℕ
  pub count : ℕ

-- the last group of a list
abbrev pub last_group : KeptList → Group
last_group l = record { count = l.count; text = l.last }

-- these groups are written, each with a comma after it, and with the last one they are all texts
pub record IsBehind (texts : List (List ℕ)) (l : KeptList) : Type 0 where
  pub groups : List Group
  pub apart : AreGroups (groups ++ last_group l ∷ [])
  pub all : grouped_texts (groups ++ last_group l ∷ []) ≡ texts
  pub written : l.text ≡ flat_map (λ g. group_text g ++ codes ", ") groups

-- nothing is written yet
pub record IsUnwritten (texts : List (List ℕ)) (l : KeptList) : Type 0 where
  pub none : texts ≡ []
  pub text : l.text ≡ []

-- the list has these texts, if this is the count of its last group
abbrev pub HoldsTextsAt : List (List ℕ) → KeptList → ℕ → Type 0
HoldsTextsAt texts l zero = IsUnwritten texts l
HoldsTextsAt texts l (suc more) = IsBehind texts l

-- the list has these texts, by its own count
abbrev pub HoldsTexts : List (List ℕ) → KeptList → Type 0
HoldsTexts texts l = HoldsTextsAt texts l l.count

-- the list gains these texts
abbrev pub TakesTexts : KeptList → KeptList → List (List ℕ) → Type 0
TakesTexts old new more = (texts : List (List ℕ)) → HoldsTexts texts old → HoldsTexts (texts ++ more) new
