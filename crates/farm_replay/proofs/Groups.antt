-- Groups of equal neighbours, as a list grows.
use Rattle.std.proofs.Common.{arith, ◌≡◌, ◌≢◌, ◌<◌, ◌+◌, ℕ, zero, suc, List, [], ◌∷◌, ◌++◌}
use Rattle.std.proofs.Common.{codes, replicate, refl, sym, ap, ◌∙◌, subst, append_assoc}
use Rattle.std.proofs.lemmas.List.{append-nil, replicate-append-replicate}
use Rattle.std.proofs.lemmas.Grind.{flat_map-append}
use Rattle.std.specs.List.{flat_map, join_by}
use Rattle.farm_replay.specs.Listing.{Group, AreGroups, grouped_texts, group_text, IsListing}
use Rattle.farm_replay.specs.Kept.{KeptList, last_group, IsBehind, IsUnwritten, HoldsTextsAt, HoldsTexts}

-- the texts of groups, and of one more
texts_of_more : (groups : List Group) (g : Group)
    → grouped_texts (groups ++ g ∷ []) ≡ grouped_texts groups ++ replicate g.count g.text
texts_of_more groups g =
    flat_map-append (λ (x : Group). replicate x.count x.text) groups (g ∷ [])
    ∙ ap (λ (xs : List (List ℕ)). grouped_texts groups ++ xs) (append-nil (replicate g.count g.text))

-- the last group has that many more of its text
apart_grown : (groups : List Group) (count more : ℕ) (text : List ℕ)
    → AreGroups (groups ++ record { count = count; text = text } ∷ [])
    → AreGroups (groups ++ record { count = count + more; text = text } ∷ [])
apart_grown [] count more text so = omega (arith, so)
apart_grown (g ∷ []) count more text so = (so.0, so.1, omega (arith, so.2))
apart_grown (g ∷ h ∷ groups) count more text so = (so.0, so.1, apart_grown (h ∷ groups) count more text so.2)

many_more_alike : (texts : List (List ℕ)) (l : KeptList) (more : ℕ) → IsBehind texts l
    → IsBehind (texts ++ replicate more l.last) (record l { count = l.count + more })
many_more_alike texts l more so = record {
  groups = so.groups;
  apart = apart_grown so.groups l.count more l.last so.apart;
  all =
      texts_of_more so.groups (record { count = l.count + more; text = l.last })
      ∙ ap (λ (xs : List (List ℕ)). grouped_texts so.groups ++ xs)
      (sym (replicate-append-replicate l.count more l.last))
      ∙ sym (append_assoc (grouped_texts so.groups) (replicate l.count l.last) (replicate more l.last))
      ∙ ap (λ (xs : List (List ℕ)). xs ++ replicate more l.last)
      (sym (texts_of_more so.groups (last_group l)) ∙ so.all);
  written = so.written;
}

-- a group of one other text after the last
apart_more : (groups : List Group) (g group : Group) → AreGroups (groups ++ g ∷ [])
    → g.text ≢ group.text → 0 < group.count
    → AreGroups (groups ++ g ∷ [] ++ group ∷ [])
apart_more [] g group so ne some = (so, ne, some)
apart_more (a ∷ []) g group so ne some = (so.0, so.1, (so.2, ne, some))
apart_more (a ∷ b ∷ groups) g group so ne some = (so.0, so.1, apart_more (b ∷ groups) g group so.2 ne some)

many_others : (texts : List (List ℕ)) (l kept : KeptList)
    → IsBehind texts l → l.last ≢ kept.last → 0 < kept.count → kept.text
    ≡ l.text ++ group_text (last_group l) ++ codes ", "
    → IsBehind (texts ++ replicate kept.count kept.last) kept
many_others texts l kept so ne some text = record {
  groups = so.groups ++ last_group l ∷ [];
  apart = apart_more so.groups (last_group l) (last_group kept) so.apart ne some;
  all =
      texts_of_more (so.groups ++ last_group l ∷ []) (last_group kept)
      ∙ ap (λ (xs : List (List ℕ)). xs ++ replicate kept.count kept.last) so.all;
  written =
      text ∙ append_assoc l.text (group_text (last_group l)) (codes ", ")
      ∙ ap (λ (xs : List ℕ). xs ++ (group_text (last_group l) ++ codes ", ")) so.written
      ∙ ap (λ (xs : List ℕ). written_of so.groups ++ xs) (sym (append-nil (group_text (last_group l) ++ codes ", ")))
      ∙ sym (flat_map-append (λ (g : Group). group_text g ++ codes ", ") so.groups (last_group l ∷ []));
}
  where
    written_of : List Group → List ℕ
    written_of groups = flat_map (λ g. group_text g ++ codes ", ") groups

-- commas after all but the last are commas between all
commas : (groups : List Group) (g : Group)
    → flat_map (λ h. codes ", " ++ group_text h) (groups ++ g ∷ [])
    ≡ codes ", " ++ (flat_map (λ h. group_text h ++ codes ", ") groups ++ group_text g)
commas [] g = append-nil (codes ", " ++ group_text g)
commas (h ∷ groups) g =
    ap (λ (xs : List ℕ). codes ", " ++ group_text h ++ xs) (commas groups g)
    ∙ append_assoc (codes ", ") (group_text h)
    (codes ", " ++ (flat_map (λ x. group_text x ++ codes ", ") groups ++ group_text g))
    ∙ ap (λ (xs : List ℕ). codes ", " ++ xs)
    (sym (append_assoc (group_text h) (codes ", ")
    (flat_map (λ x. group_text x ++ codes ", ") groups ++ group_text g))
    ∙ sym (append_assoc (group_text h ++ codes ", ")
    (flat_map (λ x. group_text x ++ codes ", ") groups) (group_text g)))

joined : (groups : List Group) (g : Group)
    → flat_map (λ h. group_text h ++ codes ", ") groups ++ group_text g
    ≡ join_by group_text (codes ", ") (groups ++ g ∷ [])
joined [] g = sym (append-nil (group_text g))
joined (h ∷ groups) g =
    append_assoc (group_text h ++ codes ", ") (flat_map (λ x. group_text x ++ codes ", ") groups) (group_text g)
    ∙ append_assoc (group_text h) (codes ", ") (flat_map (λ x. group_text x ++ codes ", ") groups ++ group_text g)
    ∙ ap (λ (xs : List ℕ). group_text h ++ xs) (sym (commas groups g))

-- texts whose last are a group after the written ones are a listing once the group is written
pub listing_of : (texts : List (List ℕ)) (l : KeptList) (line : List ℕ)
    → IsBehind texts l → line ≡ l.text ++ group_text (last_group l)
    → IsListing texts line
listing_of texts l line so text = record {
  groups = so.groups ++ last_group l ∷ [];
  apart = so.apart;
  all = so.all;
  divided = text ∙ ap (λ (xs : List ℕ). xs ++ group_text (last_group l)) so.written ∙ joined so.groups (last_group l);
}

-- ---- of lists

-- a list with a last group
behind : (texts : List (List ℕ)) (l : KeptList) (count : ℕ) → count ≢ 0 → HoldsTextsAt texts l count → IsBehind texts l
behind texts l zero some so = absurd (some refl)
behind texts l (suc n) some so = so

-- a list with a group of fewer texts has a last group
holds : (texts : List (List ℕ)) (l : KeptList) (count : ℕ) → count ≢ 0 → IsBehind texts l → HoldsTextsAt texts l count
holds texts l zero some so = absurd (some refl)
holds texts l (suc n) some so = so

-- nothing more
pub push_none : (texts : List (List ℕ)) (l : KeptList) (answer : List ℕ) → HoldsTexts texts l
    → HoldsTexts (texts ++ replicate 0 answer) l
push_none texts l answer so = subst (λ (ts : List (List ℕ)). HoldsTexts ts l) (sym (append-nil texts)) so

-- the first group
pub push_first : (texts : List (List ℕ)) (l kept : KeptList) (answer : List ℕ) (more : ℕ)
    → HoldsTexts texts l → l.count ≡ 0 → kept.text ≡ l.text → kept.last ≡ answer → kept.count ≡ more → more ≢ 0
    → HoldsTexts (texts ++ replicate more answer) kept
push_first texts l kept answer more so none text last count some =
    let empty : IsUnwritten texts l = subst (λ n. HoldsTextsAt texts l n) none so in
    let counted : kept.count ≢ 0 = λ e. some (sym count ∙ e) in
    holds (texts ++ replicate more answer) kept kept.count counted (record {
      groups = [];
      apart = omega (arith, counted);
      all =
          append-nil (replicate kept.count kept.last) ∙ (λ i. replicate (count i) (last i))
          ∙ ap (λ (ts : List (List ℕ)). ts ++ replicate more answer) (sym empty.none);
      written = text ∙ empty.text;
    })

-- answers that are the last one again lengthen its group
pub push_alike : (texts : List (List ℕ)) (l kept : KeptList) (answer : List ℕ) (more : ℕ)
    → HoldsTexts texts l → l.count ≢ 0 → l.last ≡ answer → kept.text ≡ l.text → kept.last ≡ l.last
    → kept.count ≡ l.count + more
    → HoldsTexts (texts ++ replicate more answer) kept
push_alike texts l kept answer more so some same text last count =
    let whole : record l { count = l.count + more } ≡ kept =
    λ i. record { text = sym text i; last = sym last i; count = sym count i } in
    let done : IsBehind (texts ++ replicate more answer) kept =
    subst (λ (n : KeptList). IsBehind (texts ++ replicate more answer) n) whole
    (subst (λ (a : List ℕ). IsBehind (texts ++ replicate more a) (record l { count = l.count + more })) same
    (many_more_alike texts l more (behind texts l l.count some so))) in
    holds (texts ++ replicate more answer) kept kept.count (λ e. some (omega (arith, count, e))) done

-- another answer writes the group before it, and begins its own
pub push_other : (texts : List (List ℕ)) (l kept : KeptList) (answer : List ℕ) (more : ℕ)
    → HoldsTexts texts l → l.count ≢ 0 → l.last ≢ answer → kept.last ≡ answer → kept.count ≡ more → more ≢ 0
    → kept.text ≡ l.text ++ group_text (last_group l) ++ codes ", "
    → HoldsTexts (texts ++ replicate more answer) kept
push_other texts l kept answer more so some other last count few text =
    let ne : l.last ≢ kept.last = λ e. other (e ∙ last) in
    let counted : kept.count ≢ 0 = λ e. few (sym count ∙ e) in
    let done : IsBehind (texts ++ replicate kept.count kept.last) kept =
    many_others texts l kept (behind texts l l.count some so) ne (omega (arith, counted)) text in
    holds (texts ++ replicate more answer) kept kept.count counted
    (subst (λ (ts : List (List ℕ)). IsBehind (texts ++ ts) kept) (λ i. replicate (count i) (last i)) done)

-- the line of a list, which is what is written if there is no text
pub listing_at : (texts : List (List ℕ)) (l : KeptList) (line : List ℕ)
    → HoldsTexts texts l → l.count ≢ 0 → line ≡ l.text ++ group_text (last_group l)
    → IsListing texts line
listing_at texts l line so some = listing_of texts l line (behind texts l l.count some so)

-- a list that holds no text is the empty line
pub listing_of_none : (texts : List (List ℕ)) (l : KeptList) (line : List ℕ)
    → HoldsTexts texts l → l.count ≡ 0 → line ≡ l.text
    → IsListing texts line
listing_of_none texts l line so none text =
    let empty : IsUnwritten texts l = subst (λ n. HoldsTextsAt texts l n) none so in
    record { groups = []; apart = tt; all = sym empty.none; divided = text ∙ empty.text }
