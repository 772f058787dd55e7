use Rattle.std.proofs.Common.{◌≡◌, ◌↔◌, ◌≤◌, ◌-◌, ℕ, List, [], ◌∷◌, length, get_or, take, drop, sym, ◌∙◌, arith}
use Rattle.std.proofs.lemmas.List.{take_all}
use Rattle.lab_words.proofs.questions.are_the_lines.Goals as goal

-- what says that a list is these lines says that the rest of the list is the rest of the lines
same_after : (P : Type 0) (xs lines after : List ℕ) (next : ℕ) → 1 ≤ length xs → get_or xs 0 0 ≡ next
    → lines ≡ next ∷ after → P ↔ (xs ≡ lines)
    → P ↔ (take (length xs - 1) (drop 1 xs) ≡ after)
same_after P [] lines after next some first is same = absurd (omega arith)
same_after P (x ∷ xs) lines after next some first is same =
    let rest : take (length (x ∷ xs) - 1) (drop 1 (x ∷ xs)) ≡ xs =
    take_all (length (x ∷ xs) - 1) xs (omega arith) in (
      λ p. let whole : x ∷ xs ≡ lines = same.0 p in
          let behind : xs ≡ after = cc in
          rest ∙ behind,
      λ e. let head : x ≡ next = first in
          let behind : xs ≡ after = sym rest ∙ e in
          let whole : x ∷ xs ≡ lines = cc in
          same.1 whole,
    )

pub loop-next-preserved : goal.loop-next-preserved
loop-next-preserved c =
    same_after _ c.loop-next.rest.now _ _ c.in-Some.next c.in-len1-up.len_at_least c.if-first-next.true
    c.in-Some.ensures.next c.loop-next.invariant
