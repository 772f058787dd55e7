-- Passes that are lent as a slice, and left as they were: the clause `passes` of `work_all`.
use Rattle.std.proofs.Common.{◌≡◌, ℕ, suc, ◌<◌, List, [], ◌∷◌, ◌++◌, length}
use Rattle.std.proofs.Common.{take, drop, slice_get, refl, sym, ◌∙◌, arith}
use Rattle.std.proofs.lemmas.Option.{same_Some}
use Rattle.std.proofs.Math.Seq.{take-append_seam}
use Rattle.token_queue.specs.Passes.{WorkerPassValue}

same_items : (xs ys : List WorkerPassValue)
    → ((i : ℕ) → i < length xs → slice_get ys i ≡ slice_get xs i) → length ys ≡ length xs
    → ys ≡ xs
same_items [] [] each count = refl
same_items [] (y ∷ ys) each count = absurd (omega arith)
same_items (x ∷ xs) [] each count = absurd (omega arith)
same_items (x ∷ xs) (y ∷ ys) each count =
    λ k. same_Some _ _ (each 0 (omega arith)) k
    ∷ same_items xs ys (λ i less. each (suc i) (omega arith)) (omega arith) k

-- a slice of all passes of a list, all left as they were, leaves the list
pub written_back : (len : ℕ) (old lent new : List WorkerPassValue)
    → lent ≡ old → length lent ≡ len → ((i : ℕ) → i < length lent → slice_get new i ≡ slice_get lent i)
    → length new ≡ length lent
    → take len (new ++ drop (length new) old) ≡ old
written_back len old lent new is all each count =
    let counted : len ≡ length new = sym all ∙ sym count in
    (λ k. take (counted k) (new ++ drop (length new) old)) ∙ take-append_seam new (drop (length new) old)
    ∙ same_items lent new each count ∙ is
