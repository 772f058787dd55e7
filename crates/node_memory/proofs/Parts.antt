-- Four bytes written in a part of memory are written in memory.
use Rattle.std.proofs.Common.{◌≡◌, ℕ, ◌+◌, ◌-◌, ◌<◌, ◌≤◌, List, ◌++◌, length, take}
use Rattle.std.proofs.Common.{drop, slice_set, sym, ap, ◌∙◌, arith, length-set}
use Rattle.std.proofs.lemmas.List.{set-append_left, set-append_right, length-take-le, length-drop}
use borrow.Rule.Slice.PartMut.{put_mid, mid_of, post_of, put_same}

-- a byte that is written at a place of the part
set-mid : (a k j : ℕ) (xs ys : List ℕ) (v : ℕ) → a ≤ length xs → j < length ys
    → put_mid a k xs (slice_set ys j v) ≡ slice_set (put_mid a k xs ys) (a + j) v
set-mid a k j xs ys v inside below =
    let offset : a + j - a ≡ j = omega arith in
    ap (λ (l : List ℕ). take a xs ++ l)
    (sym (set-append_left ys (post_of a k xs) j v below)
    ∙ ap (λ (i : ℕ). slice_set (ys ++ post_of a k xs) i v) (sym offset))
    ∙ sym (set-append_right (take a xs) (ys ++ post_of a k xs) a (a + j) v (length-take-le a xs inside) (omega arith))

long : (a k : ℕ) (xs : List ℕ) → k ≡ 4 → a + 4 ≤ length xs → length (mid_of a k xs) ≡ 4
long a k xs four within = length-take-le k (drop a xs) (omega (arith, four, within, length-drop a xs)) ∙ four

-- the four bytes of a word
pub four_set : (a k : ℕ) (xs : List ℕ) (v0 v1 v2 v3 : ℕ) → k ≡ 4 → a + 4 ≤ length xs
    → put_mid a k xs (slice_set (slice_set (slice_set (slice_set (mid_of a k xs) 0 v0) 1 v1) 2 v2) 3 v3)
    ≡ slice_set (slice_set (slice_set (slice_set xs a v0) (a + 1) v1) (a + 2) v2) (a + 3) v3
four_set a k xs v0 v1 v2 v3 four within =
    let m0 = mid_of a k xs in
    let m1 = slice_set m0 0 v0 in
    let m2 = slice_set m1 1 v1 in
    let m3 = slice_set m2 2 v2 in
    let n0 : length m0 ≡ 4 = long a k xs four within in
    let n1 : length m1 ≡ 4 = length-set m0 0 v0 ∙ n0 in
    let n2 : length m2 ≡ 4 = length-set m1 1 v1 ∙ n1 in
    let n3 : length m3 ≡ 4 = length-set m2 2 v2 ∙ n2 in
    let inside : a ≤ length xs = omega (arith, within) in
    set-mid a k 3 xs m3 v3 inside (omega (arith, n3))
    ∙ ap (λ (l : List ℕ). slice_set l (a + 3) v3) (set-mid a k 2 xs m2 v2 inside (omega (arith, n2)))
    ∙ ap (λ (l : List ℕ). slice_set (slice_set l (a + 2) v2) (a + 3) v3)
    (set-mid a k 1 xs m1 v1 inside (omega (arith, n1)))
    ∙ ap (λ (l : List ℕ). slice_set (slice_set (slice_set l (a + 1) v1) (a + 2) v2) (a + 3) v3)
    (set-mid a k 0 xs m0 v0 inside (omega (arith, n0)) ∙ ap (λ (l : List ℕ). slice_set l (a + 0) v0) (put_same a k xs)
    ∙ ap (λ (i : ℕ). slice_set xs i v0) (omega arith))
