use Rattle.std.proofs.Common.{◌≡◌, ℕ, suc, zero, ◌+◌, ◌*◌, ◌^◌, ◌<◌, ◌≤◌, ◌∙◌, arith, ap, sym, refl}
use Rattle.std.proofs.Math.Nat.{mul-le-mul_right, mul-lt-mul_of_pos_right}
use Rattle.std.proofs.lemmas.Nat.{leading_top, pow-add, pow_pos}
use Rattle.std.specs.Int.Count.{count_leading_zeros}
use Rattle.node_memory.proofs.words.normal_places.Goals as goal

-- a number of j + 1 binary digits moved up by r places has j + r + 1
at_top : (a rest j : ℕ) → rest + suc j ≡ 64 → 2 ^ j ≤ a → a < 2 ^ suc j → (2 ^ 63 ≤ a * 2 ^ rest)
    × (a * 2 ^ rest < 2 ^ 64)
at_top a rest j same least most =
    let p : 2 ^ j * 2 ^ rest ≡ 2 ^ 63 = sym (pow-add 2 j rest)
    ∙ (let same : j + rest ≡ 63 = omega arith in ap (λ k. 2 ^ k) same) in
    let q : 2 ^ suc j * 2 ^ rest ≡ 2 ^ 64 =
    sym (pow-add 2 (suc j) rest) ∙ (let same : suc j + rest ≡ 64 = omega arith in ap (λ k. 2 ^ k) same) in
    let h = mul-le-mul_right (2 ^ rest) least in
    let k = mul-lt-mul_of_pos_right most (pow_pos rest) in
    (omega arith, omega arith)

pub returns-clause-top : goal.returns-clause-top
returns-clause-top c = λ above.
    let n = c.args.long in
    let t = leading_top 64 n above (omega arith) in
    (at_top n (count_leading_zeros 64 n) t.0 t.1 t.2 t.3).0

below_top : (n : ℕ) → n < 2 ^ 64 → n * 2 ^ count_leading_zeros 64 n < 2 ^ 64
below_top zero less = omega arith
below_top (suc m) less =
    let t = leading_top 64 (suc m) (omega arith) less in
    (at_top (suc m) (count_leading_zeros 64 (suc m)) t.0 t.1 t.2 t.3).1

pub returns-clause-fits : goal.returns-clause-fits
returns-clause-fits c = below_top c.args.long (omega arith)

pub returns-clause-none : goal.returns-clause-none
unfolding count_leading_zeros
returns-clause-none c = λ e. rw e refl
