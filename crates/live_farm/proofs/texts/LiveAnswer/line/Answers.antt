use Rattle.std.proofs.Common.{◌≡◌, ◌++◌, List, ℕ, [], ◌∷◌, true, string_bytes, refl, sym, subst, rules}
use Rattle.live_farm.specs.WholeLines.{are_lines}
use Rattle.live_farm.proofs.Whole.{ended_lines, ended_behind}
use Rattle.live_farm.proofs.texts.LiveAnswer.line.Goals as goal

pub of-requires : goal.of-requires
of-requires c =
    let is : string_bytes c.push_str.new.self ≡ string_bytes c.args.text ++ 10 ∷ [] = search rules in
    subst (λ (t : List ℕ). are_lines t ≡ true) (sym is)
    (ended_lines (string_bytes c.args.text ++ 10 ∷ []) (ended_behind (string_bytes c.args.text) (10 ∷ []) refl))
